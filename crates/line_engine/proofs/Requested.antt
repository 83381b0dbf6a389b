-- A request that changes nothing: it tells something, or nothing.
use Rattle.std.proofs.Common.{◌≡◌, ◌++◌, ℕ, List, [], append-nil, refl, sym}
use Rattle.line_report.specs.declared.happening.LaneHappening.{LaneHappening}
use Rattle.line_step.specs.Requests.{nothing, shows}
use Rattle.law_lanes.specs.Shown.{shown_on}
use Rattle.law_lanes.specs.Steps.{RequestDoes}
use Rattle.line_engine.specs.Tracks.{AreKept, TellsDone, lanes_of}
use Rattle.line_engine.specs.declared.track.Track.{Track}
use Rattle.line_engine.proofs.OnLane.{refused}

pub nothing_done : (number lane : ℕ) (tracks : List Track) (told : List LaneHappening) → AreKept tracks → TellsDone (RequestDoes number lane nothing) tracks tracks told told
nothing_done number lane tracks told kept =
    refused (RequestDoes number lane nothing) tracks [] told told kept (record { after_is = refl; told_is = refl }) (sym (append-nil told))

pub shown_done : (number lane : ℕ) (tracks : List Track) (old new : List LaneHappening) → AreKept tracks → new ≡ old ++ shown_on (lanes_of tracks) → TellsDone (RequestDoes number lane shows) tracks tracks old new
shown_done number lane tracks old new kept is =
    refused (RequestDoes number lane shows) tracks (shown_on (lanes_of tracks)) old new kept (record { after_is = refl; told_is = refl }) is
