-- A line that isn't spent, seen with what says so.
use Rattle.std.proofs.Common.{◌≡◌, Bool, List, ap, false, subst, sym}
use Rattle.line_report.specs.declared.happening.LaneHappening.{LaneHappening}
use Rattle.line_script.specs.declared.line.LaneLine.{LaneLine}
use Rattle.law_lanes.specs.Lanes.{Lanes}
use Rattle.law_lanes.specs.Parts.{LaneLineSteps}
use Rattle.line_engine.specs.Tracks.{lanes_of, states_of}
use Rattle.line_engine.specs.declared.track.Track.{Track}

abbrev pub seen : Bool → List Track → Lanes
seen spent tracks = record { spent = spent; tracks = states_of tracks }

pub seen_as : (spent : Bool) (tracks : List Track) → spent ≡ false → lanes_of tracks ≡ seen spent tracks
seen_as spent tracks is = ap (λ (b : Bool). seen b tracks) (sym is)

pub line_seen : (line : LaneLine) (was now : Bool) (before after : List Track) (told : List LaneHappening) → was ≡ false → now ≡ false → LaneLineSteps line (lanes_of before) (lanes_of after) told → LaneLineSteps line (seen was before) (seen now after) told
line_seen line was now before after told was_is now_is steps =
    subst (λ (s : Lanes). LaneLineSteps line (seen was before) s told) (seen_as now after now_is)
    (subst (λ (s : Lanes). LaneLineSteps line s (lanes_of after) told) (seen_as was before was_is) steps)
