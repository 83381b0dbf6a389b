-- WHAT A LINE KEEPS between two lines of its script, while it is not spent.
use Rattle.std.specs.Prelude.{◌≡◌, ◌&&◌, ℕ, Bool, true, List, nat_le}
use Rattle.law_lanes.specs.Along.{IsLaneReached}
use Rattle.law_lanes.specs.Views.{summary_on}
use Rattle.law_lanes.specs.Lanes.{Lanes}
use Rattle.line_engine.specs.declared.track.Track.{Track}
use Rattle.line_engine.specs.Tracks.{AreKept, lanes_of}

-- what lanes count together can be told
abbrev pub most_counted : ℕ
most_counted = 18446744073709551615

abbrev pub is_counted : Lanes → Bool
is_counted s =
    nat_le (summary_on s).boards most_counted && nat_le (summary_on s).opened most_counted
    && nat_le (summary_on s).settled most_counted

-- what stands together in it, indexes that are its own, and a run that led to it
pub record IsKept (tracks : List Track) : Type 0 where
  pub kept : AreKept tracks
  pub counted : is_counted (lanes_of tracks) ≡ true
  pub reached : IsLaneReached (lanes_of tracks)
