-- OVER A WHOLE LINE of a script, on each lane: from the state before it to the state behind it, by what
-- is told of the lane.
use Rattle.std.specs.Prelude.{◌≤◌, ℕ, List}
use Rattle.line_report.specs.declared.happening.Happening.{Happening}
use Rattle.line_report.specs.declared.happening.LaneHappening.{LaneHappening}
use Rattle.line_step.specs.State.{LineState}
use Rattle.law_lanes.specs.Along.{told_for}
use Rattle.law_lanes.specs.Lanes.{Lanes, track}

abbrev pub OverLanes : (LineState → LineState → List Happening → Type 0) → Lanes → Lanes
    → List LaneHappening → Type 0
OverLanes Holds before after told =
    (lane : ℕ) → 1 ≤ lane → Holds (track lane before) (track lane after) (told_for lane told)
