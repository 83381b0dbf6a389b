-- THE MARKS OF A BOARD ON ALL LANES of a line, in one list.
use Rattle.std.specs.Prelude.{◌≡◌, ◌≤◌, ℕ, List}
use Rattle.line_step.specs.State.{marks_in}
use Rattle.law_lanes.specs.Lanes.{Lanes, track}
use Rattle.line_marks.specs.AllMarks.{AreOrdered, of_lane}
use Rattle.line_marks.specs.declared.all_marks.LaneMark.{LaneMark}

-- in ascending order of machine, then of lane; and on each lane those that the id has there, in
-- their order
pub record AreAllMarks (s : Lanes) (id : ℕ) (marks : List LaneMark) : Type 0 where
  pub each : (lane : ℕ) → 1 ≤ lane → of_lane lane marks ≡ marks_in (track lane s) id
  pub ordered : AreOrdered marks
