-- UNIQUE IDS of running machines.
use Rattle.std.specs.Prelude.{ℕ, [], filter, length, ◌≢◌, ◌≤◌}
use Rattle.line_world.specs.Boards.{boards_on}
use Rattle.line_world.specs.FloorPlan.{has_id}
use Rattle.line_world.specs.Ids.{IdsDiffer}
use Rattle.line_step.specs.State.{marks_in}
use Rattle.law_running_line.specs.Running.{Running}
use Rattle.law_running_line.specs.Stands.{IsMade, line_of}

-- no two boards on the floor share an id; and each id of a board on the floor, and each that has a
-- mark, was made by one of the machines
pub record HasUniqueIds (s : Running) : Type 0 where
  pub differ : IdsDiffer s.floor
  pub boards : (id : ℕ) → 1 ≤ length (filter (has_id id) (boards_on s.floor)) → IsMade s id
  pub marked : (id : ℕ) → marks_in (line_of s) id ≢ [] → IsMade s id
