-- That ids differ on a floor.
use Rattle.std.specs.Prelude.{◌≡◌, ◌≤◌, ℕ, true, filter, length}
use Rattle.line_world.specs.declared.board.Board.{Board}
use Rattle.line_world.specs.FloorPlan.{FloorPlan, has_id}
use Rattle.line_world.specs.Boards.{IsNowhere, boards_on}

-- no two boards of the floor, at machines and in gaps, have one id
pub record IdsDiffer (plan : FloorPlan) : Type 0 where
  pub once : (id : ℕ) → length (filter (has_id id) (boards_on plan)) ≤ 1

-- a board's id, if it has one, stands nowhere on the floor
abbrev pub HasFreshId : FloorPlan → Board → Type 0
HasFreshId plan board = (id : ℕ) → has_id id board ≡ true → IsNowhere id plan
