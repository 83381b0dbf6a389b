use Rattle.std.specs.Prelude.{◌≡◌, ◌-◌, ℕ, List, length}
use Rattle.line_world.specs.declared.gap.AtGap.{AtGap}
use Rattle.line_world.specs.FloorPlan.{AtMachine}
use Rattle.line_world.specs.Boards.{boards_along}

-- there is a gap between each two neighbours, and as many boards as are counted
pub record IsCounted (machines : List AtMachine) (gaps : List AtGap) (boards : ℕ) : Type 0 where
  pub whole : length gaps ≡ length machines - 1
  pub all : boards ≡ length (boards_along machines gaps)
