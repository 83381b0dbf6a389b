-- The greatest turn of each machine.
use Rattle.std.specs.Prelude.{◌≡◌, ℕ, ◌+◌, ◌<◌, ◌==◌, List, [], ◌∷◌, Option, None, Some, max, slice_index, if◌then◌else◌}
use Rattle.line_check.specs.declared.group.Group.{Group}
use Rattle.line_check.specs.declared.turns.Turns.{Turns}
use Rattle.line_check.specs.LogLine.{group_of}

abbrev pub turn_in : ℕ → Option Group → ℕ
turn_in machine None = 0
turn_in machine (Some group) = if group.machine == machine then group.turn else 0

-- the greatest turn of a machine in lines, 0 where they have none of it
abbrev pub greatest_turn : ℕ → List (List ℕ) → ℕ
greatest_turn machine [] = 0
greatest_turn machine (line ∷ lines) =
    max (turn_in machine (group_of line)) (greatest_turn machine lines)

-- the greatest turns of machines 1 to 64
pub record AreTurns (lines : List (List ℕ)) (turns : Turns) : Type 0 where
  pub greatest : (place : ℕ) → place < 64
      → slice_index turns.greatest place ≡ greatest_turn (place + 1) lines
