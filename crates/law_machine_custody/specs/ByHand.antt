-- What is asked of a change by hand.
use Rattle.std.specs.Prelude.{Bool, List, Some, true, ℕ, ◌≡◌}
use Rattle.board_record.specs.declared.sensed.Sensed.{Sensed}
use Rattle.line_world.specs.declared.board.Board.{Board}
use Rattle.node_core.specs.Desk.{Desk}
use Rattle.node_core.specs.Reads.{all_read}
use Rattle.node_core.specs.declared.lane.Body.{Body as Machine}
use Rattle.law_machine_custody.specs.Scene.{Scene, all_met}
use Rattle.law_machine_custody.specs.Good.{Lies}

-- what is gone stays gone
abbrev pub Grows : (ℕ → Bool) → (ℕ → Bool) → Type 0
Grows gone gone2 = (x : ℕ) → gone x ≡ true → gone2 x ≡ true

-- no board that lies here is gone
abbrev pub AreHere : (ℕ → Bool) → List Board → Type 0
AreHere gone boards = (x : ℕ) → Lies x boards → gone x ≡ true → ⊥

-- the machine offered another board last, or none
abbrev pub IsNotLast : ℕ → Machine → Type 0
IsNotLast id body = body.last_offer ≡ Some id → ⊥

-- the body and the scene behind the reading
abbrev pub body_read : Desk → List Sensed → Machine → Machine
body_read desk unread body = (all_read desk unread body).body

abbrev pub scene_read : Desk → List Sensed → Machine → Scene → Scene
scene_read desk unread body c = all_met (all_read desk unread body).acts c
