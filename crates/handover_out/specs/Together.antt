use Rattle.std.specs.Prelude.{◌≡◌, ℕ, Bool, true, false, List, [], ◌∷◌, Option, Some, None}
use Rattle.board_record.specs.declared.record.Record.{Record}
use Rattle.handover_out.specs.declared.input.OutInput.{OutInput}
use Rattle.handover_out.specs.declared.phase.Phase.TheVariants.{Idle, Moving, Stuck, Ended}
use Rattle.handover_out.specs.State.{OutState}
use Rattle.handover_out.specs.Table.{state_of}
use Rattle.handover_out.specs.Given.{IsGiven}
use Rattle.handover_out.specs.Run.{step}

-- What can stand together in an outlet. A board is offered, and the downstream machine is ready,
-- only while no handover is under way. What is offered is the board last offered, and so is the
-- one that is held while its connection stands. A board whose connection was closed has none
-- beside it.
pub data IsOutletTogether : OutState → Type 0 where
  together_free : {t : Option ℕ} {r : Bool} → IsOutletTogether (state_of Idle None t r)
  together_offered : {id : ℕ} {t : Option ℕ} {r : Bool} → t ≡ Some id
      → IsOutletTogether (state_of Idle (Some id) t r)
  together_moving : {board : Record} {begun : Bool} {t : Option ℕ} → t ≡ Some board.id
      → IsOutletTogether (state_of (Moving board begun) None t false)
  together_stuck : {board : Record} {stopped : Bool} {t : Option ℕ} → t ≡ Some board.id
      → IsOutletTogether (state_of (Stuck board true stopped) None t false)
  together_unlinked : {board : Record}
      → IsOutletTogether (state_of (Stuck board false false) None None false)
  together_ended : {id : ℕ} {t : Option ℕ} → IsOutletTogether (state_of (Ended id) None t false)

-- each of these inputs is given where it is to be given
abbrev pub AreGiven : OutState → List OutInput → Type 0
AreGiven s [] = Unit {0}
AreGiven s (input ∷ inputs) = IsGiven s input × AreGiven (step s input).after inputs
