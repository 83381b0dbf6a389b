use Rattle.std.specs.Prelude.{◌≡◌, ◌⊎◌, Bool, true, false, Option, Some, None, List, [], ◌∷◌, unwrap_or}
use Rattle.line_base.specs.declared.states.Seen.{Seen}
use Rattle.line_base.specs.declared.states.Seen.TheVariants.{NotStarted, Incomplete, Complete, Taken}
use Rattle.line_base.specs.declared.states.Transfer.{Transfer}
use Rattle.line_base.specs.declared.states.Transfer.TheVariants as said
use Rattle.transfer_state.specs.declared.intake.InEnd.TheVariants.{Wait}
use Rattle.transfer_state.specs.Intake.{in_ends}
use Rattle.handover_in.specs.declared.act.InAct.{InAct}
use Rattle.handover_in.specs.declared.act.InDeed.{InDeed}
use Rattle.handover_in.specs.declared.act.InDeed.TheVariants.{Starts, Settles, Drops}
use Rattle.handover_in.specs.declared.input.InInput.{InInput}
use Rattle.handover_in.specs.declared.input.InInput.TheVariants.{Finished, Sensed, Closed, Stand}
use Rattle.handover_in.specs.declared.phase.Phase.{Phase}
use Rattle.handover_in.specs.declared.phase.Phase.TheVariants.{Idle, Taking, Stopped, Waiting}
use Rattle.handover_in.specs.State.{InState}
use Rattle.handover_in.specs.Own.{own_after, is_taken}
use Rattle.handover_in.specs.Row.{InRow, intake_row, is_complete, complete_if}
use Rattle.handover_in.specs.Run.{step}

-- what was learned of the open handover's board, looking back over what was met since its start:
-- what the sensors saw, and what the neighbour said
pub record Learned : Type 0 where
  pub own : Seen
  pub heard : Option Transfer

abbrev pub nothing_yet : Learned
nothing_yet = record { own = NotStarted; heard = None }

-- one input more, that is no breach. Beyond a close counts only that the board has left
abbrev pub learn : Learned → InInput → Option InDeed → Learned
learn _ _ (Some (Starts _)) = nothing_yet
learn l (Sensed event) _ = record l { own = own_after l.own event }
learn l (Finished state _) _ = record l { heard = Some state }
learn l Closed _ = record l { heard = complete_if (is_complete l.heard) }
learn l _ _ = l

abbrev pub learned_after : Learned → InInput → Option InRow → Learned
learned_after l input (Some row) = learn l input row.act.deed
learned_after l _ None = l

abbrev pub learned_after_all : Learned → InState → List InInput → Learned
learned_after_all l s [] = l
learned_after_all l s (input ∷ inputs) =
    learned_after_all (learned_after l input (intake_row s input)) (step s input).after inputs

-- the neighbour said that its end of the handover is over for a board that has begun
abbrev pub HasLeft : Option Transfer → Type 0
HasLeft heard = (heard ≡ Some said.Complete) ⊎ (heard ≡ Some said.Incomplete)

-- a deed is as it was learned. A board is the machine's only once its own sensor saw it inside,
-- and the neighbour said so in its connection, or a new connection stands. It is dropped only
-- where the sensors saw that it didn't come, or that it was taken out
abbrev pub IsLearned : Learned → InInput → InAct → Option InDeed → Type 0
IsLearned l input _ (Some (Settles _)) = (l.own ≡ Complete) × (HasLeft l.heard ⊎ (input ≡ Stand))
IsLearned l _ act (Some (Drops _)) =
    ((l.own ≡ NotStarted) ⊎ (l.own ≡ Taken)) × (act.taken ≡ is_taken l.own)
IsLearned _ _ act _ = act.taken ≡ false

-- the drive is as the phase has it: on while a board is taken in, and off else, but that it may
-- run on for a board that has left and whose connection was closed
abbrev pub IsDriven : Phase → Bool → Type 0
IsDriven Idle on = on ≡ false
IsDriven (Taking _ _ _) on = on ≡ true
IsDriven (Stopped _ _ _) on = on ≡ false
IsDriven (Waiting _ _ true) on = Unit {0}
IsDriven (Waiting _ _ false) on = on ≡ false

-- whether the drive is on after a list of inputs, as it was last switched
abbrev pub drive_after_all : Bool → InState → List InInput → Bool
drive_after_all drive s [] = drive
drive_after_all drive s (input ∷ inputs) =
    drive_after_all (unwrap_or (step s input).act.drive drive) (step s input).after inputs

-- the phases that come up: a transport runs only before the board is inside or taken out, and
-- after a close a board is waited for that lies between the machines, or is inside and of which
-- nobody said that it has left
abbrev pub IsInPlay : Phase → Type 0
IsInPlay Idle = Unit {0}
IsInPlay (Taking _ own _) = (own ≡ NotStarted) ⊎ (own ≡ Incomplete)
IsInPlay (Stopped _ own (Some heard)) = in_ends own heard ≡ Wait
IsInPlay (Stopped _ _ None) = Unit {0}
IsInPlay (Waiting _ own true) = own ≡ Incomplete
IsInPlay (Waiting _ own false) = (own ≡ Incomplete) ⊎ (own ≡ Complete)
