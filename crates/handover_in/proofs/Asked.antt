use Rattle.std.proofs.Common.{◌≡◌, ◌==◌, ℕ, Bool, true, false, Option, Some, None, refl, ◌∙◌}
use denote.Enum.Bare.{sameb}
use Rattle.line_base.specs.contracts.states.SensorEvent.{the_type}
use Rattle.line_base.specs.declared.states.Seen.{Seen}
use Rattle.line_base.specs.declared.states.SensorEvent.{SensorEvent}
use Rattle.line_base.specs.declared.states.SensorEvent.TheVariants.{Begun, Left, Full, Back, Taken}
use Rattle.line_base.specs.declared.states.Transfer.{Transfer}
use Rattle.line_base.specs.declared.states.Transfer.TheVariants as transfer
use Rattle.board_record.specs.declared.record.Record.{Record}
use Rattle.transfer_state.specs.declared.intake.InEnd.{InEnd}
use Rattle.transfer_state.specs.declared.intake.InEnd.TheVariants.{Keep, Drop, Wait}
use Rattle.transfer_state.specs.Intake.{in_ends}
use Rattle.handover_in.specs.declared.phase.Phase.{Phase}
use Rattle.handover_in.specs.declared.phase.Phase.TheVariants as phase
use Rattle.handover_in.specs.Own.{own_after}
use Rattle.handover_in.specs.State.{InState, awaits_finish}
use Rattle.handover_in.specs.Row.{InRow, goes_on, finished_row, finishes_running, ends_running, ends_stopped, only_if, sensed_row, taking_row, stopped_row}

only_if_true : (b : Bool) (r : Option InRow) → b ≡ true → only_if b r ≡ r
only_if_true true r _ = refl
only_if_true false r h = cc

-- what these rows say doesn't depend on the phase in which they are asked

ends_running_of : (end : InEnd) (board : Record) (own : Seen) (s : InState) (p : Phase) (said : Transfer)
    → ends_running end s board own said ≡ ends_running end (goes_on s p) board own said
ends_running_of Keep _ _ _ _ _ = refl
ends_running_of Drop _ _ _ _ _ = refl
ends_running_of Wait _ _ _ _ _ = refl

finishes_running_of : (said : Transfer) (board : Record) (own : Seen) (s : InState) (p : Phase)
    → finishes_running said s board own ≡ finishes_running said (goes_on s p) board own
finishes_running_of transfer.NotStarted board own s p = ends_running_of (in_ends own transfer.NotStarted) board own s p transfer.NotStarted
finishes_running_of transfer.Incomplete board own s p = ends_running_of (in_ends own transfer.Incomplete) board own s p transfer.Incomplete
finishes_running_of transfer.Complete _ _ _ _ = refl

ends_stopped_of : (end : InEnd) (board : Record) (own : Seen) (s : InState) (p : Phase) (said : Transfer)
    → ends_stopped end s board own said ≡ ends_stopped end (goes_on s p) board own said
ends_stopped_of Keep _ _ _ _ _ = refl
ends_stopped_of Drop _ _ _ _ _ = refl
ends_stopped_of Wait _ _ _ _ _ = refl

stopped_row_of : (heard : Option Transfer) (board : Record) (own : Seen) (s : InState) (p : Phase)
    → stopped_row s board own heard ≡ stopped_row (goes_on s p) board own heard
stopped_row_of None _ _ _ _ = refl
stopped_row_of (Some said) board own s p = ends_stopped_of (in_ends own said) board own s p said

-- the end of a running transport that is still to come has its row
pub finished_taking : (heard : Bool) (board : Record) (own : Seen) (s : InState) (p : Phase) (said : Transfer) (id : ℕ)
    → awaits_finish (phase.Taking board own heard) id ≡ true
    → finished_row (phase.Taking board own heard) s said id ≡ finishes_running said (goes_on s p) board own
finished_taking false board own s p said id h = only_if_true (board.id == id) _ h ∙ finishes_running_of said board own s p
finished_taking true board own s p said id h = cc

pub sensed_taking : (event : SensorEvent) (board : Record) (own : Seen) (heard : Bool) (s : InState)
    → sameb the_type event Left ≡ false
    → sensed_row (phase.Taking board own heard) s event ≡ taking_row s board own heard event
sensed_taking Begun _ _ _ _ _ = refl
sensed_taking Left _ _ _ _ other = cc
sensed_taking Full _ _ _ _ _ = refl
sensed_taking Back _ _ _ _ _ = refl
sensed_taking Taken _ _ _ _ _ = refl

pub sensed_stopped : (event : SensorEvent) (board : Record) (own : Seen) (heard : Option Transfer) (s : InState) (p : Phase)
    → sameb the_type event Left ≡ false
    → sensed_row (phase.Stopped board own heard) s event ≡ stopped_row (goes_on s p) board (own_after own event) heard
sensed_stopped Begun board own heard s p _ = stopped_row_of heard board (own_after own Begun) s p
sensed_stopped Left _ _ _ _ _ other = cc
sensed_stopped Full board own heard s p _ = stopped_row_of heard board (own_after own Full) s p
sensed_stopped Back board own heard s p _ = stopped_row_of heard board (own_after own Back) s p
sensed_stopped Taken board own heard s p _ = stopped_row_of heard board (own_after own Taken) s p
