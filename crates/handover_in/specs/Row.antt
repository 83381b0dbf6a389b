use Rattle.std.specs.Prelude.{ℕ, Bool, true, false, Option, Some, None, ◌==◌, is_some, is_none, not}
use Rattle.line_base.specs.declared.states.Seen.{Seen}
use Rattle.line_base.specs.declared.states.Seen.TheVariants.{NotStarted, Incomplete, Complete, Taken}
use Rattle.line_base.specs.declared.states.SensorEvent.{SensorEvent}
use Rattle.line_base.specs.declared.states.SensorEvent.TheVariants as sensor
use Rattle.line_base.specs.declared.states.Transfer.{Transfer}
use Rattle.line_base.specs.declared.states.Transfer.TheVariants as transfer
use Rattle.board_record.specs.declared.record.Record.{Record}
use Rattle.transfer_state.specs.declared.intake.InEnd.{InEnd}
use Rattle.transfer_state.specs.declared.intake.InEnd.TheVariants.{Keep, Drop, Wait}
use Rattle.transfer_state.specs.Intake.{in_ends}
use Rattle.handover_in.specs.declared.act.InAct.{InAct}
use Rattle.handover_in.specs.declared.act.InSend.TheVariants.{MachineReady, RevokeMachineReady}
use Rattle.handover_in.specs.declared.input.InInput.{InInput}
use Rattle.handover_in.specs.declared.input.InInput.TheVariants as input
use Rattle.handover_in.specs.declared.phase.Phase.{Phase}
use Rattle.handover_in.specs.declared.phase.Phase.TheVariants.{Idle, Taking, Stopped, Waiting}
use Rattle.handover_in.specs.Own.{own_after}
use Rattle.handover_in.specs.State.{InState}
use Rattle.handover_in.specs.Act.{nothing, sends, drive_off, starts, stop, stops, settles, drops}

-- what a row of the intake table says: the state after the input, and the acts
pub record InRow : Type 0 where
  pub after : InState
  pub act : InAct

abbrev pub row : InState → InAct → Option InRow
row after act = Some (record { after = after; act = act })

-- the row where the test passes, and else none
abbrev pub only_if : Bool → Option InRow → Option InRow
only_if true row = row
only_if false _ = None

-- a handover goes on
abbrev pub goes_on : InState → Phase → InState
goes_on s phase = record s { phase = phase }

-- a handover is over
abbrev pub over : InState → InState
over s = record s { phase = Idle }

-- the connection is closed
abbrev pub closed : Phase → InState
closed phase = record { phase = phase; offer = None; ready = false }

abbrev pub ready_row : Phase → InState → Option InRow
ready_row Idle s = only_if (not s.ready) (row (record s { ready = true }) (sends MachineReady))
ready_row _ _ = None

abbrev pub unready_row : Phase → InState → Option InRow
unready_row Idle s = only_if s.ready (row (record s { ready = false }) (sends RevokeMachineReady))
unready_row _ _ = None

abbrev pub start_row : Phase → Option Record → Bool → Option InRow
start_row Idle (Some board) true =
    row (record { phase = Taking board NotStarted false; offer = None; ready = false })
    (starts board.id)
start_row _ _ _ = None

abbrev pub board_available_row : Phase → InState → Record → Option InRow
board_available_row Idle s board =
    only_if (is_none s.offer) (row (record s { offer = Some board }) nothing)
board_available_row (Taking _ _ true) s board =
    only_if (is_none s.offer) (row (record s { offer = Some board }) nothing)
board_available_row (Stopped _ _ (Some _)) s board =
    only_if (is_none s.offer) (row (record s { offer = Some board }) nothing)
board_available_row (Taking _ _ false) s _ = row s nothing
board_available_row (Stopped _ _ None) s _ = row s nothing
board_available_row (Waiting _ _ _) _ _ = None

abbrev pub revoke_board_available_row : Phase → InState → Option InRow
revoke_board_available_row Idle s =
    only_if (is_some s.offer) (row (record s { offer = None }) nothing)
revoke_board_available_row (Taking _ _ true) s =
    only_if (is_some s.offer) (row (record s { offer = None }) nothing)
revoke_board_available_row (Stopped _ _ (Some _)) s =
    only_if (is_some s.offer) (row (record s { offer = None }) nothing)
revoke_board_available_row (Taking _ _ false) s = row s nothing
revoke_board_available_row (Stopped _ _ None) s = row s nothing
revoke_board_available_row (Waiting _ _ _) _ = None

-- the transport was running as the neighbour said that it ended
abbrev pub ends_running : InEnd → InState → Record → Seen → Transfer → Option InRow
ends_running Drop s board own _ = row (over s) (drops board own (stop board own) (Some false))
ends_running _ s board own heard =
    row (goes_on s (Stopped board own (Some heard))) (stops board own)

-- a complete transfer goes on until the board is inside
abbrev pub finishes_running : Transfer → InState → Record → Seen → Option InRow
finishes_running transfer.Complete s board own = row (goes_on s (Taking board own true)) nothing
finishes_running heard s board own = ends_running (in_ends own heard) s board own heard

-- the transport has stopped, and the neighbour has said how it ended
abbrev pub ends_stopped : InEnd → InState → Record → Seen → Transfer → Option InRow
ends_stopped Keep s board _ _ = row (over s) (settles board None None)
ends_stopped Drop s board own _ = row (over s) (drops board own None None)
ends_stopped Wait s board own heard = row (goes_on s (Stopped board own (Some heard))) nothing

abbrev pub finished_row : Phase → InState → Transfer → ℕ → Option InRow
finished_row (Taking board own false) s heard id =
    only_if (board.id == id) (finishes_running heard s board own)
finished_row (Stopped board own None) s heard id =
    only_if (board.id == id) (ends_stopped (in_ends own heard) s board own heard)
finished_row _ _ _ _ = None

abbrev pub taking_row : InState → Record → Seen → Bool → SensorEvent → Option InRow
taking_row s board _ true sensor.Full =
    row (over s) (settles board (stop board Complete) (Some false))
taking_row s board _ false sensor.Full =
    row (goes_on s (Stopped board Complete None)) (stops board Complete)
taking_row s board Incomplete true sensor.Taken =
    row (over s) (drops board Taken (stop board Taken) (Some false))
taking_row s board Incomplete false sensor.Taken =
    row (goes_on s (Stopped board Taken None)) (stops board Taken)
taking_row s board own heard event =
    row (goes_on s (Taking board (own_after own event) heard)) nothing

-- `own` is what the sensors have seen after the event
abbrev pub stopped_row : InState → Record → Seen → Option Transfer → Option InRow
stopped_row s board own None = row (goes_on s (Stopped board own None)) nothing
stopped_row s board own (Some heard) = ends_stopped (in_ends own heard) s board own heard

-- `own` is what the sensors have seen after the event
abbrev pub waiting_row : InState → Record → Seen → Bool → Option InRow
waiting_row s board Complete true = row (over s) (settles board None (Some false))
waiting_row s board Complete false = row (goes_on s (Waiting board Complete false)) drive_off
waiting_row s board Incomplete heard = row (goes_on s (Waiting board Incomplete heard)) nothing
waiting_row s board own _ = row (over s) (drops board own None (Some false))

-- no board leaves at an entry
abbrev pub sensed_row : Phase → InState → SensorEvent → Option InRow
sensed_row _ s sensor.Left = row s nothing
sensed_row Idle s _ = row s nothing
sensed_row (Taking board own heard) s event = taking_row s board own heard event
sensed_row (Stopped board own heard) s event = stopped_row s board (own_after own event) heard
sensed_row (Waiting board own heard) s event = waiting_row s board (own_after own event) heard

abbrev pub complete_if : Bool → Option Transfer
complete_if true = Some transfer.Complete
complete_if false = None

abbrev pub fault_row : Phase → InState → Option InRow
fault_row (Taking board own heard) s =
    row (goes_on s (Stopped board own (complete_if heard))) (stops board own)
fault_row _ s = row s nothing

-- the drive runs on for a board that has left
abbrev pub off_unless : Bool → Option Bool
off_unless true = None
off_unless false = Some false

abbrev pub is_complete : Option Transfer → Bool
is_complete (Some transfer.Complete) = true
is_complete _ = false

abbrev pub closes_stopped : Record → Seen → Bool → Option InRow
closes_stopped board NotStarted _ = row (closed Idle) (drops board NotStarted None None)
closes_stopped board Taken _ = row (closed Idle) (drops board Taken None None)
closes_stopped board own left = row (closed (Waiting board own left)) nothing

abbrev pub closed_row : Phase → Option InRow
closed_row Idle = row (closed Idle) nothing
closed_row (Taking board NotStarted _) =
    row (closed Idle) (drops board NotStarted None (Some false))
closed_row (Taking board own heard) =
    row (closed (Waiting board own heard)) (record nothing { drive = off_unless heard })
closed_row (Stopped board own heard) = closes_stopped board own (is_complete heard)
closed_row (Waiting board own heard) = row (closed (Waiting board own heard)) nothing

abbrev pub stand_row : Phase → InState → Option InRow
stand_row (Waiting board Complete _) s = row (over s) (settles board None None)
stand_row _ s = row s nothing

-- the intake table: what an input does in a state. A message without a row is a breach; a sensor
-- event, a fault or a new connection that the table doesn't name in a phase does nothing
abbrev pub intake_row : InState → InInput → Option InRow
intake_row s input.Ready = ready_row s.phase s
intake_row s input.Unready = unready_row s.phase s
intake_row s input.Start = start_row s.phase s.offer s.ready
intake_row s (input.BoardAvailable board) = board_available_row s.phase s board
intake_row s input.RevokeBoardAvailable = revoke_board_available_row s.phase s
intake_row s (input.Finished state id) = finished_row s.phase s state id
intake_row s (input.Sensed event) = sensed_row s.phase s event
intake_row s input.Fault = fault_row s.phase s
intake_row s input.Closed = closed_row s.phase
intake_row s input.Stand = stand_row s.phase s
