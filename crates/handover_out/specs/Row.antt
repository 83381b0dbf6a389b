use Rattle.std.specs.Prelude.{ℕ, Bool, true, false, Option, Some, None, ◌==◌, ◌&&◌, is_some, is_none, not}
use Rattle.line_base.specs.declared.states.Transfer.TheVariants.{NotStarted, Incomplete, Complete}
use Rattle.line_base.specs.declared.states.SensorEvent.{SensorEvent}
use Rattle.line_base.specs.declared.states.SensorEvent.TheVariants as sensor
use Rattle.board_record.specs.declared.record.Record.{Record}
use Rattle.handover_out.specs.declared.act.OutAct.{OutAct}
use Rattle.handover_out.specs.declared.act.OutDeed.TheVariants.{Opens, Refuses}
use Rattle.handover_out.specs.declared.act.OutSend.{OutSend}
use Rattle.handover_out.specs.declared.act.OutSend.TheVariants.{BoardAvailable, RevokeBoardAvailable, Finished}
use Rattle.handover_out.specs.declared.input.OutInput.{OutInput}
use Rattle.handover_out.specs.declared.input.OutInput.TheVariants as input
use Rattle.handover_out.specs.declared.phase.Phase.{Phase}
use Rattle.handover_out.specs.declared.phase.Phase.TheVariants.{Idle, Moving, Stuck, Ended}
use Rattle.handover_out.specs.State.{OutState, would_open}
use Rattle.handover_out.specs.Act.{nothing, sends, drive_off, finished, leaves, returns, loses}

-- what a row of the outlet table says: the state after the input, and the acts
pub record OutRow : Type 0 where
  pub after : OutState
  pub act : OutAct

abbrev pub row : OutState → OutAct → Option OutRow
row after act = Some (record { after = after; act = act })

-- the row where the test passes, and else none
abbrev pub row_if : Bool → OutState → OutAct → Option OutRow
row_if true after act = row after act
row_if false _ _ = None

-- the board that was offered last, beside a row: the one that it offers, or that of before. Nothing
-- clears it
abbrev pub last_by : Option OutSend → Option ℕ → Option ℕ → Option ℕ
last_by (Some BoardAvailable) offered last = offered
last_by (Some RevokeBoardAvailable) offered last = last
last_by (Some (Finished _ _)) offered last = last
last_by None offered last = last

abbrev pub last_after : OutRow → Option ℕ → Option ℕ
last_after row last = last_by row.act.send row.after.offered last

-- a handover goes on
abbrev pub goes_on : OutState → Phase → OutState
goes_on s phase = record s { phase = phase }

-- a handover was opened or refused
abbrev pub started : OutState → Phase → OutState
started s phase = record s { phase = phase; offered = None; ready = false }

-- a handover is over
abbrev pub over : OutState → OutState
over s = record s { phase = Idle; touched = None }

-- a board that was stuck is there no more: the neighbour's stop is still to come only where the
-- connection stands and it wasn't heard yet
abbrev pub over_when_stuck : OutState → ℕ → Bool → Bool → OutState
over_when_stuck s id true false = goes_on s (Ended id)
over_when_stuck s _ _ _ = over s

-- the connection is closed
abbrev pub closed : Phase → OutState
closed phase = record { phase = phase; offered = None; touched = None; ready = false }

abbrev pub offer_row : Phase → OutState → ℕ → Option OutRow
offer_row Idle s id =
    row_if (is_none s.offered) (record s { offered = Some id; touched = Some id })
    (sends BoardAvailable)
offer_row _ _ _ = None

abbrev pub revoke_row : Phase → OutState → Option OutRow
revoke_row Idle s =
    row_if (is_some s.offered) (record s { offered = None }) (sends RevokeBoardAvailable)
revoke_row _ _ = None

abbrev pub machine_ready_row : Phase → OutState → Option OutRow
machine_ready_row Idle s = row_if (not s.ready) (record s { ready = true }) nothing
machine_ready_row _ _ = None

abbrev pub revoke_machine_ready_row : Phase → OutState → Option OutRow
revoke_machine_ready_row Idle s = row_if s.ready (record s { ready = false }) nothing
revoke_machine_ready_row _ _ = None

-- the record is there exactly where the start opens
abbrev pub start_row : Phase → OutState → ℕ → Option Record → Option OutRow
start_row Idle s id (Some board) =
    row_if (would_open s id) (started s (Moving board false))
    (record nothing { deed = Some (Opens board.id); drive = Some true })
start_row Idle s id None =
    row_if (s.ready && not (would_open s id)) (started s (Ended id))
    (record nothing { deed = Some (Refuses id); send = Some (Finished NotStarted id) })
start_row _ _ _ _ = None

abbrev pub stop_row : Phase → OutState → ℕ → Option OutRow
stop_row (Moving board false) s id =
    row_if (board.id == id) (over s) (returns board (Some (Finished NotStarted id)) (Some false))
stop_row (Moving board true) s id =
    row_if (board.id == id) (goes_on s (Stuck board true true)) drive_off
stop_row (Stuck board true false) s id =
    row_if (board.id == id) (goes_on s (Stuck board true true)) nothing
stop_row (Ended mine) s id = row_if (mine == id) (over s) nothing
stop_row _ _ _ = None

abbrev pub begun_row : Phase → OutState → Option OutRow
begun_row (Moving board false) s = row (goes_on s (Moving board true)) nothing
begun_row _ s = row s nothing

abbrev pub left_row : Phase → OutState → Option OutRow
left_row (Moving board _) s =
    row (goes_on s (Ended board.id))
    (leaves board (Some (Finished Complete board.id)) (Some false))
left_row (Stuck board linked stopped) s =
    row (over_when_stuck s board.id linked stopped)
    (leaves board (finished linked Complete board.id) None)
left_row _ s = row s nothing

abbrev pub back_row : Phase → OutState → Option OutRow
back_row (Moving board true) s = row (goes_on s (Moving board false)) nothing
back_row (Stuck board linked stopped) s =
    row (over_when_stuck s board.id linked stopped)
    (returns board (finished linked NotStarted board.id) None)
back_row _ s = row s nothing

abbrev pub taken_row : Phase → OutState → Option OutRow
taken_row (Moving board true) s =
    row (goes_on s (Ended board.id))
    (loses board (Some (Finished Incomplete board.id)) (Some false))
taken_row (Stuck board linked stopped) s =
    row (over_when_stuck s board.id linked stopped)
    (loses board (finished linked Incomplete board.id) None)
taken_row _ s = row s nothing

abbrev pub sensed_row : SensorEvent → OutState → Option OutRow
sensed_row sensor.Begun s = begun_row s.phase s
sensed_row sensor.Left s = left_row s.phase s
sensed_row sensor.Full s = row s nothing
sensed_row sensor.Back s = back_row s.phase s
sensed_row sensor.Taken s = taken_row s.phase s

abbrev pub fault_row : Phase → OutState → Option OutRow
fault_row (Moving board false) s =
    row (goes_on s (Ended board.id))
    (returns board (Some (Finished NotStarted board.id)) (Some false))
fault_row (Moving board true) s = row (goes_on s (Stuck board true false)) drive_off
fault_row _ s = row s nothing

abbrev pub closed_row : Phase → Option OutRow
closed_row (Moving board false) = row (closed Idle) (returns board None (Some false))
closed_row (Moving board true) = row (closed (Stuck board false false)) drive_off
closed_row (Stuck board _ _) = row (closed (Stuck board false false)) nothing
closed_row _ = row (closed Idle) nothing

-- the outlet table: what an input does in a state. A message without a row is a breach; a sensor
-- event or a fault that the table doesn't name in a phase does nothing
abbrev pub outlet_row : OutState → OutInput → Option OutRow
outlet_row s (input.Offer id) = offer_row s.phase s id
outlet_row s input.Revoke = revoke_row s.phase s
outlet_row s input.MachineReady = machine_ready_row s.phase s
outlet_row s input.RevokeMachineReady = revoke_machine_ready_row s.phase s
outlet_row s (input.Start id board) = start_row s.phase s id board
outlet_row s (input.Stop _ id) = stop_row s.phase s id
outlet_row s (input.Sensed event) = sensed_row event s
outlet_row s input.Fault = fault_row s.phase s
outlet_row s input.Closed = closed_row s.phase
