-- The outlet table, row by row. An input that no row names does not stand in the table.
use Rattle.std.specs.Prelude.{◌≡◌, ◌≢◌, ℕ, Bool, true, false, Option, Some, None}
use Rattle.line_base.specs.declared.states.Transfer.{Transfer}
use Rattle.line_base.specs.declared.states.Transfer.TheVariants.{NotStarted, Incomplete, Complete}
use Rattle.line_base.specs.declared.states.SensorEvent.TheVariants.{Begun, Left, Full, Back, Taken}
use Rattle.board_record.specs.declared.record.Record.{Record}
use Rattle.handover_out.specs.declared.act.OutAct.{OutAct}
use Rattle.handover_out.specs.declared.act.OutDeed.TheVariants.{Opens, Refuses}
use Rattle.handover_out.specs.declared.act.OutSend.TheVariants.{BoardAvailable, RevokeBoardAvailable, Finished}
use Rattle.handover_out.specs.declared.input.OutInput.{OutInput}
use Rattle.handover_out.specs.declared.input.OutInput.TheVariants.{Offer, Revoke, MachineReady, RevokeMachineReady, Start, Stop, Sensed, Fault, Closed}
use Rattle.handover_out.specs.declared.phase.Phase.{Phase}
use Rattle.handover_out.specs.declared.phase.Phase.TheVariants.{Idle, Moving, Stuck, Ended}
use Rattle.handover_out.specs.State.{OutState}
use Rattle.handover_out.specs.Act.{nothing, sends, drive_off, leaves, returns, loses}
use Rattle.handover_out.specs.Row.{OutRow}

-- an outlet by its parts: the phase, what is offered, what was last offered, and whether the
-- neighbour is ready
abbrev pub state_of : Phase → Option ℕ → Option ℕ → Bool → OutState
state_of phase offered touched ready =
    record { phase = phase; offered = offered; touched = touched; ready = ready }

abbrev pub to : OutState → OutAct → OutRow
to after act = record { after = after; act = act }

pub data IsOutletRow : OutState → OutInput → OutRow → Type 0 where
  -- what the machine offers, and what the downstream machine says of itself
  offers : {t : Option ℕ} {r : Bool} {id : ℕ}
      → IsOutletRow (state_of Idle None t r) (Offer id)
      (to (state_of Idle (Some id) (Some id) r) (sends BoardAvailable))
  revokes : {t : Option ℕ} {r : Bool} {id : ℕ}
      → IsOutletRow (state_of Idle (Some id) t r) Revoke
      (to (state_of Idle None t r) (sends RevokeBoardAvailable))
  gets_ready : {o t : Option ℕ}
      → IsOutletRow (state_of Idle o t false) MachineReady (to (state_of Idle o t true) nothing)
  gets_unready : {o t : Option ℕ}
      → IsOutletRow (state_of Idle o t true) RevokeMachineReady
      (to (state_of Idle o t false) nothing)
  -- a start: for the board that is offered, and for any other
  opens : {t : Option ℕ} {mine id : ℕ} {board : Record} → mine ≡ id
      → IsOutletRow (state_of Idle (Some mine) t true) (Start id (Some board))
      (to (state_of (Moving board false) None t false)
      (record nothing { deed = Some (Opens board.id); drive = Some true }))
  refuses : {o t : Option ℕ} {id : ℕ} → o ≢ Some id
      → IsOutletRow (state_of Idle o t true) (Start id None)
      (to (state_of (Ended id) None t false) (record nothing {
        deed = Some (Refuses id);
        send = Some (Finished NotStarted id);
      }))
  -- a stop: before the board has begun to leave, while it lies between the machines, and after the
  -- end was told
  stop_home : {o t : Option ℕ} {r : Bool} {board : Record} {said : Transfer} {id : ℕ}
      → board.id ≡ id
      → IsOutletRow (state_of (Moving board false) o t r) (Stop said id)
      (to (state_of Idle o None r) (returns board (Some (Finished NotStarted id)) (Some false)))
  stop_between : {o t : Option ℕ} {r : Bool} {board : Record} {said : Transfer} {id : ℕ}
      → board.id ≡ id
      → IsOutletRow (state_of (Moving board true) o t r) (Stop said id)
      (to (state_of (Stuck board true true) o t r) drive_off)
  stop_stuck : {o t : Option ℕ} {r : Bool} {board : Record} {said : Transfer} {id : ℕ}
      → board.id ≡ id
      → IsOutletRow (state_of (Stuck board true false) o t r) (Stop said id)
      (to (state_of (Stuck board true true) o t r) nothing)
  stop_ended : {o t : Option ℕ} {r : Bool} {mine : ℕ} {said : Transfer} {id : ℕ} → mine ≡ id
      → IsOutletRow (state_of (Ended mine) o t r) (Stop said id)
      (to (state_of Idle o None r) nothing)
  -- a sensor event, in each phase
  begun_moving : {o t : Option ℕ} {r : Bool} {board : Record}
      → IsOutletRow (state_of (Moving board false) o t r) (Sensed Begun)
      (to (state_of (Moving board true) o t r) nothing)
  begun_again : {o t : Option ℕ} {r : Bool} {board : Record}
      → IsOutletRow (state_of (Moving board true) o t r) (Sensed Begun)
      (to (state_of (Moving board true) o t r) nothing)
  begun_stuck : {o t : Option ℕ} {r l p : Bool} {board : Record}
      → IsOutletRow (state_of (Stuck board l p) o t r) (Sensed Begun)
      (to (state_of (Stuck board l p) o t r) nothing)
  begun_idle : {o t : Option ℕ} {r : Bool}
      → IsOutletRow (state_of Idle o t r) (Sensed Begun) (to (state_of Idle o t r) nothing)
  begun_ended : {o t : Option ℕ} {r : Bool} {mine : ℕ}
      → IsOutletRow (state_of (Ended mine) o t r) (Sensed Begun)
      (to (state_of (Ended mine) o t r) nothing)
  left_moving : {o t : Option ℕ} {r begun : Bool} {board : Record}
      → IsOutletRow (state_of (Moving board begun) o t r) (Sensed Left)
      (to (state_of (Ended board.id) o t r)
      (leaves board (Some (Finished Complete board.id)) (Some false)))
  left_stuck : {o t : Option ℕ} {r : Bool} {board : Record}
      → IsOutletRow (state_of (Stuck board true false) o t r) (Sensed Left)
      (to (state_of (Ended board.id) o t r)
      (leaves board (Some (Finished Complete board.id)) None))
  left_stopped : {o t : Option ℕ} {r : Bool} {board : Record}
      → IsOutletRow (state_of (Stuck board true true) o t r) (Sensed Left)
      (to (state_of Idle o None r) (leaves board (Some (Finished Complete board.id)) None))
  left_unlinked : {o t : Option ℕ} {r p : Bool} {board : Record}
      → IsOutletRow (state_of (Stuck board false p) o t r) (Sensed Left)
      (to (state_of Idle o None r) (leaves board None None))
  left_idle : {o t : Option ℕ} {r : Bool}
      → IsOutletRow (state_of Idle o t r) (Sensed Left) (to (state_of Idle o t r) nothing)
  left_ended : {o t : Option ℕ} {r : Bool} {mine : ℕ}
      → IsOutletRow (state_of (Ended mine) o t r) (Sensed Left)
      (to (state_of (Ended mine) o t r) nothing)
  full_moving : {o t : Option ℕ} {r begun : Bool} {board : Record}
      → IsOutletRow (state_of (Moving board begun) o t r) (Sensed Full)
      (to (state_of (Moving board begun) o t r) nothing)
  full_stuck : {o t : Option ℕ} {r l p : Bool} {board : Record}
      → IsOutletRow (state_of (Stuck board l p) o t r) (Sensed Full)
      (to (state_of (Stuck board l p) o t r) nothing)
  full_idle : {o t : Option ℕ} {r : Bool}
      → IsOutletRow (state_of Idle o t r) (Sensed Full) (to (state_of Idle o t r) nothing)
  full_ended : {o t : Option ℕ} {r : Bool} {mine : ℕ}
      → IsOutletRow (state_of (Ended mine) o t r) (Sensed Full)
      (to (state_of (Ended mine) o t r) nothing)
  back_moving : {o t : Option ℕ} {r : Bool} {board : Record}
      → IsOutletRow (state_of (Moving board true) o t r) (Sensed Back)
      (to (state_of (Moving board false) o t r) nothing)
  back_again : {o t : Option ℕ} {r : Bool} {board : Record}
      → IsOutletRow (state_of (Moving board false) o t r) (Sensed Back)
      (to (state_of (Moving board false) o t r) nothing)
  back_stuck : {o t : Option ℕ} {r : Bool} {board : Record}
      → IsOutletRow (state_of (Stuck board true false) o t r) (Sensed Back)
      (to (state_of (Ended board.id) o t r)
      (returns board (Some (Finished NotStarted board.id)) None))
  back_stopped : {o t : Option ℕ} {r : Bool} {board : Record}
      → IsOutletRow (state_of (Stuck board true true) o t r) (Sensed Back)
      (to (state_of Idle o None r) (returns board (Some (Finished NotStarted board.id)) None))
  back_unlinked : {o t : Option ℕ} {r p : Bool} {board : Record}
      → IsOutletRow (state_of (Stuck board false p) o t r) (Sensed Back)
      (to (state_of Idle o None r) (returns board None None))
  back_idle : {o t : Option ℕ} {r : Bool}
      → IsOutletRow (state_of Idle o t r) (Sensed Back) (to (state_of Idle o t r) nothing)
  back_ended : {o t : Option ℕ} {r : Bool} {mine : ℕ}
      → IsOutletRow (state_of (Ended mine) o t r) (Sensed Back)
      (to (state_of (Ended mine) o t r) nothing)
  taken_moving : {o t : Option ℕ} {r : Bool} {board : Record}
      → IsOutletRow (state_of (Moving board true) o t r) (Sensed Taken)
      (to (state_of (Ended board.id) o t r)
      (loses board (Some (Finished Incomplete board.id)) (Some false)))
  taken_home : {o t : Option ℕ} {r : Bool} {board : Record}
      → IsOutletRow (state_of (Moving board false) o t r) (Sensed Taken)
      (to (state_of (Moving board false) o t r) nothing)
  taken_stuck : {o t : Option ℕ} {r : Bool} {board : Record}
      → IsOutletRow (state_of (Stuck board true false) o t r) (Sensed Taken)
      (to (state_of (Ended board.id) o t r)
      (loses board (Some (Finished Incomplete board.id)) None))
  taken_stopped : {o t : Option ℕ} {r : Bool} {board : Record}
      → IsOutletRow (state_of (Stuck board true true) o t r) (Sensed Taken)
      (to (state_of Idle o None r) (loses board (Some (Finished Incomplete board.id)) None))
  taken_unlinked : {o t : Option ℕ} {r p : Bool} {board : Record}
      → IsOutletRow (state_of (Stuck board false p) o t r) (Sensed Taken)
      (to (state_of Idle o None r) (loses board None None))
  taken_idle : {o t : Option ℕ} {r : Bool}
      → IsOutletRow (state_of Idle o t r) (Sensed Taken) (to (state_of Idle o t r) nothing)
  taken_ended : {o t : Option ℕ} {r : Bool} {mine : ℕ}
      → IsOutletRow (state_of (Ended mine) o t r) (Sensed Taken)
      (to (state_of (Ended mine) o t r) nothing)
  -- a fault of the exit's drive
  fault_home : {o t : Option ℕ} {r : Bool} {board : Record}
      → IsOutletRow (state_of (Moving board false) o t r) Fault
      (to (state_of (Ended board.id) o t r)
      (returns board (Some (Finished NotStarted board.id)) (Some false)))
  fault_between : {o t : Option ℕ} {r : Bool} {board : Record}
      → IsOutletRow (state_of (Moving board true) o t r) Fault
      (to (state_of (Stuck board true false) o t r) drive_off)
  fault_stuck : {o t : Option ℕ} {r l p : Bool} {board : Record}
      → IsOutletRow (state_of (Stuck board l p) o t r) Fault
      (to (state_of (Stuck board l p) o t r) nothing)
  fault_idle : {o t : Option ℕ} {r : Bool}
      → IsOutletRow (state_of Idle o t r) Fault (to (state_of Idle o t r) nothing)
  fault_ended : {o t : Option ℕ} {r : Bool} {mine : ℕ}
      → IsOutletRow (state_of (Ended mine) o t r) Fault (to (state_of (Ended mine) o t r) nothing)
  -- the connection is closed
  closed_home : {o t : Option ℕ} {r : Bool} {board : Record}
      → IsOutletRow (state_of (Moving board false) o t r) Closed
      (to (state_of Idle None None false) (returns board None (Some false)))
  closed_between : {o t : Option ℕ} {r : Bool} {board : Record}
      → IsOutletRow (state_of (Moving board true) o t r) Closed
      (to (state_of (Stuck board false false) None None false) drive_off)
  closed_stuck : {o t : Option ℕ} {r l p : Bool} {board : Record}
      → IsOutletRow (state_of (Stuck board l p) o t r) Closed
      (to (state_of (Stuck board false false) None None false) nothing)
  closed_idle : {o t : Option ℕ} {r : Bool}
      → IsOutletRow (state_of Idle o t r) Closed (to (state_of Idle None None false) nothing)
  closed_ended : {o t : Option ℕ} {r : Bool} {mine : ℕ}
      → IsOutletRow (state_of (Ended mine) o t r) Closed
      (to (state_of Idle None None false) nothing)
