-- The intake table, row by row. An input that no row names does not stand in the table.
use Rattle.std.specs.Prelude.{◌≡◌, ◌≢◌, ℕ, Bool, true, false, Option, Some, None}
use Rattle.line_base.specs.declared.states.Seen.{Seen}
use Rattle.line_base.specs.declared.states.Seen.TheVariants.{NotStarted, Incomplete, Complete, Taken}
use Rattle.line_base.specs.declared.states.SensorEvent.{SensorEvent}
use Rattle.line_base.specs.declared.states.SensorEvent.TheVariants as event
use Rattle.line_base.specs.declared.states.Transfer.{Transfer}
use Rattle.line_base.specs.declared.states.Transfer.TheVariants as said
use Rattle.board_record.specs.declared.record.Record.{Record}
use Rattle.transfer_state.specs.declared.intake.InEnd.TheVariants.{Keep, Drop, Wait}
use Rattle.transfer_state.specs.Intake.{in_ends}
use Rattle.handover_in.specs.declared.act.InAct.{InAct}
use Rattle.handover_in.specs.declared.act.InSend.TheVariants.{MachineReady, RevokeMachineReady}
use Rattle.handover_in.specs.declared.input.InInput.{InInput}
use Rattle.handover_in.specs.declared.input.InInput.TheVariants.{Ready, Unready, Start, BoardAvailable, RevokeBoardAvailable, Finished, Sensed, Fault, Closed, Stand}
use Rattle.handover_in.specs.declared.phase.Phase.{Phase}
use Rattle.handover_in.specs.declared.phase.Phase.TheVariants.{Idle, Taking, Stopped, Waiting}
use Rattle.handover_in.specs.State.{InState}
use Rattle.handover_in.specs.Own.{own_after}
use Rattle.handover_in.specs.Act.{nothing, sends, drive_off, starts, stop, stops, settles, drops}
use Rattle.handover_in.specs.Row.{InRow, off_unless, complete_if, is_complete}

-- an intake by its parts: phase, offer, readiness
abbrev pub state_of : Phase → Option Record → Bool → InState
state_of phase offer ready = record { phase = phase; offer = offer; ready = ready }

abbrev pub to : InState → InAct → InRow
to after act = record { after = after; act = act }

pub data IsIntakeRow : InState → InInput → InRow → Type 0 where
  -- the machine says that it is ready or not, and starts the transport of the offered board
  gets_ready : {o : Option Record}
      → IsIntakeRow (state_of Idle o false) Ready (to (state_of Idle o true) (sends MachineReady))
  gets_unready : {o : Option Record}
      → IsIntakeRow (state_of Idle o true) Unready
      (to (state_of Idle o false) (sends RevokeMachineReady))
  starts_transport : {board : Record}
      → IsIntakeRow (state_of Idle (Some board) true) Start
      (to (state_of (Taking board NotStarted false) None false) (starts board.id))
  -- a board is offered and revoked where offers are taken: there is at most one
  available_idle : {r : Bool} {offered : Record}
      → IsIntakeRow (state_of Idle None r) (BoardAvailable offered)
      (to (state_of Idle (Some offered) r) nothing)
  available_heard : {r : Bool} {board offered : Record} {own : Seen}
      → IsIntakeRow (state_of (Taking board own true) None r) (BoardAvailable offered)
      (to (state_of (Taking board own true) (Some offered) r) nothing)
  available_stopped : {r : Bool} {board offered : Record} {own : Seen} {n : Transfer}
      → IsIntakeRow (state_of (Stopped board own (Some n)) None r) (BoardAvailable offered)
      (to (state_of (Stopped board own (Some n)) (Some offered) r) nothing)
  revoked_idle : {r : Bool} {offered : Record}
      → IsIntakeRow (state_of Idle (Some offered) r) RevokeBoardAvailable
      (to (state_of Idle None r) nothing)
  revoked_heard : {r : Bool} {board offered : Record} {own : Seen}
      → IsIntakeRow (state_of (Taking board own true) (Some offered) r) RevokeBoardAvailable
      (to (state_of (Taking board own true) None r) nothing)
  revoked_stopped : {r : Bool} {board offered : Record} {own : Seen} {n : Transfer}
      → IsIntakeRow (state_of (Stopped board own (Some n)) (Some offered) r) RevokeBoardAvailable
      (to (state_of (Stopped board own (Some n)) None r) nothing)
  -- an offer or a revocation of a time before the neighbour let the board go is passed over
  passed_taking : {o : Option Record} {r : Bool} {board offered : Record} {own : Seen}
      → IsIntakeRow (state_of (Taking board own false) o r) (BoardAvailable offered)
      (to (state_of (Taking board own false) o r) nothing)
  passed_unheard : {o : Option Record} {r : Bool} {board offered : Record} {own : Seen}
      → IsIntakeRow (state_of (Stopped board own None) o r) (BoardAvailable offered)
      (to (state_of (Stopped board own None) o r) nothing)
  passed_revoked_taking : {o : Option Record} {r : Bool} {board : Record} {own : Seen}
      → IsIntakeRow (state_of (Taking board own false) o r) RevokeBoardAvailable
      (to (state_of (Taking board own false) o r) nothing)
  passed_revoked_unheard : {o : Option Record} {r : Bool} {board : Record} {own : Seen}
      → IsIntakeRow (state_of (Stopped board own None) o r) RevokeBoardAvailable
      (to (state_of (Stopped board own None) o r) nothing)
  -- the neighbour says how its end of the running transport ended: that the board has left, or
  -- another end
  hears_left : {o : Option Record} {r : Bool} {board : Record} {own : Seen} {id : ℕ}
      → board.id ≡ id
      → IsIntakeRow (state_of (Taking board own false) o r) (Finished said.Complete id)
      (to (state_of (Taking board own true) o r) nothing)
  running_drop : {o : Option Record} {r : Bool} {board : Record} {own : Seen} {n : Transfer}
      {id : ℕ} → n ≢ said.Complete → board.id ≡ id → in_ends own n ≡ Drop
      → IsIntakeRow (state_of (Taking board own false) o r) (Finished n id)
      (to (state_of Idle o r) (drops board own (stop board own) (Some false)))
  running_wait : {o : Option Record} {r : Bool} {board : Record} {own : Seen} {n : Transfer}
      {id : ℕ} → n ≢ said.Complete → board.id ≡ id → in_ends own n ≡ Wait
      → IsIntakeRow (state_of (Taking board own false) o r) (Finished n id)
      (to (state_of (Stopped board own (Some n)) o r) (stops board own))
  running_keep : {o : Option Record} {r : Bool} {board : Record} {own : Seen} {n : Transfer}
      {id : ℕ} → n ≢ said.Complete → board.id ≡ id → in_ends own n ≡ Keep
      → IsIntakeRow (state_of (Taking board own false) o r) (Finished n id)
      (to (state_of (Stopped board own (Some n)) o r) (stops board own))
  -- and of the transport that has stopped
  hears_keep : {o : Option Record} {r : Bool} {board : Record} {own : Seen} {n : Transfer} {id : ℕ}
      → board.id ≡ id → in_ends own n ≡ Keep
      → IsIntakeRow (state_of (Stopped board own None) o r) (Finished n id)
      (to (state_of Idle o r) (settles board None None))
  hears_drop : {o : Option Record} {r : Bool} {board : Record} {own : Seen} {n : Transfer} {id : ℕ}
      → board.id ≡ id → in_ends own n ≡ Drop
      → IsIntakeRow (state_of (Stopped board own None) o r) (Finished n id)
      (to (state_of Idle o r) (drops board own None None))
  hears_wait : {o : Option Record} {r : Bool} {board : Record} {own : Seen} {n : Transfer} {id : ℕ}
      → board.id ≡ id → in_ends own n ≡ Wait
      → IsIntakeRow (state_of (Stopped board own None) o r) (Finished n id)
      (to (state_of (Stopped board own (Some n)) o r) nothing)
  -- what the sensors see while the transport runs
  sensed_idle : {o : Option Record} {r : Bool} {e : SensorEvent}
      → IsIntakeRow (state_of Idle o r) (Sensed e) (to (state_of Idle o r) nothing)
  taking_left : {o : Option Record} {r heard : Bool} {board : Record} {own : Seen}
      → IsIntakeRow (state_of (Taking board own heard) o r) (Sensed event.Left)
      (to (state_of (Taking board own heard) o r) nothing)
  taking_begun : {o : Option Record} {r heard : Bool} {board : Record} {own : Seen}
      → IsIntakeRow (state_of (Taking board own heard) o r) (Sensed event.Begun)
      (to (state_of (Taking board (own_after own event.Begun) heard) o r) nothing)
  taking_back : {o : Option Record} {r heard : Bool} {board : Record} {own : Seen}
      → IsIntakeRow (state_of (Taking board own heard) o r) (Sensed event.Back)
      (to (state_of (Taking board (own_after own event.Back) heard) o r) nothing)
  full_heard : {o : Option Record} {r : Bool} {board : Record} {own : Seen}
      → IsIntakeRow (state_of (Taking board own true) o r) (Sensed event.Full)
      (to (state_of Idle o r) (settles board (stop board Complete) (Some false)))
  full_unheard : {o : Option Record} {r : Bool} {board : Record} {own : Seen}
      → IsIntakeRow (state_of (Taking board own false) o r) (Sensed event.Full)
      (to (state_of (Stopped board Complete None) o r) (stops board Complete))
  taken_heard : {o : Option Record} {r : Bool} {board : Record}
      → IsIntakeRow (state_of (Taking board Incomplete true) o r) (Sensed event.Taken)
      (to (state_of Idle o r) (drops board Taken (stop board Taken) (Some false)))
  taken_unheard : {o : Option Record} {r : Bool} {board : Record}
      → IsIntakeRow (state_of (Taking board Incomplete false) o r) (Sensed event.Taken)
      (to (state_of (Stopped board Taken None) o r) (stops board Taken))
  taken_home : {o : Option Record} {r heard : Bool} {board : Record}
      → IsIntakeRow (state_of (Taking board NotStarted heard) o r) (Sensed event.Taken)
      (to (state_of (Taking board NotStarted heard) o r) nothing)
  taken_inside : {o : Option Record} {r heard : Bool} {board : Record}
      → IsIntakeRow (state_of (Taking board Complete heard) o r) (Sensed event.Taken)
      (to (state_of (Taking board Complete heard) o r) nothing)
  taken_again : {o : Option Record} {r heard : Bool} {board : Record}
      → IsIntakeRow (state_of (Taking board Taken heard) o r) (Sensed event.Taken)
      (to (state_of (Taking board Taken heard) o r) nothing)
  -- and once it has stopped: before the end is heard, and after
  stopped_left : {o : Option Record} {r : Bool} {board : Record} {own : Seen} {h : Option Transfer}
      → IsIntakeRow (state_of (Stopped board own h) o r) (Sensed event.Left)
      (to (state_of (Stopped board own h) o r) nothing)
  stopped_event : {o : Option Record} {r : Bool} {board : Record} {own : Seen} {e : SensorEvent}
      → IsIntakeRow (state_of (Stopped board own None) o r) (Sensed e)
      (to (state_of (Stopped board (own_after own e) None) o r) nothing)
  stopped_keep : {o : Option Record} {r : Bool} {board : Record} {own : Seen} {n : Transfer}
      {e : SensorEvent} → e ≢ event.Left → in_ends (own_after own e) n ≡ Keep
      → IsIntakeRow (state_of (Stopped board own (Some n)) o r) (Sensed e)
      (to (state_of Idle o r) (settles board None None))
  stopped_drop : {o : Option Record} {r : Bool} {board : Record} {own : Seen} {n : Transfer}
      {e : SensorEvent} → e ≢ event.Left → in_ends (own_after own e) n ≡ Drop
      → IsIntakeRow (state_of (Stopped board own (Some n)) o r) (Sensed e)
      (to (state_of Idle o r) (drops board (own_after own e) None None))
  stopped_wait : {o : Option Record} {r : Bool} {board : Record} {own : Seen} {n : Transfer}
      {e : SensorEvent} → e ≢ event.Left → in_ends (own_after own e) n ≡ Wait
      → IsIntakeRow (state_of (Stopped board own (Some n)) o r) (Sensed e)
      (to (state_of (Stopped board (own_after own e) (Some n)) o r) nothing)
  -- and after a close
  waiting_left : {o : Option Record} {r heard : Bool} {board : Record} {own : Seen}
      → IsIntakeRow (state_of (Waiting board own heard) o r) (Sensed event.Left)
      (to (state_of (Waiting board own heard) o r) nothing)
  waiting_settles : {o : Option Record} {r : Bool} {board : Record} {own : Seen} {e : SensorEvent}
      → e ≢ event.Left → own_after own e ≡ Complete
      → IsIntakeRow (state_of (Waiting board own true) o r) (Sensed e)
      (to (state_of Idle o r) (settles board None (Some false)))
  waiting_inside : {o : Option Record} {r : Bool} {board : Record} {own : Seen} {e : SensorEvent}
      → e ≢ event.Left → own_after own e ≡ Complete
      → IsIntakeRow (state_of (Waiting board own false) o r) (Sensed e)
      (to (state_of (Waiting board Complete false) o r) drive_off)
  waiting_between : {o : Option Record} {r heard : Bool} {board : Record} {own : Seen}
      {e : SensorEvent} → e ≢ event.Left → own_after own e ≡ Incomplete
      → IsIntakeRow (state_of (Waiting board own heard) o r) (Sensed e)
      (to (state_of (Waiting board Incomplete heard) o r) nothing)
  waiting_home : {o : Option Record} {r heard : Bool} {board : Record} {own : Seen}
      {e : SensorEvent} → e ≢ event.Left → own_after own e ≡ NotStarted
      → IsIntakeRow (state_of (Waiting board own heard) o r) (Sensed e)
      (to (state_of Idle o r) (drops board NotStarted None (Some false)))
  waiting_taken : {o : Option Record} {r heard : Bool} {board : Record} {own : Seen}
      {e : SensorEvent} → e ≢ event.Left → own_after own e ≡ Taken
      → IsIntakeRow (state_of (Waiting board own heard) o r) (Sensed e)
      (to (state_of Idle o r) (drops board Taken None (Some false)))
  -- the entry's drive fails
  fault_idle : {o : Option Record} {r : Bool}
      → IsIntakeRow (state_of Idle o r) Fault (to (state_of Idle o r) nothing)
  fault_taking : {o : Option Record} {r heard : Bool} {board : Record} {own : Seen}
      → IsIntakeRow (state_of (Taking board own heard) o r) Fault
      (to (state_of (Stopped board own (complete_if heard)) o r) (stops board own))
  fault_stopped : {o : Option Record} {r : Bool} {board : Record} {own : Seen}
      {h : Option Transfer}
      → IsIntakeRow (state_of (Stopped board own h) o r) Fault
      (to (state_of (Stopped board own h) o r) nothing)
  fault_waiting : {o : Option Record} {r heard : Bool} {board : Record} {own : Seen}
      → IsIntakeRow (state_of (Waiting board own heard) o r) Fault
      (to (state_of (Waiting board own heard) o r) nothing)
  -- the connection is closed
  closed_idle : {o : Option Record} {r : Bool}
      → IsIntakeRow (state_of Idle o r) Closed (to (state_of Idle None false) nothing)
  closed_home : {o : Option Record} {r heard : Bool} {board : Record}
      → IsIntakeRow (state_of (Taking board NotStarted heard) o r) Closed
      (to (state_of Idle None false) (drops board NotStarted None (Some false)))
  closed_between : {o : Option Record} {r heard : Bool} {board : Record}
      → IsIntakeRow (state_of (Taking board Incomplete heard) o r) Closed
      (to (state_of (Waiting board Incomplete heard) None false)
      (record nothing { drive = off_unless heard }))
  closed_inside : {o : Option Record} {r heard : Bool} {board : Record}
      → IsIntakeRow (state_of (Taking board Complete heard) o r) Closed
      (to (state_of (Waiting board Complete heard) None false)
      (record nothing { drive = off_unless heard }))
  closed_gone : {o : Option Record} {r heard : Bool} {board : Record}
      → IsIntakeRow (state_of (Taking board Taken heard) o r) Closed
      (to (state_of (Waiting board Taken heard) None false)
      (record nothing { drive = off_unless heard }))
  closed_stopped_home : {o : Option Record} {r : Bool} {board : Record} {h : Option Transfer}
      → IsIntakeRow (state_of (Stopped board NotStarted h) o r) Closed
      (to (state_of Idle None false) (drops board NotStarted None None))
  closed_stopped_gone : {o : Option Record} {r : Bool} {board : Record} {h : Option Transfer}
      → IsIntakeRow (state_of (Stopped board Taken h) o r) Closed
      (to (state_of Idle None false) (drops board Taken None None))
  closed_stopped_between : {o : Option Record} {r : Bool} {board : Record} {h : Option Transfer}
      → IsIntakeRow (state_of (Stopped board Incomplete h) o r) Closed
      (to (state_of (Waiting board Incomplete (is_complete h)) None false) nothing)
  closed_stopped_inside : {o : Option Record} {r : Bool} {board : Record} {h : Option Transfer}
      → IsIntakeRow (state_of (Stopped board Complete h) o r) Closed
      (to (state_of (Waiting board Complete (is_complete h)) None false) nothing)
  closed_waiting : {o : Option Record} {r heard : Bool} {board : Record} {own : Seen}
      → IsIntakeRow (state_of (Waiting board own heard) o r) Closed
      (to (state_of (Waiting board own heard) None false) nothing)
  -- a new connection stands
  stands_idle : {o : Option Record} {r : Bool}
      → IsIntakeRow (state_of Idle o r) Stand (to (state_of Idle o r) nothing)
  stands_taking : {o : Option Record} {r heard : Bool} {board : Record} {own : Seen}
      → IsIntakeRow (state_of (Taking board own heard) o r) Stand
      (to (state_of (Taking board own heard) o r) nothing)
  stands_stopped : {o : Option Record} {r : Bool} {board : Record} {own : Seen}
      {h : Option Transfer}
      → IsIntakeRow (state_of (Stopped board own h) o r) Stand
      (to (state_of (Stopped board own h) o r) nothing)
  stands_settles : {o : Option Record} {r heard : Bool} {board : Record}
      → IsIntakeRow (state_of (Waiting board Complete heard) o r) Stand
      (to (state_of Idle o r) (settles board None None))
  stands_home : {o : Option Record} {r heard : Bool} {board : Record}
      → IsIntakeRow (state_of (Waiting board NotStarted heard) o r) Stand
      (to (state_of (Waiting board NotStarted heard) o r) nothing)
  stands_between : {o : Option Record} {r heard : Bool} {board : Record}
      → IsIntakeRow (state_of (Waiting board Incomplete heard) o r) Stand
      (to (state_of (Waiting board Incomplete heard) o r) nothing)
  stands_gone : {o : Option Record} {r heard : Bool} {board : Record}
      → IsIntakeRow (state_of (Waiting board Taken heard) o r) Stand
      (to (state_of (Waiting board Taken heard) o r) nothing)
