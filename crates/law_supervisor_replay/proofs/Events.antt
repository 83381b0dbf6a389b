-- What a sensor event does to an intake beside the floor, and to an outlet.
use Rattle.std.proofs.Common.{
  refl,
  ◌≡◌,
  ℕ,
  Bool,
  true,
  false,
  List,
  [],
  ◌∷◌,
  Option,
  Some,
  None,
}
use Rattle.std.specs.Prelude.{is_some, option_map}
use Rattle.std.proofs.lemmas.Bool.{false≢true}
use Rattle.line_base.specs.declared.states.Seen.{Seen}
use Rattle.line_base.specs.declared.states.Seen.TheVariants as seen
use Rattle.line_base.specs.declared.states.SensorEvent.{SensorEvent}
use Rattle.line_base.specs.declared.states.SensorEvent.TheVariants as event
use Rattle.line_base.specs.declared.states.Transfer.{Transfer}
use Rattle.line_base.specs.declared.states.Transfer.TheVariants as said
use Rattle.board_record.specs.declared.record.Record.{Record}
use Rattle.handover_out.specs.declared.act.OutSend.{OutSend}
use Rattle.handover_out.specs.declared.input.OutInput.TheVariants as out_input
use Rattle.handover_out.specs.Act.{leaves, loses, nothing as out_nothing, returns}
use Rattle.handover_out.specs.Row.{OutRow, last_by, outlet_row}
use Rattle.handover_out.specs.State.{OutState, held as held_out}
use Rattle.handover_out.specs.Table.{
  IsOutletRow,
  back_stopped,
  back_stuck,
  back_unlinked,
  left_moving,
  left_stopped,
  left_stuck,
  left_unlinked,
  taken_moving,
  taken_stopped,
  taken_stuck,
  taken_unlinked,
  to as out_to,
}
use Rattle.handover_out.proofs.Rows.{row_is as out_row_is}
use Rattle.handover_in.specs.declared.act.InSend.{InSend}
use Rattle.handover_in.specs.declared.input.InInput.TheVariants as in_input
use Rattle.handover_in.specs.declared.phase.Phase.{Phase}
use Rattle.handover_in.specs.declared.phase.Phase.TheVariants.{Idle, Stopped, Taking, Waiting}
use Rattle.handover_in.specs.Act.{drops, nothing, settles}
use Rattle.handover_in.specs.Row.{InRow, intake_row}
use Rattle.handover_in.specs.State.{InState, board_of_phase, own_of_phase}
use Rattle.handover_in.specs.Table.{state_of, to}
use Rattle.node_core.specs.Supervising.{seen_with}
use Rattle.law_custody.specs.Floor.{
  EntryFloor,
  Ran,
  Run,
  Runs,
  Sees,
  in_free,
  in_stopped,
  in_taken_in,
  in_taking,
  in_waiting,
  is_gone,
  is_in,
  is_stolen,
  on_across,
  on_back,
  on_begun,
  on_full,
  on_gone,
  on_stolen,
  sees_across,
  sees_back,
  sees_begun,
  sees_full,
  sees_gone,
  sees_home,
  sees_stolen,
}
use Rattle.law_custody.specs.Place.{Home, Inside, Place, is_away, is_upstream}

-- ---- what the entry's sensor sees next

data Next : Seen → SensorEvent → List SensorEvent → Place → Run → Type 0 where
  next_begun : {es : List SensorEvent} {p : Place} {n : Run} → Sees seen.Incomplete es p n
      → Next seen.NotStarted event.Begun es p n
  next_back : Next seen.Incomplete event.Back [] Home Runs
  next_full : Next seen.Incomplete event.Full [] Inside Ran
  next_gone : {p : Place} {n m : Run} → is_away p ≡ true → Sees seen.Taken [] p m
      → Next seen.Incomplete event.Taken [] p n

next : {own : Seen} {e : SensorEvent} {es : List SensorEvent} {p : Place} {n : Run}
    → Sees own (e ∷ es) p n → Next own e es p n
next sees_begun = next_begun on_begun
next sees_across = next_begun on_across
next sees_back = next_begun on_back
next sees_full = next_begun on_full
next sees_gone = next_begun on_gone
next sees_stolen = next_begun on_stolen
next on_back = next_back
next on_full = next_full
next on_gone = next_gone refl is_gone
next on_stolen = next_gone refl is_stolen

-- the floor, while the intake holds the board
abbrev pub Later : Phase → List SensorEvent → Place → Record → Type 0
Later phase es place board =
    is_some (board_of_phase phase) ≡ true → (drive : Bool) × EntryFloor phase es drive place board

-- where a board is that is dropped
pub data WasSeen : Seen → Place → Type 0 where
  was_taken : {place : Place} → is_away place ≡ true → WasSeen seen.Taken place
  was_home : {place : Place} → is_upstream place ≡ true → WasSeen seen.NotStarted place

-- an event at the entry: the intake holds what it held, or the board settles, or it is dropped
pub data EntryTurn (e : SensorEvent) (es : List SensorEvent) (place : Place) (board : Record)
    : InState → Option InRow → Type 0 where
  turn_stays : {phase after : Phase} {o : Option Record} {rd : Bool} {send : Option InSend}
      {drive : Option Bool} → board_of_phase after ≡ board_of_phase phase
      → option_map (seen_with e) (own_of_phase phase) ≡ own_of_phase after
      → Later after es place board
      → EntryTurn e es place board (state_of phase o rd)
      (Some (to (state_of after o rd) (record nothing { send = send; drive = drive })))
  turn_settles : {phase : Phase} {o : Option Record} {rd : Bool} {send : Option InSend}
      {drive : Option Bool} {mine : Record} → board_of_phase phase ≡ Some mine
      → EntryTurn e es place board (state_of phase o rd)
      (Some (to (state_of Idle o rd) (settles mine send drive)))
  turn_drops : {phase : Phase} {o : Option Record} {rd : Bool} {send : Option InSend}
      {drive : Option Bool} {mine : Record} {own : Seen} → board_of_phase phase ≡ Some mine
      → option_map (seen_with e) (own_of_phase phase) ≡ Some own → WasSeen own place
      → EntryTurn e es place board (state_of phase o rd)
      (Some (to (state_of Idle o rd) (drops mine own send drive)))

-- ---- phase by phase

abbrev Turns : SensorEvent → List SensorEvent → Place → Record → InState → Type 0
Turns e es place board s = EntryTurn e es place board s (intake_row s (in_input.Sensed e))

idle_turn : {es : List SensorEvent} {place : Place} {board : Record} {o : Option Record} {rd : Bool}
    (e : SensorEvent) → Turns e es place board (state_of Idle o rd)
idle_turn event.Begun = turn_stays refl refl (λ is. absurd (false≢true is))
idle_turn event.Left = turn_stays refl refl (λ is. absurd (false≢true is))
idle_turn event.Full = turn_stays refl refl (λ is. absurd (false≢true is))
idle_turn event.Back = turn_stays refl refl (λ is. absurd (false≢true is))
idle_turn event.Taken = turn_stays refl refl (λ is. absurd (false≢true is))

taking_turn : {own : Seen} {e : SensorEvent} {es : List SensorEvent} {place : Place}
    {o : Option Record} {rd : Bool} (board : Record) (heard : Bool) → Next own e es place Runs
    → Turns e es place board (state_of (Taking board own heard) o rd)
taking_turn board true (next_begun s) = turn_stays refl refl (λ is. (true, in_taking s))
taking_turn board false (next_begun s) = turn_stays refl refl (λ is. (true, in_taking s))
taking_turn board true next_back = turn_stays refl refl (λ is. (true, in_taking sees_home))
taking_turn board false next_back = turn_stays refl refl (λ is. (true, in_taking sees_home))
taking_turn board true (next_gone away s) = turn_drops refl refl (was_taken away)
taking_turn board false (next_gone away s) = turn_stays refl refl (λ is. (false, in_stopped s))

taken_in_turn : {own : Seen} {e : SensorEvent} {es : List SensorEvent} {place : Place}
    {o : Option Record} {rd : Bool} (board : Record) (heard : Bool) → Next own e es place Ran
    → Turns e es place board (state_of (Taking board own heard) o rd)
taken_in_turn board true (next_begun s) = turn_stays refl refl (λ is. (false, in_taken_in s))
taken_in_turn board false (next_begun s) = turn_stays refl refl (λ is. (false, in_taken_in s))
taken_in_turn board true next_full = turn_settles refl
taken_in_turn board false next_full = turn_stays refl refl (λ is. (false, in_stopped is_in))
taken_in_turn board true (next_gone away s) = turn_drops refl refl (was_taken away)
taken_in_turn board false (next_gone away s) = turn_stays refl refl (λ is. (false, in_stopped s))

stopped_turn : {own : Seen} {e : SensorEvent} {es : List SensorEvent} {place : Place} {n : Run}
    {o : Option Record} {rd : Bool} (board : Record) (heard : Option Transfer)
    → Next own e es place n → Turns e es place board (state_of (Stopped board own heard) o rd)
stopped_turn board None (next_begun s) = turn_stays refl refl (λ is. (false, in_stopped s))
stopped_turn board (Some how) (next_begun s) = turn_stays refl refl (λ is. (false, in_stopped s))
stopped_turn board None next_back = turn_stays refl refl (λ is. (false, in_stopped sees_home))
stopped_turn board (Some said.NotStarted) next_back = turn_drops refl refl (was_home refl)
stopped_turn board (Some said.Incomplete) next_back = turn_drops refl refl (was_home refl)
stopped_turn board (Some said.Complete) next_back =
    turn_stays refl refl (λ is. (false, in_stopped sees_home))
stopped_turn board None next_full = turn_stays refl refl (λ is. (false, in_stopped is_in))
stopped_turn board (Some said.NotStarted) next_full =
    turn_stays refl refl (λ is. (false, in_stopped is_in))
stopped_turn board (Some said.Incomplete) next_full = turn_settles refl
stopped_turn board (Some said.Complete) next_full = turn_settles refl
stopped_turn board None (next_gone away s) = turn_stays refl refl (λ is. (false, in_stopped s))
stopped_turn board (Some how) (next_gone away s) = turn_drops refl refl (was_taken away)

waiting_turn : {own : Seen} {e : SensorEvent} {es : List SensorEvent} {place : Place} {n : Run}
    {o : Option Record} {rd : Bool} (board : Record) (heard : Bool) → Next own e es place n
    → Turns e es place board (state_of (Waiting board own heard) o rd)
waiting_turn board heard (next_begun s) = turn_stays refl refl (λ is. (false, in_waiting s))
waiting_turn board heard next_back = turn_drops refl refl (was_home refl)
waiting_turn board true next_full = turn_settles refl
waiting_turn board false next_full = turn_stays refl refl (λ is. (false, in_waiting is_in))
waiting_turn board heard (next_gone away s) = turn_drops refl refl (was_taken away)

floor_turn : {phase : Phase} {e : SensorEvent} {es : List SensorEvent} {drive : Bool}
    {place : Place} {board : Record} {o : Option Record} {rd : Bool} → EntryFloor phase (e ∷ es) drive place board
    → Turns e es place board (state_of phase o rd)
floor_turn {e = e} (in_free free apart) = idle_turn e
floor_turn {board = board} (in_taking {h = heard} s) = taking_turn board heard (next s)
floor_turn {board = board} (in_taken_in {h = heard} s) = taken_in_turn board heard (next s)
floor_turn {board = board} (in_stopped {h = heard} s) = stopped_turn board heard (next s)
floor_turn {board = board} (in_waiting {h = heard} s) = waiting_turn board heard (next s)

pub entry_turn : {o : Option Record} {rd : Bool} (phase : Phase) (e : SensorEvent)
    (es : List SensorEvent) (place : Place) (board : Record) → Later phase (e ∷ es) place board
    → EntryTurn e es place board (state_of phase o rd)
    (intake_row (state_of phase o rd) (in_input.Sensed e))
entry_turn Idle e es place board later = idle_turn e
entry_turn (Taking mine own heard) e es place board later = floor_turn (later refl).1
entry_turn (Stopped mine own heard) e es place board later = floor_turn (later refl).1
entry_turn (Waiting mine own heard) e es place board later = floor_turn (later refl).1

-- ---- the exit

-- what is sent offers nothing
abbrev pub OffersNot : Option OutSend → Type 0
OffersNot send = (offered last : Option ℕ) → last_by send offered last ≡ last

-- an event there: the outlet holds what it held, or its board leaves, is given back, or is lost

pub data ExitTurn : SensorEvent → OutState → Option OutRow → Type 0 where
  exit_none : {e : SensorEvent} {s : OutState} → ExitTurn e s None
  exit_stays : {e : SensorEvent} {s after : OutState} → held_out after ≡ held_out s
      → ExitTurn e s (Some (out_to after out_nothing))
  exit_leaves : {s after : OutState} {mine : Record} {send : Option OutSend} {drive : Option Bool}
      → held_out s ≡ Some mine → held_out after ≡ None → OffersNot send
      → ExitTurn event.Left s (Some (out_to after (leaves mine send drive)))
  exit_returns : {s after : OutState} {mine : Record} {send : Option OutSend} {drive : Option Bool}
      → held_out s ≡ Some mine → held_out after ≡ None → OffersNot send
      → ExitTurn event.Back s (Some (out_to after (returns mine send drive)))
  exit_loses : {s after : OutState} {mine : Record} {send : Option OutSend} {drive : Option Bool}
      → held_out s ≡ Some mine → held_out after ≡ None → OffersNot send
      → ExitTurn event.Taken s (Some (out_to after (loses mine send drive)))

exit_row : {e : SensorEvent} {s : OutState} {row : OutRow} → IsOutletRow s (out_input.Sensed e) row
    → ExitTurn e s (Some row)
exit_row left_moving = exit_leaves refl refl (λ offered last. refl)
exit_row left_stuck = exit_leaves refl refl (λ offered last. refl)
exit_row left_stopped = exit_leaves refl refl (λ offered last. refl)
exit_row left_unlinked = exit_leaves refl refl (λ offered last. refl)
exit_row back_stuck = exit_returns refl refl (λ offered last. refl)
exit_row back_stopped = exit_returns refl refl (λ offered last. refl)
exit_row back_unlinked = exit_returns refl refl (λ offered last. refl)
exit_row taken_moving = exit_loses refl refl (λ offered last. refl)
exit_row taken_stuck = exit_loses refl refl (λ offered last. refl)
exit_row taken_stopped = exit_loses refl refl (λ offered last. refl)
exit_row taken_unlinked = exit_loses refl refl (λ offered last. refl)
exit_row _ = exit_stays refl

pub exit_turn : (e : SensorEvent) (s : OutState) (found : Option OutRow)
    → outlet_row s (out_input.Sensed e) ≡ found → ExitTurn e s found
exit_turn e s None is = exit_none
exit_turn e s (Some row) is = exit_row (out_row_is s (out_input.Sensed e) row is)
