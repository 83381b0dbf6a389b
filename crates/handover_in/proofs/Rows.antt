-- The plain program computes exactly the rows of the intake table.
use Rattle.std.proofs.Common.{◌≡◌, ◌≢◌, ◌==◌, ◌∙◌, ◌↔◌, ℕ, Bool, true, false, Option, Some, None, IfSome, is_some, unwrap_or, refl, subst, eqb-true, eq-eqb}
use Rattle.line_base.specs.declared.states.Seen.{Seen}
use Rattle.line_base.specs.declared.states.Seen.TheVariants.{NotStarted, Incomplete, Complete, Taken}
use Rattle.line_base.specs.declared.states.Transfer.{Transfer}
use Rattle.line_base.specs.declared.states.Transfer.TheVariants as said
use Rattle.line_base.specs.declared.states.SensorEvent.{SensorEvent}
use Rattle.line_base.specs.declared.states.SensorEvent.TheVariants as event
use Rattle.board_record.specs.declared.record.Record.{Record}
use Rattle.transfer_state.specs.declared.intake.InEnd.{InEnd}
use Rattle.transfer_state.specs.declared.intake.InEnd.TheVariants.{Keep, Drop, Wait}
use Rattle.transfer_state.specs.Intake.{in_ends}
use Rattle.handover_in.specs.declared.input.InInput.{InInput}
use Rattle.handover_in.specs.declared.input.InInput.TheVariants.{Ready, Unready, Start, BoardAvailable, RevokeBoardAvailable, Finished, Sensed, Fault, Closed, Stand}
use Rattle.handover_in.specs.declared.phase.Phase.{Phase}
use Rattle.handover_in.specs.declared.phase.Phase.TheVariants.{Idle, Taking, Stopped, Waiting}
use Rattle.handover_in.specs.State.{InState}
use Rattle.handover_in.specs.Own.{own_after}
use Rattle.handover_in.specs.Act.{nothing}
use Rattle.handover_in.specs.Row.{InRow, intake_row, row, only_if, ends_running, ends_stopped, finishes_running, taking_row, sensed_row, waiting_row, fault_row, closed_row, stand_row}
use Rattle.handover_in.specs.Run.{stay, step}
use Rattle.handover_in.specs.Table.{state_of, IsIntakeRow, gets_ready, gets_unready, starts_transport, available_idle, available_heard, available_stopped, revoked_idle, revoked_heard, revoked_stopped, passed_taking, passed_unheard, passed_revoked_taking, passed_revoked_unheard, hears_left, running_drop, running_wait, running_keep, hears_keep, hears_drop, hears_wait, sensed_idle, taking_left, taking_begun, taking_back, full_heard, full_unheard, taken_heard, taken_unheard, taken_home, taken_inside, taken_again, stopped_left, stopped_event, stopped_keep, stopped_drop, stopped_wait, waiting_left, waiting_settles, waiting_inside, waiting_between, waiting_home, waiting_taken, fault_idle, fault_taking, fault_stopped, fault_waiting, closed_idle, closed_home, closed_between, closed_inside, closed_gone, closed_stopped_home, closed_stopped_gone, closed_stopped_between, closed_stopped_inside, closed_waiting, stands_idle, stands_taking, stands_stopped, stands_settles, stands_home, stands_between, stands_gone}

-- the row of an end that is heard stands where it names the board
where_id : (s : InState) (input : InInput) (test : Bool) (row : Option InRow) → (test ≡ true → IfSome row (IsIntakeRow s input)) → IfSome (only_if test row) (IsIntakeRow s input)
where_id _ _ true _ shape = shape refl
where_id _ _ false _ _ = tt

running : (end : InEnd) (board : Record) (own : Seen) (o : Option Record) (r : Bool) (n : Transfer) (id : ℕ) → n ≢ said.Complete → board.id ≡ id → in_ends own n ≡ end
    → IfSome (ends_running end (state_of (Taking board own false) o r) board own n) (IsIntakeRow (state_of (Taking board own false) o r) (Finished n id))
running Keep board own o r n id other same is = running_keep other same is
running Drop board own o r n id other same is = running_drop other same is
running Wait board own o r n id other same is = running_wait other same is

finishes : (n : Transfer) (board : Record) (own : Seen) (o : Option Record) (r : Bool) (id : ℕ) → board.id ≡ id
    → IfSome (finishes_running n (state_of (Taking board own false) o r) board own) (IsIntakeRow (state_of (Taking board own false) o r) (Finished n id))
finishes said.NotStarted board own o r id same = running (in_ends own said.NotStarted) board own o r said.NotStarted id (λ wrong. cc) same refl
finishes said.Incomplete board own o r id same = running (in_ends own said.Incomplete) board own o r said.Incomplete id (λ wrong. cc) same refl
finishes said.Complete board own o r id same = hears_left same

stopped_hears : (end : InEnd) (board : Record) (own : Seen) (o : Option Record) (r : Bool) (n : Transfer) (id : ℕ) → board.id ≡ id → in_ends own n ≡ end
    → IfSome (ends_stopped end (state_of (Stopped board own None) o r) board own n) (IsIntakeRow (state_of (Stopped board own None) o r) (Finished n id))
stopped_hears Keep board own o r n id same is = hears_keep same is
stopped_hears Drop board own o r n id same is = hears_drop same is
stopped_hears Wait board own o r n id same is = hears_wait same is

stopped_senses : (end : InEnd) (board : Record) (own : Seen) (o : Option Record) (r : Bool) (n : Transfer) (e : SensorEvent) → e ≢ event.Left → in_ends (own_after own e) n ≡ end
    → IfSome (ends_stopped end (state_of (Stopped board own (Some n)) o r) board (own_after own e) n) (IsIntakeRow (state_of (Stopped board own (Some n)) o r) (Sensed e))
stopped_senses Keep board own o r n e other is = stopped_keep other is
stopped_senses Drop board own o r n e other is = stopped_drop other is
stopped_senses Wait board own o r n e other is = stopped_wait other is

waiting_senses : (new : Seen) (heard : Bool) (board : Record) (own : Seen) (o : Option Record) (r : Bool) (e : SensorEvent) → e ≢ event.Left → own_after own e ≡ new
    → IfSome (waiting_row (state_of (Waiting board own heard) o r) board new heard) (IsIntakeRow (state_of (Waiting board own heard) o r) (Sensed e))
waiting_senses Complete true board own o r e other is = waiting_settles other is
waiting_senses Complete false board own o r e other is = waiting_inside other is
waiting_senses Incomplete heard board own o r e other is = waiting_between other is
waiting_senses NotStarted heard board own o r e other is = waiting_home other is
waiting_senses Taken heard board own o r e other is = waiting_taken other is

-- each row of the program is one of the table
rows : (phase : Phase) (o : Option Record) (r : Bool) (input : InInput) → IfSome (intake_row (state_of phase o r) input) (IsIntakeRow (state_of phase o r) input)
rows Idle o false Ready = gets_ready
rows Idle o true Unready = gets_unready
rows Idle (Some board) true Start = starts_transport
rows Idle (Some board) false Start = tt
rows Idle None r Start = tt
rows Idle None r (BoardAvailable offered) = available_idle
rows Idle (Some offered) r RevokeBoardAvailable = revoked_idle
rows (Taking board own true) None r (BoardAvailable offered) = available_heard
rows (Taking board own true) (Some offered) r RevokeBoardAvailable = revoked_heard
rows (Stopped board own (Some n)) None r (BoardAvailable offered) = available_stopped
rows (Stopped board own (Some n)) (Some offered) r RevokeBoardAvailable = revoked_stopped
rows (Taking board own false) o r (BoardAvailable offered) = passed_taking
rows (Taking board own false) o r RevokeBoardAvailable = passed_revoked_taking
rows (Stopped board own None) o r (BoardAvailable offered) = passed_unheard
rows (Stopped board own None) o r RevokeBoardAvailable = passed_revoked_unheard
rows (Taking board own false) o r (Finished n id) = where_id _ _ (board.id == id) _ (λ test. finishes n board own o r id (eqb-true board.id id test))
rows (Stopped board own None) o r (Finished n id) = where_id _ _ (board.id == id) _ (λ test. stopped_hears (in_ends own n) board own o r n id (eqb-true board.id id test) refl)
rows Idle o r (Sensed event.Begun) = sensed_idle
rows Idle o r (Sensed event.Left) = sensed_idle
rows Idle o r (Sensed event.Full) = sensed_idle
rows Idle o r (Sensed event.Back) = sensed_idle
rows Idle o r (Sensed event.Taken) = sensed_idle
rows (Taking board own heard) o r (Sensed event.Left) = taking_left
rows (Taking board own true) o r (Sensed event.Begun) = taking_begun
rows (Taking board own false) o r (Sensed event.Begun) = taking_begun
rows (Taking board own true) o r (Sensed event.Back) = taking_back
rows (Taking board own false) o r (Sensed event.Back) = taking_back
rows (Taking board own true) o r (Sensed event.Full) = full_heard
rows (Taking board own false) o r (Sensed event.Full) = full_unheard
rows (Taking board Incomplete true) o r (Sensed event.Taken) = taken_heard
rows (Taking board Incomplete false) o r (Sensed event.Taken) = taken_unheard
rows (Taking board NotStarted true) o r (Sensed event.Taken) = taken_home
rows (Taking board NotStarted false) o r (Sensed event.Taken) = taken_home
rows (Taking board Complete true) o r (Sensed event.Taken) = taken_inside
rows (Taking board Complete false) o r (Sensed event.Taken) = taken_inside
rows (Taking board Taken true) o r (Sensed event.Taken) = taken_again
rows (Taking board Taken false) o r (Sensed event.Taken) = taken_again
rows (Stopped board own h) o r (Sensed event.Left) = stopped_left
rows (Stopped board own None) o r (Sensed event.Begun) = stopped_event
rows (Stopped board own None) o r (Sensed event.Full) = stopped_event
rows (Stopped board own None) o r (Sensed event.Back) = stopped_event
rows (Stopped board own None) o r (Sensed event.Taken) = stopped_event
rows (Stopped board own (Some n)) o r (Sensed event.Begun) = stopped_senses (in_ends (own_after own event.Begun) n) board own o r n event.Begun (λ wrong. cc) refl
rows (Stopped board own (Some n)) o r (Sensed event.Full) = stopped_senses (in_ends (own_after own event.Full) n) board own o r n event.Full (λ wrong. cc) refl
rows (Stopped board own (Some n)) o r (Sensed event.Back) = stopped_senses (in_ends (own_after own event.Back) n) board own o r n event.Back (λ wrong. cc) refl
rows (Stopped board own (Some n)) o r (Sensed event.Taken) = stopped_senses (in_ends (own_after own event.Taken) n) board own o r n event.Taken (λ wrong. cc) refl
rows (Waiting board own heard) o r (Sensed event.Left) = waiting_left
rows (Waiting board own heard) o r (Sensed event.Begun) = waiting_senses (own_after own event.Begun) heard board own o r event.Begun (λ wrong. cc) refl
rows (Waiting board own heard) o r (Sensed event.Full) = waiting_senses (own_after own event.Full) heard board own o r event.Full (λ wrong. cc) refl
rows (Waiting board own heard) o r (Sensed event.Back) = waiting_senses (own_after own event.Back) heard board own o r event.Back (λ wrong. cc) refl
rows (Waiting board own heard) o r (Sensed event.Taken) = waiting_senses (own_after own event.Taken) heard board own o r event.Taken (λ wrong. cc) refl
rows Idle o r Fault = fault_idle
rows (Taking board own heard) o r Fault = fault_taking
rows (Stopped board own h) o r Fault = fault_stopped
rows (Waiting board own heard) o r Fault = fault_waiting
rows Idle o r Closed = closed_idle
rows (Taking board NotStarted heard) o r Closed = closed_home
rows (Taking board Incomplete heard) o r Closed = closed_between
rows (Taking board Complete heard) o r Closed = closed_inside
rows (Taking board Taken heard) o r Closed = closed_gone
rows (Stopped board NotStarted h) o r Closed = closed_stopped_home
rows (Stopped board Taken h) o r Closed = closed_stopped_gone
rows (Stopped board Incomplete h) o r Closed = closed_stopped_between
rows (Stopped board Complete h) o r Closed = closed_stopped_inside
rows (Waiting board own heard) o r Closed = closed_waiting
rows Idle o r Stand = stands_idle
rows (Taking board own heard) o r Stand = stands_taking
rows (Stopped board own h) o r Stand = stands_stopped
rows (Waiting board Complete heard) o r Stand = stands_settles
rows (Waiting board NotStarted heard) o r Stand = stands_home
rows (Waiting board Incomplete heard) o r Stand = stands_between
rows (Waiting board Taken heard) o r Stand = stands_gone
rows _ _ _ _ = tt

pub rows_of : (s : InState) (input : InInput) → IfSome (intake_row s input) (IsIntakeRow s input)
rows_of s input = rows s.phase s.offer s.ready input

by_row : (Q : Option InRow → Type 0) (s : InState) (input : InInput) (row : Option InRow)
    → Q None → ((row : InRow) → IsIntakeRow s input row → Q (Some row)) → IfSome row (IsIntakeRow s input) → Q row
by_row Q s input None none _ _ = none
by_row Q s input (Some row) _ some shape = some row shape

-- what holds of no row and of each row of the table holds of what the program says
pub by_table : (Q : Option InRow → Type 0) (s : InState) (input : InInput)
    → Q None → ((row : InRow) → IsIntakeRow s input row → Q (Some row)) → Q (intake_row s input)
by_table Q s input none some = by_row Q s input (intake_row s input) none some (rows_of s input)

pub row_is : (s : InState) (input : InInput) (row : InRow) → intake_row s input ≡ Some row → IsIntakeRow s input row
row_is s input row =
    by_table (λ found. found ≡ Some row → IsIntakeRow s input row) s input (λ none. cc)
    (λ found shape same. let is : found ≡ row = cc in subst (IsIntakeRow s input) is shape)

-- and each row of the table is computed

found_id : (a b : ℕ) (row : Option InRow) → a ≡ b → only_if (a == b) row ≡ row
found_id a b row same = rw (eq-eqb a b same) refl

finished : (n : Transfer) (s : InState) (board : Record) (own : Seen) → n ≢ said.Complete
    → finishes_running n s board own ≡ ends_running (in_ends own n) s board own n
finished said.NotStarted s board own other = refl
finished said.Incomplete s board own other = refl
finished said.Complete s board own other = absurd (other refl)

pub left_says : (own : Seen) → own_after own event.Left ≡ own
left_says NotStarted = refl
left_says Incomplete = refl
left_says Complete = refl
left_says Taken = refl

pub full_says : (own : Seen) → own_after own event.Full ≡ Complete
full_says NotStarted = refl
full_says Incomplete = refl
full_says Complete = refl
full_says Taken = refl

unheard_sensed : (e : SensorEvent) (board : Record) (own : Seen) (o : Option Record) (r : Bool)
    → sensed_row (Stopped board own None) (state_of (Stopped board own None) o r) e ≡ row (state_of (Stopped board (own_after own e) None) o r) nothing
unheard_sensed event.Begun board own o r = refl
unheard_sensed event.Left board own o r = rw (left_says own) refl
unheard_sensed event.Full board own o r = refl
unheard_sensed event.Back board own o r = refl
unheard_sensed event.Taken board own o r = refl

stopped_sensed : (e : SensorEvent) (board : Record) (own : Seen) (n : Transfer) (s : InState) → e ≢ event.Left
    → sensed_row (Stopped board own (Some n)) s e ≡ ends_stopped (in_ends (own_after own e) n) s board (own_after own e) n
stopped_sensed event.Begun board own n s other = refl
stopped_sensed event.Left board own n s other = absurd (other refl)
stopped_sensed event.Full board own n s other = refl
stopped_sensed event.Back board own n s other = refl
stopped_sensed event.Taken board own n s other = refl

waiting_sensed : (e : SensorEvent) (board : Record) (own new : Seen) (heard : Bool) (s : InState) → e ≢ event.Left → own_after own e ≡ new
    → sensed_row (Waiting board own heard) s e ≡ waiting_row s board new heard
waiting_sensed event.Begun board own new heard s other is = rw is refl
waiting_sensed event.Left board own new heard s other is = absurd (other refl)
waiting_sensed event.Full board own new heard s other is = rw is refl
waiting_sensed event.Back board own new heard s other is = rw is refl
waiting_sensed event.Taken board own new heard s other is = rw is refl

pub is_computed : (s : InState) (input : InInput) (row : InRow) → IsIntakeRow s input row → intake_row s input ≡ Some row
is_computed _ _ _ (hears_left {board = board} {id = id} same) = found_id board.id id _ same
is_computed _ _ _ (running_drop {board = board} {own = own} {n = n} {id = id} other same is) = found_id board.id id _ same ∙ finished n _ board own other ∙ rw is refl
is_computed _ _ _ (running_wait {board = board} {own = own} {n = n} {id = id} other same is) = found_id board.id id _ same ∙ finished n _ board own other ∙ rw is refl
is_computed _ _ _ (running_keep {board = board} {own = own} {n = n} {id = id} other same is) = found_id board.id id _ same ∙ finished n _ board own other ∙ rw is refl
is_computed _ _ _ (hears_keep {board = board} {id = id} same is) = found_id board.id id _ same ∙ rw is refl
is_computed _ _ _ (hears_drop {board = board} {id = id} same is) = found_id board.id id _ same ∙ rw is refl
is_computed _ _ _ (hears_wait {board = board} {id = id} same is) = found_id board.id id _ same ∙ rw is refl
is_computed _ _ _ (taking_begun {heard = true}) = refl
is_computed _ _ _ (taking_begun {heard = false}) = refl
is_computed _ _ _ (taking_back {heard = true}) = refl
is_computed _ _ _ (taking_back {heard = false}) = refl
is_computed _ _ _ (taken_home {heard = true}) = refl
is_computed _ _ _ (taken_home {heard = false}) = refl
is_computed _ _ _ (taken_inside {heard = true}) = refl
is_computed _ _ _ (taken_inside {heard = false}) = refl
is_computed _ _ _ (taken_again {heard = true}) = refl
is_computed _ _ _ (taken_again {heard = false}) = refl
is_computed _ _ _ (sensed_idle {e = event.Begun}) = refl
is_computed _ _ _ (sensed_idle {e = event.Left}) = refl
is_computed _ _ _ (sensed_idle {e = event.Full}) = refl
is_computed _ _ _ (sensed_idle {e = event.Back}) = refl
is_computed _ _ _ (sensed_idle {e = event.Taken}) = refl
is_computed _ _ _ (stopped_event {o = o} {r = r} {board = board} {own = own} {e = e}) = unheard_sensed e board own o r
is_computed _ _ _ (stopped_keep {board = board} {own = own} {n = n} {e = e} other is) = stopped_sensed e board own n _ other ∙ rw is refl
is_computed _ _ _ (stopped_drop {board = board} {own = own} {n = n} {e = e} other is) = stopped_sensed e board own n _ other ∙ rw is refl
is_computed _ _ _ (stopped_wait {board = board} {own = own} {n = n} {e = e} other is) = stopped_sensed e board own n _ other ∙ rw is refl
is_computed _ _ _ (waiting_settles {board = board} {own = own} {e = e} other is) = waiting_sensed e board own Complete true _ other is
is_computed _ _ _ (waiting_inside {board = board} {own = own} {e = e} other is) = waiting_sensed e board own Complete false _ other is
is_computed _ _ _ (waiting_between {heard = heard} {board = board} {own = own} {e = e} other is) = waiting_sensed e board own Incomplete heard _ other is
is_computed _ _ _ (waiting_home {heard = heard} {board = board} {own = own} {e = e} other is) = waiting_sensed e board own NotStarted heard _ other is
is_computed _ _ _ (waiting_taken {heard = heard} {board = board} {own = own} {e = e} other is) = waiting_sensed e board own Taken heard _ other is
is_computed _ _ _ _ = refl

pub rows_exactly : (s : InState) (input : InInput) (row : InRow) → (intake_row s input ≡ Some row) ↔ IsIntakeRow s input row
rows_exactly s input row = (row_is s input row, is_computed s input row)

-- each event, fault, close and new connection has a row

stopped_has_row : (end : InEnd) (s : InState) (board : Record) (own : Seen) (n : Transfer) → is_some (ends_stopped end s board own n) ≡ true
stopped_has_row Keep _ _ _ _ = refl
stopped_has_row Drop _ _ _ _ = refl
stopped_has_row Wait _ _ _ _ = refl

waiting_has_row : (own : Seen) (heard : Bool) (s : InState) (board : Record) → is_some (waiting_row s board own heard) ≡ true
waiting_has_row Complete true _ _ = refl
waiting_has_row Complete false _ _ = refl
waiting_has_row NotStarted _ _ _ = refl
waiting_has_row Incomplete _ _ _ = refl
waiting_has_row Taken _ _ _ = refl

taking_has_row : (own : Seen) (heard : Bool) (event : SensorEvent) (s : InState) (board : Record) → is_some (taking_row s board own heard event) ≡ true
taking_has_row _ true event.Full _ _ = refl
taking_has_row _ false event.Full _ _ = refl
taking_has_row Incomplete true event.Taken _ _ = refl
taking_has_row Incomplete false event.Taken _ _ = refl
taking_has_row NotStarted true event.Taken _ _ = refl
taking_has_row NotStarted false event.Taken _ _ = refl
taking_has_row Complete true event.Taken _ _ = refl
taking_has_row Complete false event.Taken _ _ = refl
taking_has_row Taken true event.Taken _ _ = refl
taking_has_row Taken false event.Taken _ _ = refl
taking_has_row _ true _ _ _ = refl
taking_has_row _ false _ _ _ = refl

pub sensed_has_row : (phase : Phase) (s : InState) (event : SensorEvent) → is_some (sensed_row phase s event) ≡ true
sensed_has_row Idle s event.Left = refl
sensed_has_row Idle s event.Begun = refl
sensed_has_row Idle s event.Full = refl
sensed_has_row Idle s event.Back = refl
sensed_has_row Idle s event.Taken = refl
sensed_has_row (Taking _ _ _) s event.Left = refl
sensed_has_row (Taking board own heard) s event.Begun = taking_has_row own heard event.Begun s board
sensed_has_row (Taking board own heard) s event.Full = taking_has_row own heard event.Full s board
sensed_has_row (Taking board own heard) s event.Back = taking_has_row own heard event.Back s board
sensed_has_row (Taking board own heard) s event.Taken = taking_has_row own heard event.Taken s board
sensed_has_row (Stopped _ _ _) s event.Left = refl
sensed_has_row (Stopped _ _ None) s event.Begun = refl
sensed_has_row (Stopped _ _ None) s event.Full = refl
sensed_has_row (Stopped _ _ None) s event.Back = refl
sensed_has_row (Stopped _ _ None) s event.Taken = refl
sensed_has_row (Stopped board own (Some n)) s event.Begun = stopped_has_row (in_ends (own_after own event.Begun) n) s board (own_after own event.Begun) n
sensed_has_row (Stopped board own (Some n)) s event.Full = stopped_has_row (in_ends (own_after own event.Full) n) s board (own_after own event.Full) n
sensed_has_row (Stopped board own (Some n)) s event.Back = stopped_has_row (in_ends (own_after own event.Back) n) s board (own_after own event.Back) n
sensed_has_row (Stopped board own (Some n)) s event.Taken = stopped_has_row (in_ends (own_after own event.Taken) n) s board (own_after own event.Taken) n
sensed_has_row (Waiting _ _ _) s event.Left = refl
sensed_has_row (Waiting board own heard) s event.Begun = waiting_has_row (own_after own event.Begun) heard s board
sensed_has_row (Waiting board own heard) s event.Full = waiting_has_row (own_after own event.Full) heard s board
sensed_has_row (Waiting board own heard) s event.Back = waiting_has_row (own_after own event.Back) heard s board
sensed_has_row (Waiting board own heard) s event.Taken = waiting_has_row (own_after own event.Taken) heard s board

pub closed_has_row : (phase : Phase) → is_some (closed_row phase) ≡ true
closed_has_row Idle = refl
closed_has_row (Taking _ NotStarted _) = refl
closed_has_row (Taking _ _ _) = refl
closed_has_row (Stopped _ NotStarted _) = refl
closed_has_row (Stopped _ _ _) = refl
closed_has_row (Waiting _ _ _) = refl

pub stand_has_row : (phase : Phase) (s : InState) → is_some (stand_row phase s) ≡ true
stand_has_row (Waiting _ Complete _) s = refl
stand_has_row _ s = refl

pub fault_has_row : (phase : Phase) (s : InState) → is_some (fault_row phase s) ≡ true
fault_has_row (Taking _ _ _) s = refl
fault_has_row _ s = refl

-- what each row has where there is one
pub has_row : (P : InRow → Type 0) (s : InState) (input : InInput) → is_some (intake_row s input) ≡ true
    → ((row : InRow) → IsIntakeRow s input row → P row) → P (step s input)
has_row P s input found meets = by_table (λ row. is_some row ≡ true → P (unwrap_or row (stay s))) s input (λ none. cc) (λ row shape _. meets row shape) found

-- what each row has, and a breach, each step has
pub each_step : (P : InState → InInput → InRow → Type 0)
    → ((s : InState) (input : InInput) (row : InRow) → IsIntakeRow s input row → P s input row)
    → ((s : InState) (input : InInput) → P s input (stay s))
    → (s : InState) (input : InInput) → P s input (step s input)
each_step P meets stays s input = by_table (λ row. P s input (unwrap_or row (stay s))) s input (stays s input) (meets s input)
