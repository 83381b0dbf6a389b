-- Without a connection nothing is sent; and what a deed names.
use Rattle.std.proofs.Common.{◌≡◌, ◌++◌, Bool, true, List, [], ◌∷◌, Option, None, option_to_list, unwrap_or, refl}
use Rattle.std.specs.List.{list_all}
use Rattle.std.proofs.lemmas.Bool.{and_parts}
use Rattle.line_base.specs.declared.states.Seen.{Seen}
use Rattle.line_base.specs.declared.states.SensorEvent.{SensorEvent}
use Rattle.board_record.specs.declared.record.Record.{Record}
use Rattle.handover_in.specs.declared.input.InInput.{InInput}
use Rattle.handover_in.specs.declared.input.InInput.TheVariants.{Sensed, Fault, Closed}
use Rattle.handover_in.specs.declared.input.InInput.TheVariants as input
use Rattle.handover_in.specs.declared.phase.Phase.{Phase}
use Rattle.handover_in.specs.declared.phase.Phase.TheVariants.{Idle, Waiting}
use Rattle.handover_in.specs.declared.phase.Phase.TheVariants as phase
use Rattle.handover_in.specs.State.{InState}
use Rattle.handover_in.specs.Row.{InRow}
use Rattle.handover_in.specs.Run.{stay, step, after_all}
use Rattle.handover_in.specs.Links.{is_unlinked_phase, is_own, all_sent}
use Rattle.handover_in.specs.Deeds.{NamesRecord}
use Rattle.handover_in.specs.Table.{state_of, IsIntakeRow, gets_ready, starts_transport, running_drop, hears_keep, hears_drop, sensed_idle, full_heard, taken_heard, stopped_keep, stopped_drop, waiting_left, waiting_settles, waiting_inside, waiting_between, waiting_home, waiting_taken, fault_idle, fault_waiting, closed_idle, closed_home, closed_between, closed_inside, closed_gone, closed_stopped_home, closed_stopped_gone, closed_stopped_between, closed_stopped_inside, closed_waiting, stands_settles}
use Rattle.handover_in.proofs.Rows.{by_table, has_row, closed_has_row}

-- the two tests as families

data IsUnlinked : InState → Type 0 where
  unlinked_idle : {o : Option Record} {r : Bool} → IsUnlinked (state_of Idle o r)
  unlinked_waiting : {o : Option Record} {r heard : Bool} {board : Record} {own : Seen} → IsUnlinked (state_of (Waiting board own heard) o r)

data IsOwn : InInput → Type 0 where
  own_event : {e : SensorEvent} → IsOwn (Sensed e)
  own_fault : IsOwn Fault
  own_close : IsOwn Closed

unlinked_is : (p : Phase) (o : Option Record) (r : Bool) → is_unlinked_phase p ≡ true → IsUnlinked (state_of p o r)
unlinked_is phase.Idle o r test = unlinked_idle
unlinked_is (phase.Waiting board own heard) o r test = unlinked_waiting
unlinked_is (phase.Taking board own heard) o r test = absurd (let never : ⊥ = cc in never)
unlinked_is (phase.Stopped board own heard) o r test = absurd (let never : ⊥ = cc in never)

own_is : (i : InInput) → is_own i ≡ true → IsOwn i
own_is (input.Sensed e) test = own_event
own_is input.Fault test = own_fault
own_is input.Closed test = own_close
own_is input.Ready test = absurd (let never : ⊥ = cc in never)
own_is input.Unready test = absurd (let never : ⊥ = cc in never)
own_is input.Start test = absurd (let never : ⊥ = cc in never)
own_is (input.BoardAvailable board) test = absurd (let never : ⊥ = cc in never)
own_is input.RevokeBoardAvailable test = absurd (let never : ⊥ = cc in never)
own_is (input.Finished said id) test = absurd (let never : ⊥ = cc in never)
own_is input.Stand test = absurd (let never : ⊥ = cc in never)

abbrev IsSilent : InRow → Type 0
IsSilent row = (row.act.send ≡ None) × (is_unlinked_phase row.after.phase ≡ true)

row_silent : (s : InState) (i : InInput) (row : InRow) → IsUnlinked s → IsOwn i → IsIntakeRow s i row → IsSilent row
row_silent _ _ _ unlinked_idle own_event sensed_idle = (refl, refl)
row_silent _ _ _ unlinked_waiting own_event waiting_left = (refl, refl)
row_silent _ _ _ unlinked_waiting own_event (waiting_settles _ _) = (refl, refl)
row_silent _ _ _ unlinked_waiting own_event (waiting_inside _ _) = (refl, refl)
row_silent _ _ _ unlinked_waiting own_event (waiting_between _ _) = (refl, refl)
row_silent _ _ _ unlinked_waiting own_event (waiting_home _ _) = (refl, refl)
row_silent _ _ _ unlinked_waiting own_event (waiting_taken _ _) = (refl, refl)
row_silent _ _ _ unlinked_idle own_fault fault_idle = (refl, refl)
row_silent _ _ _ unlinked_waiting own_fault fault_waiting = (refl, refl)
row_silent _ _ _ unlinked_idle own_close closed_idle = (refl, refl)
row_silent _ _ _ unlinked_waiting own_close closed_waiting = (refl, refl)

pub unlinked_silent : (s : InState) (i : InInput) → is_unlinked_phase s.phase ≡ true → is_own i ≡ true → IsSilent (step s i)
unlinked_silent s i unlinked own =
    by_table (λ row. IsSilent (unwrap_or row (stay s))) s i (refl, unlinked) (λ row shape. row_silent s i row (unlinked_is s.phase s.offer s.ready unlinked) (own_is i own) shape)

row_closed : (s : InState) (row : InRow) → IsIntakeRow s Closed row → IsSilent row
row_closed _ _ closed_idle = (refl, refl)
row_closed _ _ closed_home = (refl, refl)
row_closed _ _ closed_between = (refl, refl)
row_closed _ _ closed_inside = (refl, refl)
row_closed _ _ closed_gone = (refl, refl)
row_closed _ _ closed_stopped_home = (refl, refl)
row_closed _ _ closed_stopped_gone = (refl, refl)
row_closed _ _ closed_stopped_between = (refl, refl)
row_closed _ _ closed_stopped_inside = (refl, refl)
row_closed _ _ closed_waiting = (refl, refl)

pub close_silent : (s : InState) → IsSilent (step s Closed)
close_silent s = has_row IsSilent s Closed (closed_has_row s.phase) (row_closed s)

abbrev AllSilent : InState → List InInput → Type 0
AllSilent s inputs = (all_sent s inputs ≡ []) × (is_unlinked_phase (after_all s inputs).phase ≡ true)

pub all_silent : (s : InState) (inputs : List InInput) → is_unlinked_phase s.phase ≡ true → list_all is_own inputs ≡ true → AllSilent s inputs
all_silent s [] unlinked own = (refl, unlinked)
all_silent s (i ∷ inputs) unlinked own =
    let first = unlinked_silent s i unlinked (and_parts (is_own i) (list_all is_own inputs) own).0 in
    let rest = all_silent (step s i).after inputs first.1 (and_parts (is_own i) (list_all is_own inputs) own).1 in
    let sent : option_to_list (step s i).act.send ++ all_sent (step s i).after inputs ≡ [] = rw (first.0, rest.0) refl in
    (sent, rest.1)

-- what a deed names

row_names : (s : InState) (i : InInput) (row : InRow) → IsIntakeRow s i row → NamesRecord s row row.act.deed
row_names _ _ _ gets_ready = (refl, refl)
row_names _ _ _ starts_transport = (refl, refl, refl)
row_names _ _ _ (running_drop _ _ _) = (refl, refl, refl)
row_names _ _ _ (hears_keep _ _) = (refl, refl, refl)
row_names _ _ _ (hears_drop _ _) = (refl, refl, refl)
row_names _ _ _ full_heard = (refl, refl, refl)
row_names _ _ _ taken_heard = (refl, refl, refl)
row_names _ _ _ (stopped_keep _ _) = (refl, refl, refl)
row_names _ _ _ (stopped_drop _ _) = (refl, refl, refl)
row_names _ _ _ (waiting_settles _ _) = (refl, refl, refl)
row_names _ _ _ (waiting_home _ _) = (refl, refl, refl)
row_names _ _ _ (waiting_taken _ _) = (refl, refl, refl)
row_names _ _ _ closed_home = (refl, refl, refl)
row_names _ _ _ closed_stopped_home = (refl, refl, refl)
row_names _ _ _ closed_stopped_gone = (refl, refl, refl)
row_names _ _ _ stands_settles = (refl, refl, refl)
row_names _ _ _ _ = (refl, refl)

pub deeds_name : (s : InState) (i : InInput) → NamesRecord s (step s i) (step s i).act.deed
deeds_name s i =
    by_table (λ row. NamesRecord s (unwrap_or row (stay s)) (unwrap_or row (stay s)).act.deed) s i (refl, refl) (row_names s i)
