-- What the sensors saw, the offer and the readiness, over lists.
use Rattle.std.proofs.Common.{◌≡◌, ◌⊎◌, inl, inr, ◌∙◌, ap, sym, ◌++◌, Bool, List, [], ◌∷◌, Option, Some, None, IsSome, option_map, unwrap_or, refl}
use Rattle.line_base.specs.declared.states.Seen.{Seen}
use Rattle.line_base.specs.declared.states.SensorEvent.{SensorEvent}
use Rattle.line_base.specs.declared.states.SensorEvent.TheVariants as event
use Rattle.board_record.specs.declared.record.Record.{Record}
use Rattle.handover_in.specs.declared.input.InInput.{InInput}
use Rattle.handover_in.specs.declared.input.InInput.TheVariants.{Sensed}
use Rattle.handover_in.specs.declared.phase.Phase.TheVariants.{Idle}
use Rattle.handover_in.specs.State.{InState, held, own_of_phase}
use Rattle.handover_in.specs.Own.{own_after}
use Rattle.handover_in.specs.Row.{InRow, intake_row}
use Rattle.handover_in.specs.Run.{stay, step, after_all}
use Rattle.handover_in.specs.Offers.{offer_by, offer_after_all, ready_by, ready_after_all}
use Rattle.handover_in.specs.Sights.{own_after_all, all_sensed, own_by, own_at, own_by_all}
use Rattle.handover_in.specs.Table.{state_of, IsIntakeRow, gets_ready, sensed_idle, taking_left, taking_begun, taking_back, full_heard, full_unheard, taken_heard, taken_unheard, taken_home, taken_inside, taken_again, stopped_left, stopped_event, stopped_keep, stopped_drop, stopped_wait, waiting_left, waiting_settles, waiting_inside, waiting_between, waiting_home, waiting_taken}
use Rattle.handover_in.proofs.Rows.{by_table, has_row, sensed_has_row, left_says, full_says}
use Rattle.handover_in.proofs.IntakeLaws.{row_clears}

-- the board that is held

row_sees : (s : InState) (input : InInput) (row : InRow) → IsIntakeRow s input row → own_of_phase row.after.phase ≡ own_by (own_of_phase s.phase) input row.act.deed
row_sees _ _ _ gets_ready = refl
row_sees _ _ _ (taking_left {own = own}) = rw (left_says own) refl
row_sees _ _ _ (stopped_left {own = own}) = rw (left_says own) refl
row_sees _ _ _ (waiting_left {own = own}) = rw (left_says own) refl
row_sees _ _ _ (full_unheard {own = own}) = rw (full_says own) refl
row_sees _ _ _ (waiting_inside _ is) = rw is refl
row_sees _ _ _ (waiting_between _ is) = rw is refl
row_sees _ _ _ _ = refl

step_sees : (s : InState) (input : InInput) → own_of_phase (step s input).after.phase ≡ own_at (own_of_phase s.phase) input (intake_row s input)
step_sees s input =
    by_table (λ row. own_of_phase (unwrap_or row (stay s)).after.phase ≡ own_at (own_of_phase s.phase) input row) s input refl (row_sees s input)

pub sees_by_events : (s : InState) (inputs : List InInput) → own_of_phase (after_all s inputs).phase ≡ own_by_all (own_of_phase s.phase) s inputs
sees_by_events s [] = refl
sees_by_events s (input ∷ inputs) =
    sees_by_events (step s input).after inputs ∙ ap (λ own. own_by_all own (step s input).after inputs) (step_sees s input)

-- events alone

pub own_append : (own : Seen) (first rest : List SensorEvent) → own_after_all own (first ++ rest) ≡ own_after_all (own_after_all own first) rest
own_append own [] rest = refl
own_append own (event ∷ first) rest = own_append (own_after own event) first rest

idle_again : (o : Option Record) (r : Bool) (events : List SensorEvent) → after_all (state_of Idle o r) (all_sensed events) ≡ state_of Idle o r
idle_again o r [] = refl
idle_again o r (event.Begun ∷ events) = idle_again o r events
idle_again o r (event.Left ∷ events) = idle_again o r events
idle_again o r (event.Full ∷ events) = idle_again o r events
idle_again o r (event.Back ∷ events) = idle_again o r events
idle_again o r (event.Taken ∷ events) = idle_again o r events

-- an event adds to what was seen, or the handover is over
abbrev Adds : InState → SensorEvent → InRow → Type 0
Adds s e row = (own_of_phase row.after.phase ≡ option_map (λ own. own_after own e) (own_of_phase s.phase)) ⊎ (row.after ≡ state_of Idle s.offer s.ready)

row_adds : (s : InState) (e : SensorEvent) (row : InRow) → IsIntakeRow s (Sensed e) row → Adds s e row
row_adds _ _ _ sensed_idle = inl refl
row_adds _ _ _ (taking_left {own = own}) = inl (rw (left_says own) refl)
row_adds _ _ _ taking_begun = inl refl
row_adds _ _ _ taking_back = inl refl
row_adds _ _ _ full_heard = inr refl
row_adds _ _ _ (full_unheard {own = own}) = inl (rw (full_says own) refl)
row_adds _ _ _ taken_heard = inr refl
row_adds _ _ _ taken_unheard = inl refl
row_adds _ _ _ taken_home = inl refl
row_adds _ _ _ taken_inside = inl refl
row_adds _ _ _ taken_again = inl refl
row_adds _ _ _ (stopped_left {own = own}) = inl (rw (left_says own) refl)
row_adds _ _ _ stopped_event = inl refl
row_adds _ _ _ (stopped_keep _ _) = inr refl
row_adds _ _ _ (stopped_drop _ _) = inr refl
row_adds _ _ _ (stopped_wait _ _) = inl refl
row_adds _ _ _ (waiting_left {own = own}) = inl (rw (left_says own) refl)
row_adds _ _ _ (waiting_settles _ _) = inr refl
row_adds _ _ _ (waiting_inside _ is) = inl (rw is refl)
row_adds _ _ _ (waiting_between _ is) = inl (rw is refl)
row_adds _ _ _ (waiting_home _ _) = inr refl
row_adds _ _ _ (waiting_taken _ _) = inr refl

added : (e : SensorEvent) (events : List SensorEvent) (own : Option Seen)
    → option_map (λ seen. own_after_all seen events) (option_map (λ seen. own_after seen e) own) ≡ option_map (λ seen. own_after_all seen (e ∷ events)) own
added e events None = refl
added e events (Some own) = refl

abbrev SeesAll : InState → List SensorEvent → Type 0
SeesAll s events = IsSome (held (after_all s (all_sensed events)))
    → own_of_phase (after_all s (all_sensed events)).phase ≡ option_map (λ own. own_after_all own events) (own_of_phase s.phase)

none_seen : (own : Option Seen) → option_map (λ seen. own_after_all seen []) own ≡ own
none_seen None = refl
none_seen (Some own) = refl

added_or_over : (s after : InState) (e : SensorEvent) (events : List SensorEvent)
    → (own_of_phase after.phase ≡ option_map (λ own. own_after own e) (own_of_phase s.phase)) ⊎ (after ≡ state_of Idle s.offer s.ready)
    → SeesAll after events → IsSome (held (after_all after (all_sensed events)))
    → own_of_phase (after_all after (all_sensed events)).phase ≡ option_map (λ own. own_after_all own (e ∷ events)) (own_of_phase s.phase)
added_or_over s after e events (inl adds) sees holds = sees holds ∙ ap (λ own. option_map (λ seen. own_after_all seen events) own) adds ∙ added e events (own_of_phase s.phase)
added_or_over s after e events (inr over) sees holds =
    let idle : after_all after (all_sensed events) ≡ state_of Idle s.offer s.ready = rw over (idle_again s.offer s.ready events) in
    absurd (let never : ⊥ = cc in never)

-- a row is there for every event
step_adds : (s : InState) (e : SensorEvent) → Adds s e (step s (Sensed e))
step_adds s e = has_row (Adds s e) s (Sensed e) (sensed_has_row s.phase s e) (row_adds s e)

pub held_sees_all : (s : InState) (events : List SensorEvent) → SeesAll s events
held_sees_all s [] = λ holds. sym (none_seen (own_of_phase s.phase))
held_sees_all s (e ∷ events) = λ holds. added_or_over s (step s (Sensed e)).after e events (step_adds s e) (held_sees_all (step s (Sensed e)).after events) holds

-- the offer and the readiness

step_offers : (s : InState) (input : InInput) → (step s input).after.offer ≡ offer_by s.offer s input (intake_row s input)
step_offers s input =
    by_table (λ row. (unwrap_or row (stay s)).after.offer ≡ offer_by s.offer s input row) s input refl (λ row shape. (row_clears s input row shape).0)

step_readies : (s : InState) (input : InInput) → (step s input).after.ready ≡ ready_by s.ready input (intake_row s input)
step_readies s input =
    by_table (λ row. (unwrap_or row (stay s)).after.ready ≡ ready_by s.ready input row) s input refl (λ row shape. (row_clears s input row shape).1)

pub offers_after_all : (s : InState) (inputs : List InInput) → (after_all s inputs).offer ≡ offer_after_all s.offer s inputs
offers_after_all s [] = refl
offers_after_all s (input ∷ inputs) =
    offers_after_all (step s input).after inputs ∙ ap (λ offer. offer_after_all offer (step s input).after inputs) (step_offers s input)

pub readies_after_all : (s : InState) (inputs : List InInput) → (after_all s inputs).ready ≡ ready_after_all s.ready s inputs
readies_after_all s [] = refl
readies_after_all s (input ∷ inputs) =
    readies_after_all (step s input).after inputs ∙ ap (λ ready. ready_after_all ready (step s input).after inputs) (step_readies s input)
