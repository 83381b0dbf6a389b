use Rattle.std.proofs.Common.{◌≡◌, ◌⊎◌, inl, inr, ◌++◌, ◌∷◌, [], ◌∙◌, ap, sym, Bool, true, false, List, Option, Some, None, refl, append_assoc, unwrap_or, ◌↔◌, IsSome}
use Rattle.line_base.specs.declared.states.Seen.{Seen}
use Rattle.line_base.specs.declared.states.Seen.TheVariants.{NotStarted, Incomplete, Complete, Taken}
use Rattle.line_base.specs.declared.states.Transfer.{Transfer}
use Rattle.line_base.specs.declared.states.Transfer.TheVariants as said
use Rattle.board_record.specs.declared.record.Record.{Record}
use Rattle.transfer_state.specs.declared.intake.InEnd.TheVariants.{Drop}
use Rattle.transfer_state.specs.Intake.{in_ends}
use Rattle.handover_in.specs.declared.input.InInput.{InInput}
use Rattle.handover_in.specs.declared.input.InInput.TheVariants as input
use Rattle.handover_in.specs.declared.phase.Phase.{Phase}
use Rattle.handover_in.specs.declared.phase.Phase.TheVariants as phase
use Rattle.handover_in.specs.State.{InState, at_rest, held}
use Rattle.handover_in.specs.Own.{own_after}
use Rattle.handover_in.specs.Row.{InRow, intake_row, complete_if, is_complete, off_unless}
use Rattle.handover_in.specs.Given.{IsGiven, breach_of}
use Rattle.handover_in.specs.Run.{stay, step, after_all}
use Rattle.handover_in.specs.Records.{list_of, goes_in, comes_out, all_in, all_out, held_by, held_by_all, id_of}
use Rattle.handover_in.specs.Offers.{is_start, starts_at, offer_after, ready_after}
use Rattle.handover_in.specs.Ends.{Learned, nothing_yet, learn, learned_after, learned_after_all, IsLearned, IsDriven, drive_after_all, IsInPlay}
use Rattle.handover_in.specs.Table.{state_of, IsIntakeRow, taking_left, stopped_left, waiting_left, gets_ready, starts_transport, running_drop, running_wait, running_keep, hears_keep, hears_drop, full_heard, full_unheard, taken_heard, taken_unheard, stopped_keep, stopped_drop, waiting_settles, waiting_inside, waiting_between, waiting_home, waiting_taken, fault_taking, closed_home, closed_between, closed_inside, closed_gone, closed_stopped_home, closed_stopped_gone, closed_stopped_between, closed_stopped_inside, closed_waiting, stands_settles}
use Rattle.handover_in.specs.Together.{IsIntakeTogether, together_idle}
use Rattle.handover_in.proofs.Rows.{by_table, left_says, full_says, sensed_has_row, closed_has_row, stand_has_row, fault_has_row}
use Rattle.handover_in.proofs.Together.{keep_says, in_play, step_kept, run_kept}

-- Records: what was held and what goes in is what comes out and what is held after it

abbrev Balances : InState → InInput → InRow → Type 0
Balances s input row =
    list_of (held s) ++ goes_in row.act.deed s ≡ comes_out row.act.deed s row.act ++ list_of (held row.after)

stay_balances : (board : Option Record) → list_of board ++ [] ≡ list_of board
stay_balances None = refl
stay_balances (Some _) = refl

row_balances : (s : InState) (input : InInput) (row : InRow) → IsIntakeRow s input row → Balances s input row
row_balances _ _ _ gets_ready = refl
row_balances _ _ _ _ = refl

step_balances : (s : InState) (input : InInput) → Balances s input (step s input)
step_balances s input = by_table (λ row. Balances s input (unwrap_or row (stay s))) s input (stay_balances (held s)) (row_balances s input)

joined : (a b c d e f g : List Record) → a ++ b ≡ c ++ d → d ++ e ≡ f ++ g → a ++ (b ++ e) ≡ (c ++ f) ++ g
joined a b c d e f g first rest =
    sym (append_assoc a b e) ∙ ap (λ x. x ++ e) first ∙ append_assoc c d e ∙ ap (λ x. c ++ x) rest ∙ sym (append_assoc c f g)

pub records_balance : (s : InState) (inputs : List InInput)
    → list_of (held s) ++ all_in s inputs ≡ all_out s inputs ++ list_of (held (after_all s inputs))
records_balance s [] = stay_balances (held s)
records_balance s (input ∷ inputs) =
    joined (list_of (held s)) _ _ _ _ _ _ (step_balances s input) (records_balance (step s input).after inputs)

-- Holding: what is held follows from the deeds alone

abbrev Holds : InState → InInput → InRow → Type 0
Holds s input row = id_of (held row.after) ≡ held_by (id_of (held s)) row.act.deed

row_holds : (s : InState) (input : InInput) (row : InRow) → IsIntakeRow s input row → Holds s input row
row_holds _ _ _ gets_ready = refl
row_holds _ _ _ _ = refl

step_holds : (s : InState) (input : InInput) → Holds s input (step s input)
step_holds s input = by_table (λ row. Holds s input (unwrap_or row (stay s))) s input refl (row_holds s input)

pub holds_by_deeds : (s : InState) (inputs : List InInput)
    → id_of (held (after_all s inputs)) ≡ held_by_all (id_of (held s)) s inputs
holds_by_deeds s [] = refl
holds_by_deeds s (input ∷ inputs) =
    holds_by_deeds (step s input).after inputs ∙ ap (λ id. held_by_all id (step s input).after inputs) (step_holds s input)

-- Starts

abbrev Starts : InState → InInput → InRow → Type 0
Starts s input row = is_start row.act.deed ≡ starts_at s input

row_starts : (s : InState) (input : InInput) (row : InRow) → IsIntakeRow s input row → Starts s input row
row_starts _ _ _ gets_ready = refl
row_starts _ _ _ _ = refl

start_starts : (phase : Phase) (o : Option Record) (r : Bool) → is_start (step (state_of phase o r) input.Start).act.deed ≡ starts_at (state_of phase o r) input.Start
start_starts phase.Idle (Some board) true = refl
start_starts phase.Idle (Some board) false = refl
start_starts phase.Idle None r = refl
start_starts _ _ _ = refl

pub starts_exactly : (s : InState) (input : InInput) → is_start (step s input).act.deed ≡ starts_at s input
starts_exactly s input.Start = start_starts s.phase s.offer s.ready
starts_exactly s input = by_table (λ row. Starts s input (unwrap_or row (stay s))) s input refl (row_starts s input)

-- Offers and readiness

abbrev pub Clears : InState → InInput → InRow → Type 0
Clears s input row = (row.after.offer ≡ offer_after s input) × (row.after.ready ≡ ready_after s.ready input)

pub row_clears : (s : InState) (input : InInput) (row : InRow) → IsIntakeRow s input row → Clears s input row
row_clears _ _ _ gets_ready = (refl, refl)
row_clears _ _ _ _ = (refl, refl)

pub clears_exactly : (s : InState) (input : InInput) (row : InRow) → intake_row s input ≡ Some row → Clears s input row
clears_exactly s input row =
    by_table (λ found. found ≡ Some row → Clears s input row) s input (λ none. cc)
    (λ found shape same. let is : found ≡ row = cc in rw is at (row_clears s input found shape))

-- What was learned

abbrev learned_of : Phase → Learned
learned_of phase.Idle = nothing_yet
learned_of (phase.Taking _ own heard) = record { own = own; heard = complete_if heard }
learned_of (phase.Stopped _ own heard) = record { own = own; heard = heard }
learned_of (phase.Waiting _ own heard) = record { own = own; heard = complete_if heard }

-- without a board nothing counts
abbrev recall : Phase → Learned → Learned
recall phase.Idle _ = nothing_yet
recall (phase.Taking _ _ _) l = l
recall (phase.Stopped _ _ _) l = l
recall (phase.Waiting _ _ _) l = l

-- what was learned is what the phase knows, while a board is held
abbrev Agrees : Learned → InState → Type 0
Agrees l s = learned_of s.phase ≡ recall s.phase l

complete_again : (heard : Bool) → complete_if (is_complete (complete_if heard)) ≡ complete_if heard
complete_again true = refl
complete_again false = refl

abbrev Tracks : InState → InInput → InRow → Type 0
Tracks s input row = learned_of row.after.phase ≡ recall row.after.phase (learn (learned_of s.phase) input row.act.deed)

row_tracks : (s : InState) (input : InInput) (row : InRow) → IsIntakeRow s input row → Tracks s input row
row_tracks _ _ _ gets_ready = refl
row_tracks _ _ _ (taking_left {own = own}) = rw (left_says own) refl
row_tracks _ _ _ (stopped_left {own = own}) = rw (left_says own) refl
row_tracks _ _ _ (waiting_left {own = own}) = rw (left_says own) refl
row_tracks _ _ _ (full_unheard {own = own}) = rw (full_says own) refl
row_tracks _ _ _ (waiting_inside _ is) = rw is refl
row_tracks _ _ _ (waiting_between _ is) = rw is refl
row_tracks _ _ _ (closed_between {heard = heard}) = rw (complete_again heard) refl
row_tracks _ _ _ (closed_inside {heard = heard}) = rw (complete_again heard) refl
row_tracks _ _ _ (closed_gone {heard = heard}) = rw (complete_again heard) refl
row_tracks _ _ _ (closed_waiting {heard = heard}) = rw (complete_again heard) refl
row_tracks _ _ _ _ = refl

-- an input teaches the same, whether or not what was learned before counts
abbrev Forgets : Learned → InState → InInput → InRow → Type 0
Forgets l s input row = recall row.after.phase (learn (recall s.phase l) input row.act.deed) ≡ recall row.after.phase (learn l input row.act.deed)

row_forgets : (l : Learned) (s : InState) (input : InInput) (row : InRow) → IsIntakeRow s input row → Forgets l s input row
row_forgets _ _ _ _ gets_ready = refl
row_forgets _ _ _ _ _ = refl

row_follows : (l : Learned) (s : InState) (input : InInput) (row : InRow) → IsIntakeRow s input row → Agrees l s → Agrees (learn l input row.act.deed) row.after
row_follows l s input row shape agrees =
    let tracks = row_tracks s input row shape in
    (rw agrees at tracks) ∙ row_forgets l s input row shape

step_follows : (l : Learned) (s : InState) (input : InInput) → Agrees l s → Agrees (learned_after l input (intake_row s input)) (step s input).after
step_follows l s input =
    by_table (λ row. Agrees l s → Agrees (learned_after l input row) (unwrap_or row (stay s)).after) s input
    (λ agrees. agrees) (row_follows l s input)

agrees_after_all : (l : Learned) (s : InState) (inputs : List InInput) → Agrees l s → Agrees (learned_after_all l s inputs) (after_all s inputs)
agrees_after_all l s [] agrees = agrees
agrees_after_all l s (input ∷ inputs) agrees =
    agrees_after_all (learned_after l input (intake_row s input)) (step s input).after inputs (step_follows l s input agrees)

-- a deed is as it was learned

drop_says : (own : Seen) (n : Transfer) → in_ends own n ≡ Drop → (own ≡ NotStarted) ⊎ (own ≡ Taken)
drop_says NotStarted n is = inl refl
drop_says Incomplete n is = cc
drop_says Complete said.NotStarted is = cc
drop_says Complete said.Incomplete is = cc
drop_says Complete said.Complete is = cc
drop_says Taken n is = inr refl

abbrev IsRight : InState → InInput → InRow → Type 0
IsRight s input row = IsLearned (learn (learned_of s.phase) input row.act.deed) input row.act row.act.deed

row_right : (s : InState) (input : InInput) (row : InRow) → IsIntakeRow s input row → IsRight s input row
row_right _ _ _ (hears_keep {own = own} {n = n} _ is) = let says = keep_says own n is in (says.0, inl says.1)
row_right _ _ _ (hears_drop {own = own} {n = n} _ is) = (drop_says own n is, refl)
row_right _ _ _ (running_drop {own = own} {n = n} _ _ is) = (drop_says own n is, refl)
row_right _ _ _ (full_heard {own = own}) = (full_says own, inl (inl refl))
row_right _ _ _ taken_heard = (inr refl, refl)
row_right _ _ _ (stopped_keep {own = own} {n = n} {e = e} _ is) = let says = keep_says (own_after own e) n is in (says.0, inl says.1)
row_right _ _ _ (stopped_drop {own = own} {n = n} {e = e} _ is) = (drop_says (own_after own e) n is, refl)
row_right _ _ _ (waiting_settles _ is) = (is, inl (inl refl))
row_right _ _ _ (waiting_home _ is) = (inl is, rw is refl)
row_right _ _ _ (waiting_taken _ is) = (inr is, rw is refl)
row_right _ _ _ closed_home = (inl refl, refl)
row_right _ _ _ closed_stopped_home = (inl refl, refl)
row_right _ _ _ closed_stopped_gone = (inr refl, refl)
row_right _ _ _ stands_settles = (refl, inr refl)
row_right _ _ _ _ = refl

abbrev RightAt : Learned → InState → InInput → InRow → Type 0
RightAt l s input row =
    IsLearned (learn (recall s.phase l) input row.act.deed) input row.act row.act.deed → IsLearned (learn l input row.act.deed) input row.act row.act.deed

row_right_at : (l : Learned) (s : InState) (input : InInput) (row : InRow) → IsIntakeRow s input row → RightAt l s input row
row_right_at _ _ _ _ gets_ready right = right
row_right_at _ _ _ _ _ right = right

row_is_learned : (l : Learned) (s : InState) (input : InInput) → Agrees l s → (row : InRow) → IsIntakeRow s input row
    → IsLearned (learn l input row.act.deed) input row.act row.act.deed
row_is_learned l s input agrees row shape =
    row_right_at l s input row shape (let right = row_right s input row shape in rw agrees at right)

step_is_learned : (l : Learned) (s : InState) (input : InInput) → Agrees l s
    → IsLearned (learned_after l input (intake_row s input)) input (step s input).act (step s input).act.deed
step_is_learned l s input agrees =
    by_table (λ row. IsLearned (learned_after l input row) input (unwrap_or row (stay s)).act (unwrap_or row (stay s)).act.deed) s input
    refl (row_is_learned l s input agrees)

pub deeds_are_learned : (inputs : List InInput) (input : InInput)
    → IsLearned (learned_after (learned_after_all nothing_yet at_rest inputs) input (intake_row (after_all at_rest inputs) input)) input (step (after_all at_rest inputs) input).act (step (after_all at_rest inputs) input).act.deed
deeds_are_learned inputs input =
    step_is_learned (learned_after_all nothing_yet at_rest inputs) (after_all at_rest inputs) input (agrees_after_all nothing_yet at_rest inputs refl)

-- Phases that come up

pub phases_in_play : (inputs : List InInput) → IsInPlay (after_all at_rest inputs).phase
phases_in_play inputs = in_play (after_all at_rest inputs) (run_kept at_rest inputs together_idle)

-- The drive

off_as_heard : (board : Record) (own : Seen) (heard on : Bool) → IsDriven (phase.Waiting board own heard) (unwrap_or (off_unless heard) on)
off_as_heard board own true on = tt
off_as_heard board own false on = refl

stays_off : (board : Record) (own : Seen) (heard on : Bool) → on ≡ false → IsDriven (phase.Waiting board own heard) on
stays_off board own true on off = tt
stays_off board own false on off = off

stands_off : (board : Record) (heard on : Bool) → IsInPlay (phase.Waiting board Complete heard) → IsDriven (phase.Waiting board Complete heard) on → on ≡ false
stands_off board true on play driven = cc
stands_off board false on play driven = driven

row_driven : (on : Bool) (s : InState) (input : InInput) (row : InRow) → IsIntakeRow s input row → IsInPlay s.phase → IsDriven s.phase on → IsDriven row.after.phase (unwrap_or row.act.drive on)
row_driven on _ _ _ starts_transport play driven = refl
row_driven on _ _ _ (running_drop _ _ is) play driven = refl
row_driven on _ _ _ (running_wait _ _ is) play driven = refl
row_driven on _ _ _ (running_keep _ _ is) play driven = refl
row_driven on _ _ _ full_heard play driven = refl
row_driven on _ _ _ full_unheard play driven = refl
row_driven on _ _ _ taken_heard play driven = refl
row_driven on _ _ _ taken_unheard play driven = refl
row_driven on _ _ _ (waiting_settles _ is) play driven = refl
row_driven on _ _ _ (waiting_inside _ is) play driven = refl
row_driven on _ _ _ (waiting_home _ is) play driven = refl
row_driven on _ _ _ (waiting_taken _ is) play driven = refl
row_driven on _ _ _ fault_taking play driven = refl
row_driven on _ _ _ closed_home play driven = refl
row_driven on _ _ _ (closed_between {heard = heard} {board = board}) play driven = off_as_heard board Incomplete heard on
row_driven on _ _ _ (closed_inside {heard = heard} {board = board}) play driven = off_as_heard board Complete heard on
row_driven on _ _ _ (closed_gone {heard = heard} {board = board}) play driven = off_as_heard board Taken heard on
row_driven on _ _ _ (closed_stopped_between {board = board} {h = h}) play driven = stays_off board Incomplete (is_complete h) on driven
row_driven on _ _ _ (closed_stopped_inside {board = board} {h = h}) play driven = stays_off board Complete (is_complete h) on driven
row_driven on _ _ _ (stands_settles {heard = heard} {board = board}) play driven = stands_off board heard on play driven
row_driven on _ _ _ _ play driven = driven

step_driven : (on : Bool) (s : InState) (input : InInput) → IsInPlay s.phase → IsDriven s.phase on
    → IsDriven (step s input).after.phase (unwrap_or (step s input).act.drive on)
step_driven on s input =
    by_table (λ row. IsInPlay s.phase → IsDriven s.phase on → IsDriven (unwrap_or row (stay s)).after.phase (unwrap_or (unwrap_or row (stay s)).act.drive on)) s input
    (λ play driven. driven) (row_driven on s input)

driven_after_all : (on : Bool) (s : InState) (inputs : List InInput) → IsIntakeTogether s → IsDriven s.phase on
    → IsDriven (after_all s inputs).phase (drive_after_all on s inputs)
driven_after_all on s [] kept driven = driven
driven_after_all on s (input ∷ inputs) kept driven =
    driven_after_all (unwrap_or (step s input).act.drive on) (step s input).after inputs (step_kept s input kept) (step_driven on s input (in_play s kept) driven)

pub drive_is_driven : (inputs : List InInput) → IsDriven (after_all at_rest inputs).phase (drive_after_all false at_rest inputs)
drive_is_driven inputs = driven_after_all false at_rest inputs together_idle refl

-- what is given is what has a row

given_of : (phase : Phase) (o : Option Record) (r : Bool) (input : InInput) → breach_of input ≡ None
    → IsSome (intake_row (state_of phase o r) input) ↔ IsGiven (state_of phase o r) input
given_of phase.Idle o false input.Ready _ = (λ _. (refl, refl), λ _. refl)
given_of phase.Idle o true input.Ready _ = (λ found. cc, λ given. cc)
given_of phase.Idle o true input.Unready _ = (λ _. (refl, refl), λ _. refl)
given_of phase.Idle o false input.Unready _ = (λ found. cc, λ given. cc)
given_of phase.Idle (Some _) true input.Start _ = (λ _. (refl, refl, refl), λ _. refl)
given_of phase.Idle (Some _) false input.Start _ = (λ found. cc, λ given. cc)
given_of phase.Idle None r input.Start _ = (λ found. cc, λ given. cc)
given_of (phase.Taking _ _ _) o r input.Ready _ = (λ found. cc, λ given. cc)
given_of (phase.Taking _ _ _) o r input.Unready _ = (λ found. cc, λ given. cc)
given_of (phase.Taking _ _ _) o r input.Start _ = (λ found. cc, λ given. cc)
given_of (phase.Stopped _ _ _) o r input.Ready _ = (λ found. cc, λ given. cc)
given_of (phase.Stopped _ _ _) o r input.Unready _ = (λ found. cc, λ given. cc)
given_of (phase.Stopped _ _ _) o r input.Start _ = (λ found. cc, λ given. cc)
given_of (phase.Waiting _ _ _) o r input.Ready _ = (λ found. cc, λ given. cc)
given_of (phase.Waiting _ _ _) o r input.Unready _ = (λ found. cc, λ given. cc)
given_of (phase.Waiting _ _ _) o r input.Start _ = (λ found. cc, λ given. cc)
given_of phase o r (input.BoardAvailable _) breach = cc
given_of phase o r input.RevokeBoardAvailable breach = cc
given_of phase o r (input.Finished _ _) breach = cc
given_of phase o r (input.Sensed event) _ = (λ _. tt, λ _. sensed_has_row phase (state_of phase o r) event)
given_of phase o r input.Fault _ = (λ _. tt, λ _. fault_has_row phase (state_of phase o r))
given_of phase o r input.Closed _ = (λ _. tt, λ _. closed_has_row phase)
given_of phase o r input.Stand _ = (λ _. tt, λ _. stand_has_row phase (state_of phase o r))

pub given_exactly : (s : InState) (input : InInput) → breach_of input ≡ None → IsSome (intake_row s input) ↔ IsGiven s input
given_exactly s input = given_of s.phase s.offer s.ready input
