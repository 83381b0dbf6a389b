-- What stands together in an intake, each row of the table keeps.
use Rattle.std.proofs.Common.{◌≡◌, ◌⊎◌, inl, inr, Bool, true, false, List, [], ◌∷◌, Some, None, IfOk, OnErr, IsSome, Result, Ok, Err, unwrap_or, refl}
use Rattle.line_base.specs.declared.states.Seen.{Seen}
use Rattle.line_base.specs.declared.states.Seen.TheVariants.{NotStarted, Incomplete, Complete, Taken}
use Rattle.line_base.specs.declared.states.SensorEvent.TheVariants as event
use Rattle.line_base.specs.declared.states.Transfer.{Transfer}
use Rattle.line_base.specs.declared.states.Transfer.TheVariants as said
use Rattle.board_record.specs.declared.record.Record.{Record}
use Rattle.transfer_state.specs.declared.intake.InEnd.TheVariants.{Keep, Wait}
use Rattle.transfer_state.specs.Intake.{in_ends}
use Rattle.handover_in.specs.declared.act.InAct.{InAct}
use Rattle.handover_in.specs.declared.breach.InBreach.{InBreach}
use Rattle.handover_in.specs.declared.input.InInput.{InInput}
use Rattle.handover_in.specs.declared.input.InInput.TheVariants as input
use Rattle.handover_in.specs.declared.phase.Phase.TheVariants as phase
use Rattle.handover_in.specs.State.{InState, at_rest, takes_offers}
use Rattle.handover_in.specs.Own.{own_after}
use Rattle.handover_in.specs.Row.{InRow, intake_row, row, is_complete}
use Rattle.handover_in.specs.Given.{IsGiven}
use Rattle.handover_in.specs.Run.{stay, step, after_all}
use Rattle.handover_in.specs.Ends.{HasLeft, IsInPlay}
use Rattle.handover_in.specs.Table.{state_of, IsIntakeRow, gets_ready, gets_unready, starts_transport, available_idle, available_heard, available_stopped, revoked_idle, revoked_heard, revoked_stopped, hears_left, running_drop, running_wait, running_keep, hears_keep, hears_drop, hears_wait, taking_begun, taking_back, full_heard, full_unheard, taken_heard, taken_unheard, stopped_event, stopped_keep, stopped_drop, stopped_wait, waiting_settles, waiting_inside, waiting_between, waiting_home, waiting_taken, fault_taking, closed_idle, closed_home, closed_between, closed_inside, closed_gone, closed_stopped_home, closed_stopped_gone, closed_stopped_between, closed_stopped_inside, closed_waiting, stands_settles}
use Rattle.handover_in.specs.Together.{IsUnderWay, not_begun, has_begun, IsIntakeTogether, together_idle, together_taking, together_heard, together_stopped, together_ended, together_between, together_inside}
use Rattle.handover_in.proofs.Rows.{by_table, row_is}

pub keep_says : (own : Seen) (n : Transfer) → in_ends own n ≡ Keep → (own ≡ Complete) × HasLeft (Some n)
keep_says NotStarted said.NotStarted is = cc
keep_says NotStarted said.Incomplete is = cc
keep_says NotStarted said.Complete is = cc
keep_says Incomplete n is = cc
keep_says Complete said.NotStarted is = cc
keep_says Complete said.Incomplete is = (refl, inr refl)
keep_says Complete said.Complete is = (refl, inl refl)
keep_says Taken n is = cc

begun_under_way : {own : Seen} → IsUnderWay own → IsUnderWay (own_after own event.Begun)
begun_under_way not_begun = has_begun
begun_under_way has_begun = has_begun

back_under_way : {own : Seen} → IsUnderWay own → IsUnderWay (own_after own event.Back)
back_under_way not_begun = not_begun
back_under_way has_begun = not_begun

left_waits : {own : Seen} → IsUnderWay own → in_ends own said.Complete ≡ Wait
left_waits not_begun = refl
left_waits has_begun = refl

keeps_not : {own : Seen} (n : Transfer) → IsUnderWay own → in_ends own n ≡ Keep → in_ends own n ≡ Wait
keeps_not n not_begun is = let says = keep_says NotStarted n is in cc
keeps_not n has_begun is = let says = keep_says Incomplete n is in cc

ended_inside : (board : Record) (n : Transfer) → in_ends Complete n ≡ Wait → IsIntakeTogether (state_of (phase.Waiting board Complete (is_complete (Some n))) None false)
ended_inside board said.NotStarted is = together_inside
ended_inside board said.Incomplete is = absurd (let never : ⊥ = cc in never)
ended_inside board said.Complete is = absurd (let never : ⊥ = cc in never)

row_together : (s : InState) (input : InInput) (row : InRow) → IsIntakeRow s input row → IsIntakeTogether s → IsIntakeTogether row.after
row_together _ _ _ gets_ready before = together_idle
row_together _ _ _ gets_unready before = together_idle
row_together _ _ _ starts_transport before = together_taking not_begun
row_together _ _ _ available_idle before = together_idle
row_together _ _ _ available_heard (together_heard under_way) = together_heard under_way
row_together _ _ _ available_stopped (together_ended waits) = together_ended waits
row_together _ _ _ revoked_idle before = together_idle
row_together _ _ _ revoked_heard (together_heard under_way) = together_heard under_way
row_together _ _ _ revoked_stopped (together_ended waits) = together_ended waits
row_together _ _ _ (hears_left _) (together_taking under_way) = together_heard under_way
row_together _ _ _ (running_drop _ _ _) before = together_idle
row_together _ _ _ (running_wait _ _ is) (together_taking under_way) = together_ended is
row_together _ _ _ (running_keep {n = n} _ _ is) (together_taking under_way) = together_ended (keeps_not n under_way is)
row_together _ _ _ (hears_keep _ _) before = together_idle
row_together _ _ _ (hears_drop _ _) before = together_idle
row_together _ _ _ (hears_wait _ is) together_stopped = together_ended is
row_together _ _ _ taking_begun (together_taking under_way) = together_taking (begun_under_way under_way)
row_together _ _ _ taking_begun (together_heard under_way) = together_heard (begun_under_way under_way)
row_together _ _ _ taking_back (together_taking under_way) = together_taking (back_under_way under_way)
row_together _ _ _ taking_back (together_heard under_way) = together_heard (back_under_way under_way)
row_together _ _ _ full_heard before = together_idle
row_together _ _ _ full_unheard (together_taking under_way) = together_stopped
row_together _ _ _ taken_heard before = together_idle
row_together _ _ _ taken_unheard (together_taking under_way) = together_stopped
row_together _ _ _ stopped_event together_stopped = together_stopped
row_together _ _ _ (stopped_keep _ _) before = together_idle
row_together _ _ _ (stopped_drop _ _) before = together_idle
row_together _ _ _ (stopped_wait _ is) (together_ended waits) = together_ended is
row_together _ _ _ (waiting_settles _ _) before = together_idle
row_together _ _ _ (waiting_inside _ _) together_between = together_inside
row_together _ _ _ (waiting_inside _ _) together_inside = together_inside
row_together _ _ _ (waiting_between _ _) together_between = together_between
row_together _ _ _ (waiting_between _ _) together_inside = together_between
row_together _ _ _ (waiting_home _ _) before = together_idle
row_together _ _ _ (waiting_taken _ _) before = together_idle
row_together _ _ _ fault_taking (together_taking under_way) = together_stopped
row_together _ _ _ fault_taking (together_heard under_way) = together_ended (left_waits under_way)
row_together _ _ _ closed_idle before = together_idle
row_together _ _ _ closed_home before = together_idle
row_together _ _ _ closed_between before = together_between
row_together _ _ _ closed_inside (together_taking under_way) = elim under_way [ ]
row_together _ _ _ closed_inside (together_heard under_way) = elim under_way [ ]
row_together _ _ _ closed_gone (together_taking under_way) = elim under_way [ ]
row_together _ _ _ closed_gone (together_heard under_way) = elim under_way [ ]
row_together _ _ _ closed_stopped_home before = together_idle
row_together _ _ _ closed_stopped_gone before = together_idle
row_together _ _ _ closed_stopped_between before = together_between
row_together _ _ _ closed_stopped_inside together_stopped = together_inside
row_together _ _ _ (closed_stopped_inside {board = board}) (together_ended {n = n} waits) = ended_inside board n waits
row_together _ _ _ closed_waiting together_between = together_between
row_together _ _ _ closed_waiting together_inside = together_inside
row_together _ _ _ stands_settles before = together_idle
row_together _ _ _ _ before = before

pub kept : (s : InState) (input : InInput) (row : InRow) → intake_row s input ≡ Some row → IsIntakeTogether s → IsIntakeTogether row.after
kept s input row found before = row_together s input row (row_is s input row found) before

pub step_kept : (s : InState) (input : InInput) → IsIntakeTogether s → IsIntakeTogether (step s input).after
step_kept s input = by_table (λ row. IsIntakeTogether s → IsIntakeTogether (unwrap_or row (stay s)).after) s input (λ before. before) (row_together s input)

pub run_kept : (s : InState) (inputs : List InInput) → IsIntakeTogether s → IsIntakeTogether (after_all s inputs)
run_kept s [] before = before
run_kept s (input ∷ inputs) before = run_kept (step s input).after inputs (step_kept s input before)

-- and so a call that answers as the table says
pub answer_together : (s after : InState) (input : InInput) (answer : Result InAct InBreach) → IsIntakeTogether s
    → IfOk answer (λ act. intake_row s input ≡ row after act) → OnErr answer (after ≡ s) → IsIntakeTogether after
answer_together s after input (Ok act) before found _ = kept s input (record { after = after; act = act }) found before
answer_together s after input (Err why) before _ same = rw same before

plays : {own : Seen} → IsUnderWay own → (own ≡ NotStarted) ⊎ (own ≡ Incomplete)
plays not_begun = inl refl
plays has_begun = inr refl

waits_between : (board : Record) (heard : Bool) → IsInPlay (phase.Waiting board Incomplete heard)
waits_between board true = refl
waits_between board false = inl refl

-- the phases that come up are among them
pub in_play : (s : InState) → IsIntakeTogether s → IsInPlay s.phase
in_play _ together_idle = tt
in_play _ (together_taking under_way) = plays under_way
in_play _ (together_heard under_way) = plays under_way
in_play _ together_stopped = tt
in_play _ (together_ended waits) = waits
in_play _ (together_between {board = board} {heard = heard}) = waits_between board heard
in_play _ together_inside = inr refl

-- what the machine says is given without a look at the phase

pub unready_given : (s : InState) → IsIntakeTogether s → s.ready ≡ true → IsGiven s input.Unready
unready_given _ together_idle ready = (refl, ready)
unready_given _ (together_taking _) ready = cc
unready_given _ (together_heard _) ready = cc
unready_given _ together_stopped ready = cc
unready_given _ (together_ended _) ready = cc
unready_given _ together_between ready = cc
unready_given _ together_inside ready = cc

pub start_given : (s : InState) → IsIntakeTogether s → s.ready ≡ true → IsSome s.offer → IsGiven s input.Start
start_given s together ready offered = let given = unready_given s together ready in (given.0, ready, offered)

pub ready_idle : (s : InState) → IsIntakeTogether s → s.ready ≡ true → s.phase ≡ phase.Idle
ready_idle _ together_idle ready = refl
ready_idle _ (together_taking _) ready = cc
ready_idle _ (together_heard _) ready = cc
ready_idle _ together_stopped ready = cc
ready_idle _ (together_ended _) ready = cc
ready_idle _ together_between ready = cc
ready_idle _ together_inside ready = cc

-- an offer stands only where the phase takes one
pub offer_taken : (s : InState) → IsIntakeTogether s → IsSome s.offer → takes_offers s.phase ≡ true
offer_taken _ together_idle offered = refl
offer_taken _ (together_taking _) offered = cc
offer_taken _ (together_heard _) offered = refl
offer_taken _ together_stopped offered = cc
offer_taken _ (together_ended _) offered = refl
offer_taken _ together_between offered = cc
offer_taken _ together_inside offered = cc

pub together_rest : IsIntakeTogether at_rest
together_rest = together_idle
