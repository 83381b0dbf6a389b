-- THE ORDER OF EACH MACHINE, over each line of a script and along its run.
use Rattle.std.proofs.Common.{Bool, List, None, Option, Some, [], ap, arith, false, refl, slice_get, suc, subst, sym, take, true, zero, ℕ, ◌++◌, ◌+◌, ◌-◌, ◌==◌, ◌∙◌, ◌∷◌, ◌≡◌, ◌≤◌, eq-eqb, eqb-true}
use Rattle.std.specs.Prelude.{cond}
use Rattle.std.proofs.lemmas.Bool.{false≢true}
use Rattle.line_world.specs.declared.moves.Move.TheVariants as moves
use Rattle.line_report.specs.declared.happening.Happening.{Happening}
use Rattle.line_report.specs.declared.happening.Happening.TheVariants as happenings
use Rattle.node_core.specs.Done.{Done}
use Rattle.node_core.specs.Own.{one_of, own_of}
use Rattle.node_core.specs.Step.{plain_step}
use Rattle.node_core.specs.declared.act.Act.{Act}
use Rattle.node_core.specs.declared.act.Act.TheVariants as acts
use Rattle.node_core.specs.declared.act.Deed.TheVariants as deeds
use Rattle.node_core.specs.declared.lane.Body.{Body}
use Rattle.standings.specs.Ledger.{are_different}
use Rattle.standings.specs.Marks.{is_held}
use Rattle.line_step.specs.Tracks.{TrackLine, TrackSteps}
use Rattle.line_step.specs.Numbered.{node_at}
use Rattle.line_step.specs.Runs.{IsRun, Point}
use Rattle.line_step.specs.State.{LineState, no_line, owned_by}
use Rattle.line_step.specs.Steps.{unread_by}
use Rattle.law_one_standing.specs.Carried.{Trace}
use Rattle.law_one_standing.specs.Facts.{HasCustodyFacts}
use Rattle.law_one_standing.specs.Told.{IsTold}
use Rattle.law_one_standing.proofs.Carrying.{SaysAlone}
use Rattle.law_one_standing.proofs.FactsOf.{facts_of}
use Rattle.law_one_standing.proofs.LedgerMarks.{differ_of}
use Rattle.law_one_standing.proofs.LedgerSteps.{all_of}
use Rattle.law_one_standing.proofs.LedgerWalk.{Did, step_did}
use Rattle.law_one_standing.proofs.LineForms.{ConnectsBear}
use Rattle.law_one_standing.proofs.LineRun.{AreStood, Stood, none_stood, run_stood}
use Rattle.law_history.proofs.Started.{Any, any_new}
use Rattle.law_history.proofs.View.{Turn, done_act, done_by, has_stepped, is_still, told_of_act, track_turn, undriven}
use Rattle.law_sentences.specs.Order.{FirstInFirstOut, GoesInOrder, KeepsOrder, MovesTheFirst, held_and_kept, leaves, order_behind, order_by, order_of, order_with}
use Rattle.law_sentences.proofs.Moves.{MadeLeft, left_made, track_moved}
use Rattle.law_sentences.proofs.Queue.{AreFirst, Queues, after_both, did_queues, order_after, queue_of}

-- ---- the acts of one machine among all that is told

-- the switching of a drive and a bridge's own signals are nothing to the order
looked_at : (order : List ℕ) (act : Act) → order_with order act ≡ order_after order (told_of_act act)
looked_at order (acts.Drive side on) = refl
looked_at order _ = refl

order_one : (machine : ℕ) (order : List ℕ) (h : Happening) → order_by machine order h ≡ order_after order (done_act machine h)
order_one machine order (happenings.Done other act) = by (other == machine) where
  by : (test : Bool) → cond test (order_with order act) order ≡ order_after order (cond test (told_of_act act) [])
  by true = looked_at order act
  by false = refl
order_one machine order _ = refl

order_done : (machine : ℕ) (order : List ℕ) (told : List Happening) → order_behind machine order told ≡ order_after order (done_by machine told)
order_done machine order [] = refl
order_done machine order (h ∷ told) =
    order_done machine (order_by machine order h) told ∙ ap (λ (x : List ℕ). order_after x (done_by machine told)) (order_one machine order h)
    ∙ sym (after_both order (done_act machine h) (done_by machine told))

first_behind : (order : List ℕ) (a b : List Act) → AreFirst order (a ++ b) → AreFirst (order_after order a) b
first_behind order [] b all = all
first_behind order (act ∷ a) b all = first_behind (order_with order act) a b all.1

leaves_is : (machine id : ℕ) (others : List Act) → done_act machine (leaves machine id) ++ others ≡ acts.Deed (deeds.Leaves id) ∷ others
leaves_is machine id others = rw (eq-eqb machine machine refl) refl

first_at : (machine id : ℕ) (order : List ℕ) (earlier later : List Happening) → AreFirst order (done_by machine (earlier ++ leaves machine id ∷ later))
    → slice_get (order_behind machine order earlier) 0 ≡ Some id
first_at machine id order [] later all = (subst (λ (x : List Act). AreFirst order x) (leaves_is machine id (done_by machine later)) all).0
first_at machine id order (h ∷ earlier) later all =
    first_at machine id (order_by machine order h) earlier later
    (subst (λ (x : List ℕ). AreFirst x (done_by machine (earlier ++ leaves machine id ∷ later))) (sym (order_one machine order h))
    (first_behind order (done_act machine h) (done_by machine (earlier ++ leaves machine id ∷ later)) all))

undriven_queues : {end : List ℕ} (order : List ℕ) (told : List Act) → Queues order told end → Queues order (undriven told) end
undriven_queues order [] k = k
undriven_queues order (acts.Drive side on ∷ told) k = undriven_queues order told (record { leads = k.leads; firsts = k.firsts.1 })
undriven_queues order (acts.Signals signal on ∷ told) k = undriven_queues order told (record { leads = k.leads; firsts = k.firsts.1 })
undriven_queues order (acts.Tells message ∷ told) k = undriven_queues order told (record { leads = k.leads; firsts = k.firsts.1 })
undriven_queues order (act ∷ told) k =
    let later = undriven_queues (order_with order act) told (record { leads = k.leads; firsts = k.firsts.1 }) in
    record { leads = later.leads; firsts = (k.firsts.0, later.firsts) }

-- ---- a line

turn_queues : (t : Trace) (j : ℕ) (before after : LineState) (told : List Happening) → are_different (all_of (own_of (node_at before (j + 1)).lane.body)) ≡ true → Turn j t before after told
    → Queues (held_and_kept before (j + 1)) (done_by (j + 1) told) (held_and_kept after (j + 1))
turn_queues t j before after told different (is_still same none) =
    let still : Queues (held_and_kept before (j + 1)) [] (held_and_kept after (j + 1)) = record { leads = ap (λ (b : Body). queue_of (own_of b)) (sym same); firsts = tt } in
    subst (λ (x : List Act). Queues (held_and_kept before (j + 1)) x (held_and_kept after (j + 1))) (sym none) still
turn_queues t j before after told different (has_stepped s) =
    let body : Body = (node_at before (j + 1)).lane.body in
    let d : Done = plain_step s.desk (unread_by (j + 1) before.world) s.event body in
    let does : Did Any (own_of body) d.acts (own_of d.body) = step_did s.desk (unread_by (j + 1) before.world) s.event body (any_new s.event) in
    let queues : Queues (queue_of (own_of body)) d.acts (queue_of (own_of d.body)) = did_queues does different in
    let all : Queues (queue_of (own_of body)) (undriven d.acts) (queue_of (own_of d.body)) = undriven_queues (queue_of (own_of body)) d.acts queues in
    subst (λ (x : List Act). Queues (held_and_kept before (j + 1)) x (held_and_kept after (j + 1))) (sym s.acts)
    (subst (λ (b : Body). Queues (held_and_kept before (j + 1)) (undriven d.acts) (queue_of (own_of b))) (sym s.body) all)

held_by : (id : ℕ) (held : Option ℕ) → is_held id held ≡ true → held ≡ Some id
held_by id None is = absurd (false≢true is)
held_by id (Some mine) is = let same : mine ≡ id = eqb-true mine id is in ap (λ (x : ℕ). Some x) same

first_held : (id : ℕ) (held : Option ℕ) (kept : List ℕ) → held ≡ Some id → slice_get (one_of held ++ kept) 0 ≡ Some id
first_held id held kept is = ap (λ (h : Option ℕ). slice_get (one_of h ++ kept) 0) is

line_moves : SaysAlone → (number : ℕ) (line : TrackLine) (before after : LineState) (told : List Happening) (machine : ℕ) → Stood before → TrackSteps number line before after told
    → IsTold (happenings.Moved machine moves.Left) told → MovesTheFirst machine (held_and_kept before machine) before after
line_moves alone number line before after told machine was steps is =
    let made : MadeLeft machine before after = left_made machine before after was.stands.ids.whole (track_moved number line before after told machine moves.Left steps is) in
    let facts : HasCustodyFacts before = facts_of alone was.trace before was.stands was.waits in
    let by = facts.begun machine made.board made.begun in
    let held : (owned_by (node_at before machine)).held ≡ Some by.id = held_by by.id (owned_by (node_at before machine)).held by.held in
    record {
      board = made.board;
      id = by.id;
      named = by.named;
      begun = made.begun;
      across = made.across;
      held = held;
      first = first_held by.id (owned_by (node_at before machine)).held (owned_by (node_at before machine)).kept held;
    }

order_at : SaysAlone → (number : ℕ) (line : TrackLine) (before after : LineState) (told : List Happening) (j : ℕ) → Stood before → TrackSteps number line before after told
    → GoesInOrder (j + 1) (held_and_kept before (j + 1)) before after told
order_at alone number line before after told j was steps =
    let queues : Queues (held_and_kept before (j + 1)) (done_by (j + 1) told) (held_and_kept after (j + 1)) =
    turn_queues was.trace j before after told (differ_of (j + 1) was.stands) (track_turn alone was.trace number line before after told was.stands steps j) in
    record {
      records = sym (order_done (j + 1) (held_and_kept before (j + 1)) told ∙ queues.leads);
      leaves_first = λ earlier later id is. first_at (j + 1) id (held_and_kept before (j + 1)) earlier later
          (subst (λ (x : List Happening). AreFirst (held_and_kept before (j + 1)) (done_by (j + 1) x)) is queues.firsts);
      moves_first = line_moves alone number line before after told (j + 1) was steps;
    }

-- EACH LINE
pub line_in_order : SaysAlone → (number : ℕ) (line : TrackLine) (before after : LineState) (told : List Happening) (machine : ℕ) → 1 ≤ machine → Stood before → TrackSteps number line before after told
    → GoesInOrder machine (held_and_kept before machine) before after told
line_in_order alone number line before after told machine counted was steps =
    let is : machine - 1 + 1 ≡ machine = omega (arith, counted) in
    subst (λ (m : ℕ). GoesInOrder m (held_and_kept before m) before after told) is (order_at alone number line before after told (machine - 1) was steps)

-- ---- along a run

behind_both : (machine : ℕ) (order : List ℕ) (a b : List Happening) → order_behind machine order (a ++ b) ≡ order_behind machine (order_behind machine order a) b
behind_both machine order [] b = refl
behind_both machine order (h ∷ a) b = behind_both machine (order_by machine order h) a b

run_in_order : SaysAlone → (machine : ℕ) (past : List Happening) (s : LineState) (asked : List TrackLine) (points : List Point) (n : ℕ) → 1 ≤ machine → Stood s → IsRun s asked points → AreStood (take n points)
    → held_and_kept s machine ≡ order_of machine past → KeepsOrder machine past s (take n points)
run_in_order alone machine past s asked points zero counted was run all is = tt
run_in_order alone machine past s [] [] (suc n) counted was run all is = tt
run_in_order alone machine past s [] (point ∷ points) (suc n) counted was run all is = absurd run
run_in_order alone machine past s (line ∷ asked) [] (suc n) counted was run all is = absurd run
run_in_order alone machine past s (line ∷ asked) (point ∷ points) (suc n) counted was run all is =
    let one : GoesInOrder machine (order_of machine past) s point.after point.told =
    subst (λ (order : List ℕ). GoesInOrder machine order s point.after point.told) is (line_in_order alone (s.lines + 1) line s point.after point.told machine counted was run.0) in
    (one, run_in_order alone machine (past ++ point.told) point.after asked points n counted all.0 run.1 all.1 (one.records ∙ sym (behind_both machine [] past point.told)))

none_held : (machine : ℕ) → held_and_kept no_line machine ≡ []
none_held zero = refl
none_held (suc place) = refl

-- THE LAW
pub first_in_first_out : SaysAlone → ConnectsBear → FirstInFirstOut
first_in_first_out alone connects asked points n machine fit few run honest counted =
    run_in_order alone machine [] no_line asked points n counted none_stood.stood run
    (run_stood alone connects no_line asked points n fit few none_stood run honest) (none_held machine)
