-- THE PART OF EACH NODE in a woven run is a run of it.
use Rattle.std.proofs.Common.{List, Option, Some, [], ap, arith, inl, inr, refl, slice_get, slice_set, subst, suc, sym, zero, ℕ, ◌++◌, ◌-◌, ◌∙◌, ◌∷◌, ◌≡◌, ◌≢◌, ◌⊎◌}
use Rattle.node_core.specs.declared.act.Act.{Act}
use Rattle.line_step.proofs.Numbers.{same_or_not}
use Rattle.node_run.specs.Runs.{Moves, begins, goes_on}
use Rattle.node_run.specs.State.{RunState}
use Rattle.law_running_line.specs.Reading.{Reading}
use Rattle.law_joined_nodes.specs.Does.{Taken}
use Rattle.law_joined_nodes.specs.Joined.{Joined, NodeRun, run_of, with_state}
use Rattle.law_joined_nodes.specs.Laws.{EachNodeRuns, RunsOn}
use Rattle.law_joined_nodes.specs.Woven.{NodeMoves, Weaves, WovenTo, at_rest as nothing_happens, board_moves, goes_on as and_then, goes_read, is_lost, node_moves}

-- ---- one run of several is changed

set_there : (runs : List NodeRun) (place : ℕ) (old new : NodeRun) → slice_get runs place ≡ Some old → slice_get (slice_set runs place new) place ≡ Some new
set_there [] place old new there = absurd (cc)
set_there (first ∷ runs) zero old new there = refl
set_there (first ∷ runs) (suc place) old new there = set_there runs place old new there

set_else : (runs : List NodeRun) (place at : ℕ) (new : NodeRun) → at ≢ place → slice_get (slice_set runs place new) at ≡ slice_get runs at
set_else [] place at new apart = refl
set_else (first ∷ runs) zero zero new apart = absurd (apart refl)
set_else (first ∷ runs) zero (suc at) new apart = refl
set_else (first ∷ runs) (suc place) zero new apart = refl
set_else (first ∷ runs) (suc place) (suc at) new apart = set_else runs place at new (λ is. apart (ap suc is))

pub own_there : (machine : ℕ) (run : NodeRun) (next : RunState) (before after : Joined) → run_of machine before ≡ Some run → after.runs ≡ with_state machine run next before.runs → run_of machine after ≡ Some (record { rules = run.rules; state = next })
own_there zero run next before after there is = absurd (cc)
own_there (suc place) run next before after there is =
    let at : suc place - 1 ≡ place = omega arith in
    let new : NodeRun = record { rules = run.rules; state = next } in
    ap (λ (rs : List NodeRun). slice_get rs place) (is ∙ ap (λ (p : ℕ). slice_set before.runs p new) at) ∙ set_there before.runs place run new there

pub other_there : (machine other : ℕ) (run : NodeRun) (next : RunState) (before after : Joined) → run_of machine before ≡ Some run → other ≢ machine → after.runs ≡ with_state machine run next before.runs → run_of other after ≡ run_of other before
other_there zero other run next before after there apart is = absurd (cc)
other_there (suc place) zero run next before after there apart is = refl
other_there (suc place) (suc at) run next before after there apart is =
    let places : at ≢ suc place - 1 = omega (arith, apart) in
    ap (λ (rs : List NodeRun). slice_get rs at) is ∙ set_else before.runs (suc place - 1) at (record { rules = run.rules; state = next }) places

-- ---- a step

begun_on : (machine : ℕ) (run : NodeRun) (u : Joined) → run_of machine u ≡ Some run → RunsOn machine run u
begun_on machine run u there = record { next = run.state; there = there; moments = []; given = []; log = []; runs = begins }

still_on : {machine : ℕ} {run : NodeRun} {before after : Joined} → run_of machine after ≡ run_of machine before → RunsOn machine run before → RunsOn machine run after
still_on same on = record { next = on.next; there = same ∙ on.there; moments = on.moments; given = on.given; log = on.log; runs = on.runs }

pub some_run : {a b : NodeRun} → Some a ≡ Some b → a ≡ b
some_run is = cc

moved_on_by : {machine other : ℕ} {run : NodeRun} {reading : Reading} {taken : Option Taken} {before mid after : Joined} {told : List Act} → mid.runs ≡ before.runs → NodeMoves reading other taken mid after told → RunsOn machine run before → (machine ≡ other) ⊎ (machine ≢ other) → RunsOn machine run after
moved_on_by {machine} {other} {run} {before = before} {mid = mid} {after = after} same m on (inr apart) =
    still_on (other_there other machine m.run m.next mid after m.there apart m.after_is ∙ by_runs machine) on where
      by_runs : (k : ℕ) → run_of k mid ≡ run_of k before
      by_runs zero = refl
      by_runs (suc place) = ap (λ (rs : List NodeRun). slice_get rs place) same
moved_on_by {machine} {other} {run} {before = before} {mid = mid} {after = after} same m on (inl is) =
    let own : NodeRun = record { rules = run.rules; state = on.next } in
    let here : Some own ≡ Some m.run = sym on.there ∙ ap (λ (k : ℕ). run_of k before) is ∙ sym (by_runs other) ∙ m.there in
    let run_is : own ≡ m.run = some_run here in
    let P : NodeRun → Type 0 = λ r. Moves r.rules m.moment r.state m.given m.next m.log in
    record {
      next = m.next;
      there = ap (λ (k : ℕ). run_of k after) is ∙ own_there other m.run m.next mid after m.there m.after_is ∙ ap (λ (r : NodeRun). Some (record { rules = r.rules; state = m.next })) (sym run_is);
      moments = on.moments ++ m.moment ∷ [];
      given = on.given ++ m.given;
      log = on.log ++ m.log;
      runs = goes_on on.runs (subst P (sym run_is) m.moves);
    }
  where
    by_runs : (k : ℕ) → run_of k mid ≡ run_of k before
    by_runs zero = refl
    by_runs (suc place) = ap (λ (rs : List NodeRun). slice_get rs place) same

by_number : (before after : Joined) (k : ℕ) → after.runs ≡ before.runs → run_of k after ≡ run_of k before
by_number before after zero same = refl
by_number before after (suc place) same = ap (λ (rs : List NodeRun). slice_get rs place) same

step_on : {reading : Reading} {machine : ℕ} {run : NodeRun} {before after : Joined} {told : List Act} → Weaves reading before told after → RunsOn machine run before → RunsOn machine run after
step_on {machine = machine} (node_moves {machine = other} m) on = moved_on_by refl m on (same_or_not machine other)
step_on {machine = machine} (is_lost {before = before} {after = after} l same) on = still_on (by_number before after machine same) on
step_on {machine = machine} (board_moves {before = before} {after = after} m same) on = still_on (by_number before after machine same) on
step_on {machine = machine} (goes_read {gap = gap} g) on = moved_on_by refl g.moves on (same_or_not machine gap)

woven_on : {reading : Reading} {machine : ℕ} {run : NodeRun} {before after : Joined} {told : List Act} → WovenTo reading before told after → RunsOn machine run before → RunsOn machine run after
woven_on nothing_happens on = on
woven_on (and_then first later) on = woven_on later (step_on first on)

pub each_node_runs : (reading : Reading) → EachNodeRuns reading
each_node_runs reading s u told machine run woven there = woven_on woven (begun_on machine run s there)
