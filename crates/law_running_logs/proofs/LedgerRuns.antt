-- The ledger along a run, where the relation of running machines goes on in each step.
use Rattle.std.proofs.Common.{List, [], ap, false, refl, slice_get, subst, suc, sym, true, zero, ℕ, ◌∙◌, ◌∷◌, ◌≡◌}
use Rattle.std.specs.Prelude.{slice_index_or}
use Rattle.std.specs.List.{AllByRecursion}
use Rattle.line_world.specs.declared.moves.Move.TheVariants.{Begin}
use Rattle.node_core.specs.Node.{NodeState, new_node}
use Rattle.node_core.specs.declared.act.Act.{Act}
use Rattle.standings.specs.Ledger.{Ledger, empty_ledger, ledger_after_all}
use Rattle.standings.specs.Marks.{Where, has_at, intake, kept, outlet}
use Rattle.standings.specs.declared.deed.Deed.{Deed}
use Rattle.line_step.specs.Numbered.{no_node}
use Rattle.line_step.specs.State.{owned_by}
use Rattle.law_one_standing.specs.Standing.{HasOneStanding}
use Rattle.law_one_standing.proofs.LedgerMarks.{FitsLine, ledger_of}
use Rattle.law_one_standing.proofs.LedgerSteps.{deeds_by}
use Rattle.law_one_standing.proofs.LedgerStandings.{standing_told}
use Rattle.law_running_line.specs.New.{IsNew, IsNewNode}
use Rattle.law_running_line.specs.Reading.{Reading, Strictly}
use Rattle.law_running_line.specs.Running.{Running, node_of, with_floor}
use Rattle.law_running_line.specs.RunSteps.{RunSteps, RunsTo, asks, at_rest, goes_on, lets_be, lets_go, moves, turns}
use Rattle.law_running_line.specs.Stands.{AreInRelation, IsMade, line_of, node_in}
use Rattle.law_running_line.proofs.FloorMoves.{moved_stand}
use Rattle.law_running_line.specs.Timed.{AreRelated}
use Rattle.law_running_line.proofs.BehindRuns.{new_related}
use Rattle.law_running_line.proofs.RunsOn.{TurnGoes, step_stands}
use Rattle.law_running_line.proofs.OneStand.{one_standing_of}
use Rattle.law_running_logs.specs.Told.{Follows, IsAtGap, LedgerFollows, RelationGoesOn, StandsAlong, StandsAt, StaysInLane, acts_along, deeds_at, point_of, points_of}
use Rattle.law_running_logs.proofs.LedgerGaps.{turn_gaps}
use Rattle.law_running_logs.proofs.LedgerLanes.{turn_stays}
use Rattle.law_running_logs.proofs.LedgerTurn.{Led, told_deeds, turn_led}

-- ---- a step that no machine makes: the machines are as they were

node_same : (before after : Running) → after.machines ≡ before.machines → (machine : ℕ) → node_in after machine ≡ node_in before machine
node_same before after same zero = refl
node_same before after same (suc place) = ap (λ (nodes : List NodeState). slice_index_or nodes place no_node) same

there_same : (before after : Running) → after.machines ≡ before.machines → (machine : ℕ) → node_of machine after ≡ node_of machine before
there_same before after same zero = refl
there_same before after same (suc place) = ap (λ (nodes : List NodeState). slice_get nodes place) same

made_same : (before after : Running) → after.machines ≡ before.machines → (id : ℕ) → IsMade before id → IsMade after id
made_same before after same id made = record { machine = made.machine; node = made.node; there = there_same before after same made.machine ∙ made.there; count = made.count; used = made.used; small = made.small; is = made.is }

fits_same : (before after : Running) (ledger : Ledger) → after.machines ≡ before.machines → FitsLine (IsMade before) (line_of before) ledger → FitsLine (IsMade after) (line_of after) ledger
fits_same before after ledger same fits = record {
  past = fits.past;
  is = fits.is;
  all = λ place machine x. fits.all place machine x ∙ ap (λ (n : NodeState). has_at place (owned_by n) x) (sym (node_same before after same machine));
  olds = λ x seen. made_same before after same x (fits.olds x seen);
}

still_led : (before after : Running) (ledger : Ledger) → after.machines ≡ before.machines → FitsLine (IsMade before) (line_of before) ledger → Led after ledger []
still_led before after ledger same fits = record { legal = tt; fits = fits_same before after ledger same fits }

-- ---- A STEP

led_told : (machine : ℕ) (acts : List Act) (after : Running) (ledger : Ledger) → Led after ledger (deeds_by machine acts) → Led after ledger (deeds_at (record { machine = machine; acts = acts; after = after }))
led_told machine acts after ledger led = subst (λ (ds : List Deed). Led after ledger ds) (sym (told_deeds machine acts)) led

pub step_led : {reading : Reading} {before after : Running} {acts : List Act} (step : RunSteps reading before acts after) → AreInRelation before → AreInRelation after → (ledger : Ledger) → FitsLine (IsMade before) (line_of before) ledger → Led after ledger (deeds_at (point_of step))
step_led (turns {machine} {input} {moment} {before} {after} {told} turn) was now ledger fits = led_told machine told after ledger (turn_led turn was now ledger fits)
step_led (asks {machine} {before} {after} asked) was now ledger fits = still_led before after ledger (ap (λ (s : Running). s.machines) asked.after_is) fits
step_led (lets_be {machine} {side} {before} {after} left) was now ledger fits = still_led before after ledger (ap (λ (s : Running). s.machines) left.after_is) fits
step_led (moves {gap} {step} {before} {after} moved) was now ledger fits = still_led before after ledger (ap (λ (s : Running). s.machines) moved.after_is) fits
step_led (lets_go {gap} {moment} {before} {after} {told} gone) was now ledger fits =
    let begun : Running = with_floor gone.floor before in
    led_told gap told after ledger (turn_led gone.turns (moved_stand gap Begin was.trace before gone.floor was.stands gone.begins) now ledger (fits_same before begun ledger refl fits))

-- its deeds are done at gaps
step_gaps : {reading : Reading} {before after : Running} {acts : List Act} (step : RunSteps reading before acts after) → AreInRelation before → AreInRelation after → AllByRecursion IsAtGap (deeds_at (point_of step))
step_gaps (turns {machine} {input} {moment} {before} {after} {told} turn) was now = turn_gaps turn was now
step_gaps (asks asked) was now = tt
step_gaps (lets_be left) was now = tt
step_gaps (moves moved) was now = tt
step_gaps (lets_go {gap} {moment} {before} {after} {told} gone) was now = turn_gaps gone.turns (moved_stand gap Begin was.trace before gone.floor was.stands gone.begins) now

-- and its boards stay in their lane
step_stays : {reading : Reading} {before after : Running} {acts : List Act} (step : RunSteps reading before acts after) → AllByRecursion StaysInLane (point_of step).acts
step_stays (turns turn) = turn_stays turn
step_stays (asks asked) = tt
step_stays (lets_be left) = tt
step_stays (moves moved) = tt
step_stays (lets_go gone) = turn_stays gone.turns

-- ---- A RUN

in_relation : {reading : Reading} {s : Running} → AreRelated reading s → AreInRelation s
in_relation r = record { trace = r.trace; stands = r.stands }

after_is : {reading : Reading} {before after : Running} {acts : List Act} (step : RunSteps reading before acts after) → (point_of step).after ≡ after
after_is (turns turn) = refl
after_is (asks asked) = refl
after_is (lets_be left) = refl
after_is (moves moved) = refl
after_is (lets_go gone) = refl

pub run_follows : {reading : Reading} → RelationGoesOn reading → {s u : Running} {acts : List Act} (run : RunsTo reading s acts u) → AreRelated reading s → (ledger : Ledger) → FitsLine (IsMade s) (line_of s) ledger → Follows ledger (points_of run)
run_follows goes at_rest was ledger fits = tt
run_follows {reading} goes (goes_on {s} {t} {u} {first} {later} step run) was ledger fits =
    let now : AreRelated reading t = goes s t first step was in
    let led : Led (point_of step).after ledger (deeds_at (point_of step)) = subst (λ (x : Running). Led x ledger (deeds_at (point_of step))) (sym (after_is step)) (step_led step (in_relation was) (in_relation now) ledger fits) in
    let behind : Ledger = ledger_after_all ledger (deeds_at (point_of step)) in
    let there : FitsLine (IsMade t) (line_of t) behind = subst (λ (x : Running). FitsLine (IsMade x) (line_of x) behind) (after_is step) led.fits in
    (led.legal, ledger_of (line_of (point_of step).after) behind led.fits, standing_told behind (line_of (point_of step).after) (ledger_of (line_of (point_of step).after) behind led.fits), run_follows goes run now behind there)

-- ---- one standing behind each step

pub stands_run : {reading : Reading} → RelationGoesOn reading → {s u : Running} {acts : List Act} (run : RunsTo reading s acts u) → AreRelated reading s → AllByRecursion StandsAt (points_of run)
stands_run goes at_rest was = tt
stands_run {reading} goes (goes_on {s} {t} {u} {first} {later} step run) was =
    let now : AreRelated reading t = goes s t first step was in (
      record {
        standing = subst (λ (x : Running). HasOneStanding (line_of x)) (sym (after_is step)) (one_standing_of now.trace t now.stands);
        gaps = step_gaps step (in_relation was) (in_relation now);
        lane = step_stays step;
      },
      stands_run goes run now,
    )

-- ---- new machines

none_owned : (node : NodeState) → IsNewNode node → (place : Where) (x : ℕ) → has_at place (owned_by node) x ≡ false
none_owned node new place x = subst (λ (n : NodeState). has_at place (owned_by n) x ≡ false) (sym new.is) (none_new place) where
  none_new : (place : Where) → has_at place (owned_by (new_node new.profile)) x ≡ false
  none_new kept = refl
  none_new outlet = refl
  none_new intake = refl

none_beyond : (place : Where) (x : ℕ) → has_at place (owned_by no_node) x ≡ false
none_beyond kept x = refl
none_beyond outlet x = refl
none_beyond intake x = refl

none_among : (nodes : List NodeState) → AllByRecursion IsNewNode nodes → (before : ℕ) (place : Where) (x : ℕ) → has_at place (owned_by (slice_index_or nodes before no_node)) x ≡ false
none_among [] new before place x = none_beyond place x
none_among (node ∷ nodes) new zero place x = none_owned node new.0 place x
none_among (node ∷ nodes) new (suc before) place x = none_among nodes new.1 before place x

none_had : (s : Running) → IsNew s → (place : Where) (machine x : ℕ) → has_at place (owned_by (node_in s machine)) x ≡ false
none_had s new place zero x = none_beyond place x
none_had s new place (suc before) x = none_among s.machines new.nodes before place x

none_fits : (s : Running) → IsNew s → FitsLine (IsMade s) (line_of s) empty_ledger
none_fits s new = record { past = []; is = refl; all = λ place machine x. sym (none_had s new place machine x); olds = λ x seen. absurd (let h : false ≡ true = seen in cc) }

-- ---- THE LAWS

pub ledger_follows : (reading : Reading) → RelationGoesOn reading → LedgerFollows reading
ledger_follows reading goes s u acts new differ run = run_follows goes run (new_related reading s new differ) empty_ledger (none_fits s new)

pub stands_along : (reading : Reading) → RelationGoesOn reading → StandsAlong reading
stands_along reading goes s u acts new differ run = stands_run goes run (new_related reading s new differ)

pub strictly_goes : TurnGoes → RelationGoesOn Strictly
strictly_goes goes before after acts step was = (let now : AreInRelation after = step_stands goes step (in_relation was) in record { trace = now.trace; stands = now.stands; kept = tt })

pub acts_told : {reading : Reading} {s u : Running} {acts : List Act} (run : RunsTo reading s acts u) → acts_along (points_of run) ≡ acts
acts_told at_rest = refl
acts_told (goes_on {first = first} step run) = rw (acts_are step, acts_told run) refl where
  acts_are : {reading : Reading} {before after : Running} {acts : List Act} (step : RunSteps reading before acts after) → (point_of step).acts ≡ acts
  acts_are (turns turn) = refl
  acts_are (asks asked) = refl
  acts_are (lets_be left) = refl
  acts_are (moves moved) = refl
  acts_are (lets_go gone) = refl
