-- THE WHOLE RELATION GOES ON IN A TURN that has read what it must before it takes its input.
use Rattle.std.proofs.Common.{List, [], refl, subst, sym, ℕ, ℤ, ◌+◌, ◌-◌, ◌≡◌, ◌≤◌}
use Rattle.law_one_standing.proofs.LineMoves.{less_one}
use Rattle.board_record.specs.declared.sensed.Sensed.{Sensed}
use Rattle.node_core.specs.declared.act.Act.{Act}
use Rattle.node_core.specs.declared.input.Input.{Input}
use Rattle.node_core.specs.declared.input.Input.TheVariants as inputs
use Rattle.node_core.specs.declared.word.Word.{Word}
use Rattle.line_base.specs.declared.states.Side.TheVariants.{Entry, Exit}
use Rattle.law_link_messages.specs.Fit.{AreFitActs}
use Rattle.law_link_messages.proofs.Saying.{signals_fit}
use Rattle.law_link_messages.proofs.SayingWhat.{both_said}
use Rattle.law_machine_custody.specs.InTime.{IsReadEnough}
use Rattle.law_machine_custody.specs.Scene.{all_met}
use Rattle.law_machine_custody.proofs.InTime.{all_in_time}
use Rattle.law_machine_custody.proofs.Timely.{read_enough}
use Rattle.law_one_standing.specs.Carried.{Trace}
use Rattle.law_one_standing.specs.Standing.{HasOneStanding}
use Rattle.law_one_standing.proofs.Carrying.{SaysAlone}
use Rattle.law_running_line.specs.Reading.{MayTake, Reading, Strictly}
use Rattle.law_running_line.specs.Running.{Running}
use Rattle.law_running_line.specs.Ids.{HasUniqueIds}
use Rattle.law_running_line.specs.New.{IsNew, NumbersDiffer}
use Rattle.law_running_line.specs.RunSteps.{RunsTo}
use Rattle.law_running_line.specs.Stands.{AreInRelation, Stands, line_of}
use Rattle.law_running_line.specs.Steady.{scene_of}
use Rattle.law_running_line.specs.Turned.{TurnsTo, acts_met, answer_met, scene_behind, scene_met, turned}
use Rattle.law_running_line.specs.Turns.{Turns}
use Rattle.law_running_line.specs.Waits.{Says}
use Rattle.law_running_line.specs.Wire.{Wire}
use Rattle.law_running_line.proofs.NewMachines.{new_stand}
use Rattle.law_running_line.proofs.OneStand.{one_standing_of}
use Rattle.law_running_line.proofs.Relation.{within_of}
use Rattle.law_running_line.proofs.RunsOn.{run_stands}
use Rattle.law_running_line.proofs.TurnGoesOn.{TurnAll, fit_of, turn_all}
use Rattle.law_running_line.proofs.TurnHeard.{heard_in}
use Rattle.law_running_line.proofs.TurnInto.{HasRead, IsTaken, IsTakenInTime}
use Rattle.law_running_line.proofs.TurnLeaves.{AreHeardFit, IsHeard, node_fit, step_fit}
use Rattle.law_running_line.proofs.TurnStands.{AreLinked, turn_stands, unread_below, unread_then}
use Rattle.law_running_line.proofs.UniqueIds.{unique_ids_of}
use Rattle.law_running_line.proofs.WiresWhole.{Unread, linked_down, linked_found, linked_plain, linked_refused, linked_taken, linked_up}

-- ---- all that is told is fit

told_fit : {machine : ℕ} {reading : Reading} {input : Input} {moment : ℤ} {before after : Running} {told : List Act} (turn : Turns reading machine input moment before after told) (t : Trace) → Stands t before → AreHeardFit input turn.steps.lane.words → AreFitActs told
told_fit turn t st heard =
    subst (λ (done : List Act). AreFitActs done) (sym turn.steps.told)
    (both_said (subst (λ (done : List Act). AreFitActs done) (sym turn.steps.lane.told) (step_fit turn (node_fit turn t st) heard).acts) (signals_fit turn.node.bridge turn.next.lane.body))

-- ---- both links, for each input

linked_all : SaysAlone → (j : ℕ) (input : Input) {reading : Reading} {moment : ℤ} {before after : Running} {told : List Act} (t : Trace) → Stands t before → (turn : Turns reading (j + 1) input moment before after told) → AreFitActs told → Unread j turn.rest before after
    → (all : TurnAll j t turn) → AreLinked j after (acts_met input all.wire told (scene_met input all.wire all.said t before j))
linked_all alone j inputs.Connect {before = before} {after = after} {told = told} t st turn fit unread all =
    subst (λ (w : Wire). AreLinked j after (all_met told (scene_met inputs.Connect w all.said t before j))) (sym all.is_met.0)
    (linked_found alone t j st turn fit all.into.free unread all.said (subst (λ (w : Wire). Says w.down all.said) all.is_met.0 all.is_met.1))
linked_all alone j inputs.Accepted {before = before} {after = after} {told = told} t st turn fit unread all =
    subst (λ (w : Wire). AreLinked j after (all_met told (scene_met inputs.Accepted w all.said t before j))) (sym all.is_met.0)
    (linked_taken alone t j st turn fit all.into.free unread all.said (subst (λ (w : Wire). Says w.up all.said) all.is_met.0 all.is_met.1))
linked_all alone j inputs.Second {before = before} {after = after} {told = told} t st turn fit unread all =
    subst (λ (w : Wire). AreLinked j after (answer_met w.below told (scene_of t before j))) (sym all.is_met) (linked_refused alone t j st turn fit all.into.free unread)
linked_all alone j (inputs.Bytes Entry piece) t st turn fit unread all = linked_down alone t j st turn fit all.into.free unread
linked_all alone j (inputs.Bytes Exit piece) t st turn fit unread all = linked_up alone t j st turn fit all.into.free unread
linked_all alone j (inputs.Notice Entry) t st turn fit unread all = linked_plain alone t j st turn fit all.into.free unread refl refl
linked_all alone j input t st turn fit unread all = linked_plain alone t j st turn fit all.into.free unread refl refl

-- ---- THE TURN, whatever the reading, where what a turn takes has been read for

pub turns_to : SaysAlone → {reading : Reading} (t : Trace) (j : ℕ) (input : Input) (moment : ℤ) (before after : Running) (told : List Act) → Stands t before → (turn : Turns reading (j + 1) input moment before after told) → HasRead j input t turn → TurnsTo j t turn
turns_to alone t j input moment before after told st turn has =
    let heard : IsHeard input turn.steps.lane.words (scene_of t before j) = heard_in alone j input t st turn in
    let all : TurnAll j t turn = turn_all j input t st turn has heard in
    let fit : AreFitActs told = told_fit turn t st (fit_of input turn.steps.lane.words (scene_of t before j) heard) in
    let unread : Unread j turn.rest before after = record { own = unread_then j t st turn; below = unread_below j t st turn } in
    record { wire = all.wire; said = all.said; a = all.into.goes.a; b = all.into.goes.b; gone = all.gone; first = all.into.goes.still_first; over = all.into.goes.still_over; stands = turn_stands turn st all.into (linked_all alone j input t st turn fit unread all) all.leaves }

-- ---- ALL IS READ FIRST

pub read_first : (input : Input) (late : ℕ) (rest : List Sensed) → IsTaken input → MayTake Strictly input late rest → rest ≡ []
read_first inputs.Nothing late rest taken time = absurd taken
read_first input late rest taken time = time

all_taken_in_time : (input : Input) (words : List Word) → IsTakenInTime input words []
all_taken_in_time (inputs.Bytes side piece) words = all_in_time side words
all_taken_in_time input words = tt

first_read : {j : ℕ} {input : Input} {moment : ℤ} {before after : Running} {told : List Act} (t : Trace) (turn : Turns Strictly (j + 1) input moment before after told) → HasRead j input t turn
first_read {j = j} {input = input} t turn taken =
    let none : turn.rest ≡ [] = read_first input _ turn.rest taken turn.in_time in
    record {
      enough = subst (λ (rest : List Sensed). IsReadEnough rest (t.ghost j)) (sym none) read_enough;
      in_time = subst (λ (rest : List Sensed). IsTakenInTime input turn.steps.lane.words rest) (sym none) (all_taken_in_time input turn.steps.lane.words);
    }

pub turns_first : SaysAlone → (t : Trace) (j : ℕ) (input : Input) (moment : ℤ) (before after : Running) (told : List Act) → Stands t before → (turn : Turns Strictly (j + 1) input moment before after told) → TurnsTo j t turn
turns_first alone t j input moment before after told st turn = turns_to alone t j input moment before after told st turn (first_read t turn)

next_stands : SaysAlone → (j : ℕ) (input : Input) (moment : ℤ) (before after : Running) (told : List Act) → Turns Strictly (j + 1) input moment before after told → (t : Trace) → Stands t before → AreInRelation after
next_stands alone j input moment before after told turn t st =
    let to : TurnsTo j t turn = turns_first alone t j input moment before after told st turn in
    record { trace = turned j to.a to.b to.gone (scene_behind input to.wire to.said told t before j) t; stands = to.stands }

pub turn_goes_on : SaysAlone → (machine : ℕ) (input : Input) (moment : ℤ) (before after : Running) (told : List Act) → Turns Strictly machine input moment before after told → AreInRelation before → AreInRelation after
turn_goes_on alone machine input moment before after told turn r =
    let same : machine - 1 + 1 ≡ machine = less_one machine (within_of machine before turn.node turn.there).0 in
    next_stands alone (machine - 1) input moment before after told (subst (λ (m : ℕ). Turns Strictly m input moment before after told) (sym same) turn) r.trace r.stands

-- and along a run
run_in_relation : SaysAlone → {s u : Running} {told : List Act} → IsNew s → NumbersDiffer s → RunsTo Strictly s told u → AreInRelation u
run_in_relation alone {s} new differ run = run_stands (turn_goes_on alone) run (new_stand s new differ)

pub runs_have_one_standing : SaysAlone → (s u : Running) (told : List Act) → IsNew s → NumbersDiffer s → RunsTo Strictly s told u → HasOneStanding (line_of u)
runs_have_one_standing alone s u told new differ run = (let r : AreInRelation u = run_in_relation alone new differ run in one_standing_of r.trace u r.stands)

pub runs_have_unique_ids : SaysAlone → (s u : Running) (told : List Act) → IsNew s → NumbersDiffer s → RunsTo Strictly s told u → HasUniqueIds u
runs_have_unique_ids alone s u told new differ run = (let r : AreInRelation u = run_in_relation alone new differ run in unique_ids_of r.trace u r.stands)
