-- WHAT ELSE A TURN LEAVES: each machine's records are fit, nothing is handed over where there is no link, and where no hand puts,
-- takes or changes a board the boards on the floor are the same.
use Rattle.std.proofs.Common.{List, [], ap, arith, false, inl, inr, subst, sym, ℕ, ℤ, ◌++◌, ◌+◌, ◌-◌, ◌∙◌, ◌≡◌, ◌≢◌, ◌≤◌, ◌⊎◌}
use Rattle.law_one_standing.proofs.RestMore.{IsFitNode, as_machine, as_node}
use Rattle.line_step.proofs.FloorLaws.{IsHandless, event-quiet}
use Rattle.line_base.specs.Text.{IsText}
use Rattle.line_base.specs.declared.states.Side.{Side}
use Rattle.line_base.specs.declared.states.Side.TheVariants.{Entry, Exit}
use Rattle.board_record.specs.Maker.{Maker}
use Rattle.board_record.specs.declared.sensed.Sensed.{Sensed}
use Rattle.line_world.specs.Boards.{boards_on}
use Rattle.line_world.specs.FloorPlan.{with_unread}
use Rattle.line_world.specs.Ids.{IdsDiffer}
use Rattle.line_world.specs.declared.board.Board.{Board}
use Rattle.line_world.proofs.Differing.{same_differ}
use Rattle.line_world.proofs.Keeping.{boards_unread}
use Rattle.node_core.specs.Announces.{announces}
use Rattle.node_core.specs.Desk.{Desk}
use Rattle.node_core.specs.Done.{Done}
use Rattle.node_core.specs.Event.{Event, Insert, Replace, event_did, event_of}
use Rattle.node_core.specs.Node.{NodeState, desk_of}
use Rattle.node_core.specs.Reads.{all_read}
use Rattle.node_core.specs.Signals.{signalled}
use Rattle.node_core.specs.Step.{machine_step, plain_step}
use Rattle.node_core.specs.Supervising.{watch_of}
use Rattle.node_core.specs.declared.act.Act.{Act}
use Rattle.node_core.specs.declared.input.Input.{Input}
use Rattle.node_core.specs.declared.input.Input.TheVariants as inputs
use Rattle.node_core.specs.declared.lane.Body.{Body}
use Rattle.node_core.specs.declared.word.Word.{Word}
use Rattle.law_link_messages.specs.Fit.{AreFitWords, Fits, IsFitBody, IsFitEvent, IsFitInput, IsFitMaker, none_heard}
use Rattle.law_link_messages.proofs.Eventing.{event_of_fits, maker_stays_fit}
use Rattle.law_link_messages.proofs.Saying.{step_fits}
use Rattle.law_machine_custody.specs.Flight.{AreOldest, unheard}
use Rattle.law_machine_custody.specs.Scene.{Scene}
use Rattle.line_step.specs.Reasons.{has_link}
use Rattle.line_step.specs.Steps.{is_second}
use Rattle.line_step.specs.World.{link_of}
use Rattle.step_rules.proofs.Hands.{AreQuiet, announces-quiet, hands_with_tells, quiet-join, read-quiet, signals-quiet}
use Rattle.line_step.proofs.Numbers.{same_or_not}
use Rattle.line_step.proofs.OnFloor.{SameBoards, quiet-acts}
use Rattle.law_one_standing.specs.Carried.{IsFitMachine, Trace}
use Rattle.law_one_standing.proofs.ApartFloor.{counted}
use Rattle.law_one_standing.proofs.RestLine.{IsNoCall, event_opens}
use Rattle.step_rules.proofs.RestStep.{Rests, step_rests}
use Rattle.law_running_line.specs.Reading.{Reading}
use Rattle.law_running_line.specs.Running.{Running}
use Rattle.law_running_line.specs.Stands.{IsAtRest, Stands, line_of, node_in}
use Rattle.law_running_line.specs.Turns.{Meets, Turns}
use Rattle.law_running_line.proofs.FloorMoves.{gone_nowhere}
use Rattle.law_running_line.proofs.Relation.{no_wire}
use Rattle.law_running_line.proofs.TurnFloor.{floor_world}
use Rattle.law_running_line.proofs.TurnShape.{floor_is, links_stay, next_there, none_then, other_nodes, own_node}
use Rattle.law_running_line.proofs.TurnStands.{AreGone, RestsThen, each_node}

-- ---- what the step's event is

abbrev pub event_in : {reading : Reading} {machine : ℕ} {input : Input} {moment : ℤ} {before after : Running} {told : List Act} → Turns reading machine input moment before after told → Event
event_in {input = input} turn = event_of turn.node.maker input turn.steps.lane.words

abbrev pub done_in : {reading : Reading} {machine : ℕ} {input : Input} {moment : ℤ} {before after : Running} {told : List Act} → Turns reading machine input moment before after told → Done
done_in {moment = moment} turn = machine_step (desk_of turn.node moment) turn.read (event_in turn) turn.node.lane.body

-- the words that bytes bring are the oldest messages on their way to their side, and such as fit
-- messages come to
abbrev pub IsHeard : Input → List Word → Scene → Type 0
IsHeard (inputs.Bytes side piece) words c = AreOldest words (unheard side c) × AreFitWords words
IsHeard input words c = Unit {0}

-- ---- records stay fit

-- the words of bytes are such as fit messages come to; of other inputs they don't count
abbrev pub AreHeardFit : Input → List Word → Type 0
AreHeardFit (inputs.Bytes side piece) words = AreFitWords words
AreHeardFit input words = Unit {0}

pub event_fits : (maker : Maker) (input : Input) (words : List Word) → IsFitMaker maker → IsFitInput input → AreHeardFit input words → IsFitEvent (event_of maker input words)
event_fits maker (inputs.Bytes side piece) words m texts heard = heard
event_fits maker (inputs.Insert barcode) words m texts heard = event_of_fits maker (inputs.Insert barcode) [] m texts none_heard
event_fits maker (inputs.Replace id) words m texts heard = event_of_fits maker (inputs.Replace id) [] m texts none_heard
event_fits maker (inputs.Query barcode) words m texts heard = texts
event_fits maker (inputs.Sub id place barcode) words m texts heard = event_of_fits maker (inputs.Sub id place barcode) [] m texts none_heard
event_fits maker (inputs.Gets board) words m texts heard = texts
event_fits maker input words m texts heard = tt

pub step_fit : {reading : Reading} {machine : ℕ} {input : Input} {moment : ℤ} {before after : Running} {told : List Act} (turn : Turns reading machine input moment before after told) → IsFitNode turn.node → AreHeardFit input turn.steps.lane.words → Fits (done_in turn)
step_fit {input = input} {moment = moment} turn fit heard =
    step_fits (desk_of turn.node moment) turn.read (event_in turn) turn.node.lane.body (record { name = fit.name; lane = fit.lane; moment = turn.moments }) (event_fits turn.node.maker input turn.steps.lane.words fit.maker turn.texts heard) fit.body

pub node_fit : {reading : Reading} {machine : ℕ} {input : Input} {moment : ℤ} {before after : Running} {told : List Act} (turn : Turns reading machine input moment before after told) (t : Trace) → Stands t before → IsFitNode turn.node
node_fit {machine = machine} {before = before} turn t st = subst (λ (n : NodeState). IsFitNode n) (own_node turn) (as_node (line_of before) machine (st.fit machine))

next_fit : {reading : Reading} {machine : ℕ} {input : Input} {moment : ℤ} {before after : Running} {told : List Act} (turn : Turns reading machine input moment before after told) → IsFitNode turn.node → AreHeardFit input turn.steps.lane.words → IsFitNode turn.next
next_fit {input = input} turn fit heard = record {
  body = subst (λ (b : Body). IsFitBody b) (sym turn.steps.lane.body) (step_fit turn fit heard).body;
  maker = subst (λ (m : Maker). IsFitMaker m) (sym turn.steps.lane.made) (maker_stays_fit input turn.node.maker fit.maker);
  name = subst (λ (x : List ℕ). IsText x) (sym turn.steps.name) fit.name;
  lane = subst (λ (x : ℕ). x ≤ 999_999_999) (sym turn.steps.number) fit.lane;
}

pub fit_then : {reading : Reading} {machine : ℕ} {input : Input} {moment : ℤ} {before after : Running} {told : List Act} (turn : Turns reading machine input moment before after told) (t : Trace) → Stands t before → AreHeardFit input turn.steps.lane.words
    → (k : ℕ) → IsFitMachine (line_of after) k
fit_then {before = before} {after = after} turn t st heard k =
    as_machine (line_of after) k (each_node IsFitNode turn (next_fit turn (node_fit turn t st) heard) (λ n. as_node (line_of before) n (st.fit n)) k)

-- ---- where there is no link all rests

-- where there are no connections none is found or taken
no_call : (at : Side) (machine : ℕ) (input : Input) (place : ℕ) (s : Running) → Meets machine input place s → s.wires (link_of machine at) ≡ [] → IsNoCall at input
no_call Entry machine inputs.Connect place s at none = no_wire place (s.wires (link_of machine Entry)) at.wire none at.there
no_call Exit machine inputs.Accepted place s meets none = no_wire place (s.wires (link_of machine Exit)) meets.0.wire none meets.0.there
no_call Entry machine _ place s meets none = tt
no_call Exit machine _ place s meets none = tt

own_rests : (at : Side) {reading : Reading} {machine : ℕ} {input : Input} {moment : ℤ} {before after : Running} {told : List Act} (turn : Turns reading machine input moment before after told) → before.wires (link_of machine at) ≡ []
    → Rests at (node_in before machine).lane.body → Rests at (node_in after machine).lane.body
own_rests at {machine = machine} {input = input} {moment = moment} {before = before} turn none rests =
    let was : Rests at turn.node.lane.body = subst (λ (n : NodeState). Rests at n.lane.body) (own_node turn) rests in
    let now : Rests at turn.next.lane.body =
    subst (λ (b : Body). Rests at b) (sym turn.steps.lane.body)
    (step_rests at (desk_of turn.node moment) turn.read (event_in turn) turn.node.lane.body (event_opens at turn.node.maker input turn.steps.lane.words (no_call at machine input turn.place before turn.meets none)) was) in
    subst (λ (n : NodeState). Rests at n.lane.body) (sym (next_there turn)) now

rests_by : (at : Side) {reading : Reading} {machine : ℕ} {input : Input} {moment : ℤ} {before after : Running} {told : List Act} (turn : Turns reading machine input moment before after told) (k : ℕ) → (k ≡ machine) ⊎ (k ≢ machine)
    → (k ≡ machine → before.wires (link_of machine at) ≡ []) → Rests at (node_in before k).lane.body → Rests at (node_in after k).lane.body
rests_by at {before = before} {after = after} turn k (inl is) none rests =
    subst (λ (n : ℕ). Rests at (node_in after n).lane.body) (sym is) (own_rests at turn (none is) (subst (λ (n : ℕ). Rests at (node_in before n).lane.body) is rests))
rests_by at turn k (inr apart) none rests = subst (λ (n : NodeState). Rests at n.lane.body) (sym (other_nodes turn k apart)) rests

less_one : (link machine : ℕ) → link + 1 ≡ machine → link ≡ machine - 1
less_one link machine is = omega (arith, is)

pub rests_then : {reading : Reading} {machine : ℕ} {input : Input} {moment : ℤ} {before after : Running} {told : List Act} (turn : Turns reading machine input moment before after told) (t : Trace) → Stands t before → RestsThen after
rests_then {machine = machine} {before = before} turn t st link never =
    let none : has_link link (line_of before) ≡ false = sym (links_stay turn link) ∙ never in
    let rest : IsAtRest before link = st.rest link none in
    let exit = rests_by Exit turn link (same_or_not link machine) (λ is. subst (λ (n : ℕ). before.wires n ≡ []) is rest.wires) (record { off = rest.exit; free = rest.outlet }) in
    let entry = rests_by Entry turn (link + 1) (same_or_not (link + 1) machine) (λ is. subst (λ (n : ℕ). before.wires n ≡ []) (less_one link machine is) rest.wires) (record { off = rest.entry; free = rest.intake }) in
    record { outlet = exit.free; intake = entry.free; exit = exit.off; entry = entry.off; wires = none_then turn link rest.wires }

-- ---- the boards on the floor

step_quiet : (desk : Desk) (unread : List Sensed) (event : Event) (body : Body) → AreQuiet (event_did desk event (all_read desk unread body).body).acts → AreQuiet (machine_step desk unread event body).acts
step_quiet desk unread event body quiet =
    let read : Done = all_read desk unread body in
    let did : Done = event_did desk event read.body in
    hands_with_tells desk (watch_of desk body) (plain_step desk unread event body).acts
    (quiet-join read.acts (did.acts ++ (announces desk did.body).acts) (read-quiet desk unread body) (quiet-join did.acts (announces desk did.body).acts quiet (announces-quiet desk did.body)))

told_quiet : {reading : Reading} {machine : ℕ} {input : Input} {moment : ℤ} {before after : Running} {told : List Act} (turn : Turns reading machine input moment before after told) → IsHandless input → AreQuiet told
told_quiet {input = input} {moment = moment} turn handless =
    let desk : Desk = desk_of turn.node moment in
    let made : AreQuiet turn.steps.made =
    subst (λ (done : List Act). AreQuiet done) (sym turn.steps.lane.told)
    (step_quiet desk turn.read (event_in turn) turn.node.lane.body (event-quiet desk turn.node.maker input turn.steps.lane.words (all_read desk turn.read turn.node.lane.body).body handless)) in
    subst (λ (done : List Act). AreQuiet done) (sym turn.steps.told) (quiet-join turn.steps.made (signalled turn.node.bridge turn.next.lane.body) made (signals-quiet turn.node.bridge turn.next.lane.body))

pub boards_stay : {reading : Reading} {machine : ℕ} {input : Input} {moment : ℤ} {before after : Running} {told : List Act} (turn : Turns reading machine input moment before after told) → IsHandless input → boards_on after.floor ≡ boards_on before.floor
boards_stay {machine = machine} {input = input} {before = before} {told = told} turn handless =
    let same : SameBoards (with_unread before.floor machine turn.rest) _ = quiet-acts (is_second input) machine told (floor_world (with_unread before.floor machine turn.rest)) (told_quiet turn handless) in
    ap boards_on (floor_is turn) ∙ same.boards ∙ boards_unread before.floor machine turn.rest

pub differ_then : {reading : Reading} {machine : ℕ} {input : Input} {moment : ℤ} {before after : Running} {told : List Act} (turn : Turns reading machine input moment before after told) → IsHandless input → IdsDiffer before.floor → IdsDiffer after.floor
differ_then {before = before} {after = after} turn handless differ = same_differ before.floor after.floor (boards_stay turn handless) differ

-- what was gone is, and nothing else
pub gone_then : {reading : Reading} {machine : ℕ} {input : Input} {moment : ℤ} {before after : Running} {told : List Act} (turn : Turns reading machine input moment before after told) → IsHandless input → (t t2 : Trace) → Stands t before
    → ((k x : ℕ) → t2.gone k x ≡ t.gone k x) → AreGone t2 after
gone_then {before = before} {after = after} turn handless t t2 st same = record {
  none = λ k x gone. ap (λ (boards : List Board). counted x boards) (boards_stay turn handless) ∙ gone_nowhere t before k x st (sym (same k x) ∙ gone);
  once = λ i k x one two. st.keeps.apart.gone_once i k x (sym (same i x) ∙ one) (sym (same k x) ∙ two);
}
