-- WOVEN NODES RUN: each step among joined nodes is a step of the running line beside them, or none.
use Rattle.std.proofs.Common.{Bool, List, None, Option, Some, [], ap, append_assoc, append-nil, arith, false, inl, inr, length, map, refl, slice_get, slice_set, subst, suc, sym, take, true, zero, ℕ, ℤ, ◌++◌, ◌-◌, ◌∙◌, ◌∷◌, ◌≡◌, ◌≢◌, ◌≤◌, ◌⊎◌}
use Rattle.std.specs.List.{AllByRecursion, list_any}
use Rattle.std.proofs.lemmas.Bool.{or_parts}
use Rattle.line_base.specs.declared.states.Side.{Side}
use Rattle.line_base.specs.declared.states.Side.TheVariants.{Entry, Exit}
use Rattle.line_outside.specs.Given.{Given}
use Rattle.line_outside.specs.declared.answer.GotBytes.TheVariants as founds
use Rattle.board_record.specs.declared.sensed.Sensed.{Sensed}
use Rattle.line_world.specs.FloorPlan.{FloorPlan}
use Rattle.line_world.specs.declared.moves.Move.{Move}
use Rattle.node_core.specs.May.{may_do, may_of, no_if}
use Rattle.node_core.specs.Node.{NodeState}
use Rattle.node_core.specs.Sides.{is_open}
use Rattle.node_core.specs.Step.{Steps}
use Rattle.node_core.specs.declared.act.Act.{Act}
use Rattle.node_core.specs.declared.input.Input.{Input}
use Rattle.node_core.specs.declared.input.Input.TheVariants as inputs
use Rattle.node_core.specs.declared.input.No.{No}
use Rattle.node_core.specs.declared.input.No.TheVariants as no
use Rattle.line_step.specs.Steps.{is_second}
use Rattle.line_step.specs.World.{link_of}
use Rattle.law_one_standing.specs.Standing.{HasOneStanding}
use Rattle.law_one_standing.proofs.RestLine.{node_there}
use Rattle.law_node_runs.specs.Connections.{IsFront}
use Rattle.node_run.specs.After.{way_of}
use Rattle.node_run.specs.Held.{Finding}
use Rattle.node_run.specs.State.{RunState}
use Rattle.law_running_line.specs.New.{IsNew, NumbersDiffer}
use Rattle.law_running_line.specs.Reading.{Reading, Strictly}
use Rattle.law_running_line.specs.Running.{Running, node_of, with_floor}
use Rattle.law_running_line.specs.RunSteps.{Asks, LetsBe, LetsGo, Moves as BoardMoves, RunSteps, RunsTo, asks, at_rest, given_up, goes_on, let_be, lets_be, lets_go, moves, turns}
use Rattle.law_running_line.specs.Stands.{AreInRelation, line_of, node_in}
use Rattle.law_running_line.specs.Timed.{AreRelated}
use Rattle.law_running_line.specs.Turns.{Comes, HasNone, IsAt, Meets, Turns}
use Rattle.law_running_line.specs.Waits.{had_above}
use Rattle.law_running_line.specs.Wire.{Coming, Has, Wire, asked_for, bytes_of, coming_to, end_at, has}
use Rattle.law_running_line.proofs.RunsOn.{TurnGoes, step_stands}
use Rattle.law_running_line.proofs.TurnShape.{nodes_are}
use Rattle.law_joined_nodes.specs.Does.{Does, FindsNoBytes, IsBeside, Makes, Taken, does_accept, does_connect, does_find, does_hear, does_nothing, does_step, end_found, none_found, same_found}
use Rattle.law_joined_nodes.specs.Joined.{AreTheirs, HaveBegun, IsStarted, Joined, NodeRun, machine_of, run_of, unspent, with_state}
use Rattle.law_joined_nodes.specs.Woven.{Calls, CanAnswer, ComeTo, FoundOn, IsOf, LetsGoRead, NodeMoves, TakesTurn, Weaves, WovenTo, at_rest as nothing_happens, board_moves, calls_above, calls_nobody, goes_on as and_then, goes_read, is_lost, node_moves}
use Rattle.law_joined_nodes.specs.Laws.{NodesRun, NodesStand}
use Rattle.law_joined_nodes.proofs.Further.{Further, WasThere, further_self, further_then, keeps_given_up, keeps_let_be, link_further, mapped_further, one_more, set_or_not}
use Rattle.law_joined_nodes.proofs.Turned.{place_further, turn_beside, turn_other}

-- ---- what was found of a neighbour and isn't taken yet comes still

abbrev pub HeldBy : ℕ → Side → Option (List ℕ) → Running → Type 0
HeldBy machine side None s = Unit {0}
HeldBy machine side (Some bytes) s = ComeTo machine side bytes s

abbrev pub Held : ℕ → Option Finding → Running → Type 0
Held machine None s = Unit {0}
Held machine (Some finding) s = HeldBy machine finding.side finding.bytes s

abbrev pub GoFurther : ℕ → Running → Running → Type 0
GoFurther machine s t = (side : Side) → Further side (s.wires (link_of machine side)) (t.wires (link_of machine side))

come_further : {machine : ℕ} {side : Side} {bytes : List ℕ} {s t : Running} → Further side (s.wires (link_of machine side)) (t.wires (link_of machine side)) → ComeTo machine side bytes s → ComeTo machine side bytes t
come_further {machine} {side} {bytes} {s} {t} further come = record { some = come.some; front = λ place wire there has_it. by place wire (further.each place wire there has_it) } where
  by : (place : ℕ) (wire : Wire) → WasThere side (s.wires (link_of machine side)) place wire → IsFront bytes (bytes_of (coming_to side wire))
  by place wire w = (let f : IsFront bytes (bytes_of (coming_to side w.old)) = come.front place w.old w.there w.goes.held in record {
    rest = f.rest ++ w.goes.more;
    parts = w.goes.is ∙ ap (λ (b : List ℕ). b ++ w.goes.more) f.parts ∙ append_assoc bytes f.rest w.goes.more;
  })

by_further : {machine : ℕ} (s t : Running) (side : Side) (bytes : Option (List ℕ)) → GoFurther machine s t → HeldBy machine side bytes s → HeldBy machine side bytes t
by_further s t side None further held = tt
by_further s t side (Some bytes) further held = come_further (further side) held

pub held_further : {machine : ℕ} (s t : Running) (finding : Option Finding) → GoFurther machine s t → Held machine finding s → Held machine finding t
held_further s t None further held = tt
held_further s t (Some finding) further held = by_further s t finding.side finding.bytes further held

-- ---- the nodes, their machines

got_machine : (runs : List NodeRun) (place : ℕ) (run : NodeRun) → slice_get runs place ≡ Some run → slice_get (map machine_of runs) place ≡ Some (machine_of run)
got_machine [] place run there = cc
got_machine (first ∷ runs) zero run there = cc
got_machine (first ∷ runs) (suc place) run there = got_machine runs place run there

pub machine_there : (machine : ℕ) (j : Joined) (run : NodeRun) → AreTheirs j → run_of machine j ≡ Some run → node_of machine j.line ≡ Some (machine_of run)
machine_there zero j run theirs there = cc
machine_there (suc place) j run theirs there = ap (λ (ms : List NodeState). slice_get ms place) theirs ∙ got_machine j.runs place run there

set_machine : (runs : List NodeRun) (place : ℕ) (run : NodeRun) → slice_set (map machine_of runs) place (machine_of run) ≡ map machine_of (slice_set runs place run)
set_machine [] place run = refl
set_machine (first ∷ runs) zero run = refl
set_machine (first ∷ runs) (suc place) run = ap (λ (ms : List NodeState). machine_of first ∷ ms) (set_machine runs place run)

pub some_machine : (machine : ℕ) (j : Joined) (run : NodeRun) → run_of machine j ≡ Some run → 1 ≤ machine
some_machine zero j run there = absurd (cc)
some_machine (suc place) j run there = omega arith

-- ---- what joined nodes keep

pub record Joins (reading : Reading) (j : Joined) : Type 0 where
  pub theirs : AreTheirs j
  pub related : AreRelated reading j.line
  pub found : (machine : ℕ) (run : NodeRun) → run_of machine j ≡ Some run → Held machine run.state.held.finding j.line

-- the relation of running machines goes on in each step
abbrev pub GoesOn : Reading → Type 0
GoesOn reading = (before after : Running) (acts : List Act) → RunSteps reading before acts after → AreRelated reading before → AreRelated reading after

-- what a step is to the running line: none, or one, a turn of this machine if the node of it made a move
pub data Came (reading : Reading) (machine : ℕ) (before : Running) : List Act → Running → Type 0 where
  came_none : Came reading machine before [] before
  came_asks : {above : ℕ} {after : Running} → Asks above before after → Came reading machine before [] after
  came_lost : {other : ℕ} {side : Side} {after : Running} → LetsBe other side before after → Came reading machine before [] after
  came_moved : {gap : ℕ} {step : Move} {after : Running} → BoardMoves reading gap step before after → Came reading machine before [] after
  came_turn : {input : Input} {moment : ℤ} {told : List Act} {after : Running} → Turns reading machine input moment before after told → Came reading machine before told after
  came_gone : {moment : ℤ} {told : List Act} {after : Running} → LetsGo reading machine moment before after told → Came reading machine before told after

-- a step
pub record StepsOn (reading : Reading) (machine : ℕ) (before after : Joined) (told : List Act) : Type 0 where
  pub came : Came reading machine before.line told after.line
  pub joins : Joins reading after

-- and several
pub record RunsBy (reading : Reading) (before after : Joined) (told : List Act) : Type 0 where
  pub runs : RunsTo reading before.line told after.line
  pub joins : Joins reading after

one_run : {reading : Reading} {before after : Running} {told : List Act} → RunSteps reading before told after → RunsTo reading before told after
one_run {reading} {before} {after} {told} step = subst (λ (acts : List Act). RunsTo reading before acts after) (append-nil told) (goes_on step at_rest)

came_runs : {reading : Reading} {machine : ℕ} {before after : Running} {told : List Act} → Came reading machine before told after → RunsTo reading before told after
came_runs came_none = at_rest
came_runs (came_asks a) = one_run (asks a)
came_runs (came_lost l) = one_run (lets_be l)
came_runs (came_moved m) = one_run (moves m)
came_runs (came_turn t) = one_run (turns t)
came_runs (came_gone g) = one_run (lets_go g)

came_related : {reading : Reading} {machine : ℕ} {before after : Running} {told : List Act} → GoesOn reading → AreRelated reading before → Came reading machine before told after → AreRelated reading after
came_related goes related came_none = related
came_related {before = before} goes related (came_asks {after = after} a) = goes before after [] (asks a) related
came_related {before = before} goes related (came_lost {after = after} l) = goes before after [] (lets_be l) related
came_related {before = before} goes related (came_moved {after = after} m) = goes before after [] (moves m) related
came_related {before = before} goes related (came_turn {told = told} {after = after} t) = goes before after told (turns t) related
came_related {before = before} goes related (came_gone {told = told} {after = after} g) = goes before after told (lets_go g) related

-- a node's run behind a step of a node is as it was, or it is that node's
pub run_behind : (machine : ℕ) (run : NodeRun) (next : RunState) (before after : Joined) → 1 ≤ machine → after.runs ≡ with_state machine run next before.runs → (k : ℕ) (r : NodeRun) → run_of k after ≡ Some r
    → ((k ≡ machine) × (next ≡ r.state)) ⊎ ((k ≢ machine) × (run_of k before ≡ Some r))
run_behind machine run next before after some is zero r there = absurd (cc)
run_behind machine run next before after some is (suc at) r there = by (set_or_not before.runs (machine - 1) new at r (sym (ap (λ (rs : List NodeRun). slice_get rs at) is) ∙ there)) where
  new : NodeRun
  new = record { rules = run.rules; state = next }

  by : ((at ≡ machine - 1) × (new ≡ r)) ⊎ ((at ≢ machine - 1) × (slice_get before.runs at ≡ Some r)) → ((suc at ≡ machine) × (next ≡ r.state)) ⊎ ((suc at ≢ machine) × (slice_get before.runs at ≡ Some r))
  by (inl own) = (let same : at ≡ machine - 1 = own.0 in inl (omega (arith, some, same), ap (λ (n : NodeRun). n.state) own.1))
  by (inr other) = inr ((λ same. other.0 (omega (arith, some, same))), other.1)

found_behind : (machine : ℕ) (run : NodeRun) (next : RunState) (before after : Joined) → 1 ≤ machine → after.runs ≡ with_state machine run next before.runs → ((k : ℕ) (r : NodeRun) → run_of k before ≡ Some r → Held k r.state.held.finding before.line)
    → ((k : ℕ) → 1 ≤ k → k ≢ machine → GoFurther k before.line after.line) → Held machine next.held.finding after.line → (k : ℕ) (r : NodeRun) → run_of k after ≡ Some r → Held k r.state.held.finding after.line
found_behind machine run next before after some is found further own k r there = by (run_behind machine run next before after some is k r there) where
  by : ((k ≡ machine) × (next ≡ r.state)) ⊎ ((k ≢ machine) × (run_of k before ≡ Some r)) → Held k r.state.held.finding after.line
  by (inl same) = subst (λ (n : ℕ). Held n r.state.held.finding after.line) (sym same.0) (subst (λ (s : RunState). Held machine s.held.finding after.line) same.1 own)
  by (inr other) = held_further before.line after.line r.state.held.finding (further k (some_machine k before r other.1) other.0) (found k r other.1)

-- ---- a call without a step

record CalledOn (reading : Reading) (machine : ℕ) (before after : Running) : Type 0 where
  came : Came reading machine before [] after
  machines : after.machines ≡ before.machines
  further : (side : Side) (l : ℕ) → Further side (before.wires l) (after.wires l)

asked_further : {above : ℕ} {before after : Running} → Asks above before after → (side : Side) (l : ℕ) → Further side (before.wires l) (after.wires l)
asked_further {above} {before} a side l =
    subst (λ (s : Running). Further side (before.wires l) (s.wires l)) (sym a.after_is)
    (link_further l above (λ (ws : List Wire). map (given_up Entry) ws ++ asked_for ∷ []) before (λ wires. further_then (mapped_further (keeps_given_up side) wires) (one_more side (map (given_up Entry) wires))))

called_on : {reading : Reading} {machine : ℕ} {given : List Given} {before after : Running} → Calls machine given before after → CalledOn reading machine before after
called_on (calls_above a) = record { came = came_asks a; machines = ap (λ (s : Running). s.machines) a.after_is; further = asked_further a }
called_on calls_nobody = record { came = came_none; machines = refl; further = λ side l. further_self }

-- ---- a step of the machine

pub makes_of : {moment : ℤ} {s t : RunState} {given : List Given} {taken : Taken} → Does moment s t given (Some taken) → Makes moment s t taken
makes_of (does_connect makes none) = makes
makes_of (does_accept makes none) = makes
makes_of (does_hear holds makes none) = makes
makes_of (does_step beside makes found) = makes

-- nothing looks at whether a machine has run out of memory
may_unspent : (node : NodeState) (input : Input) → may_of (unspent node) input ≡ may_of node input
may_unspent node inputs.Nothing = refl
may_unspent node input = refl

steps_unspent : {node next : NodeState} {read : List Sensed} {input : Input} {moment : ℤ} {told : List Act} → Steps node read input moment next told → Steps (unspent node) read input moment (unspent next) told
steps_unspent st = record {
  made = st.made;
  lane = st.lane;
  told = st.told;
  bridge = st.bridge;
  forecasts = st.forecasts;
  supervised = st.supervised;
  orders = st.orders;
  name = st.name;
  number = st.number;
  capacity = st.capacity;
}

-- bytes that came are a front of what comes
pub front_taken : (piece rest : List ℕ) (coming : List Coming) → bytes_of coming ≡ piece ++ rest → piece ≡ bytes_of (take (length piece) coming)
front_taken [] rest coming is = refl
front_taken (byte ∷ piece) rest [] is = absurd (cc)
front_taken (byte ∷ piece) rest (c ∷ coming) is =
    let first : byte ≡ c.byte = cc in
    let others : bytes_of coming ≡ piece ++ rest = cc in
    ap (λ (b : ℕ). b ∷ piece) first ∙ ap (λ (bs : List ℕ). c.byte ∷ bs) (front_taken piece rest coming others)

comes_of : {machine place : ℕ} {side : Side} {bytes : List ℕ} {s : Running} → IsAt machine side place Has s → ComeTo machine side bytes s → Comes machine side place bytes s
comes_of {machine} {place} {side} {bytes} {s} at come =
    let f : IsFront bytes (bytes_of (coming_to side at.wire)) = come.front place at.wire at.there at.held in
    record { at = at; some = come.some; front = front_taken bytes f.rest (coming_to side at.wire) f.parts }

beside_meets : (machine place : ℕ) (given : List Given) (s : Running) (input : Input) → IsBeside given input → IsOf machine input place s → Meets machine input place s
beside_meets machine place given s (inputs.Bytes side piece) beside of_it = absurd beside
beside_meets machine place given s inputs.Connect beside of_it = absurd beside
beside_meets machine place given s inputs.Accepted beside of_it = absurd beside
beside_meets machine place given s inputs.Second beside of_it = of_it
beside_meets machine place given s (inputs.Notice side) beside of_it = of_it
beside_meets machine place given s input beside of_it = tt

meets_of : {moment : ℤ} {s t : RunState} {given : List Given} {taken : Taken} (machine place : ℕ) (line : Running) → Does moment s t given (Some taken) → (taken.input ≡ inputs.Accepted → HasNone machine Exit line) → Held machine s.held.finding line
    → IsOf machine taken.input place line → Meets machine taken.input place line
meets_of machine place line (does_connect makes none) alone held of_it = of_it
meets_of machine place line (does_accept makes none) alone held of_it = (of_it, alone refl)
meets_of machine place line (does_hear holds makes none) alone held of_it = comes_of of_it (subst (λ (f : Option Finding). Held machine f line) holds held)
meets_of {given = given} {taken = taken} machine place line (does_step beside makes found) alone held of_it = beside_meets machine place given line taken.input beside of_it

abbrev turn_of : {reading : Reading} {machine : ℕ} {moment : ℤ} {s t : RunState} {given : List Given} {taken : Taken} {before after : Running} → Does moment s t given (Some taken) → node_of machine before ≡ Some (unspent s.node)
    → (taken.input ≡ inputs.Accepted → HasNone machine Exit before) → Held machine s.held.finding before → TakesTurn reading machine moment s t taken before after → Turns reading machine taken.input moment before after taken.told
turn_of {machine = machine} {s = s} {t = t} {taken = taken} {before = before} does there alone held takes = record {
  node = unspent s.node;
  next = unspent t.node;
  there = there;
  read = taken.read;
  rest = takes.rest;
  front = takes.front;
  place = takes.place;
  meets = meets_of machine takes.place before does alone held takes.of_it;
  in_time = takes.in_time;
  may = may_unspent s.node taken.input ∙ (makes_of does).may;
  moments = takes.moments;
  texts = (makes_of does).texts;
  steps = steps_unspent (makes_of does).steps;
  unspent = refl;
  after_is = takes.after_is;
}

-- an exit that can take a connection has none
closed_by : (opened : Bool) (why : No) → no_if opened why may_do ≡ may_do → opened ≡ false
closed_by true why may = absurd (cc)
closed_by false why may = refl

none_had : (wires : List Wire) → list_any had_above wires ≡ false → (place : ℕ) (wire : Wire) → slice_get wires place ≡ Some wire → has (end_at Exit wire) ≡ false
none_had [] none place wire there = absurd (cc)
none_had (first ∷ wires) none zero wire there = (let same : first ≡ wire = cc in ap (λ (w : Wire). has w.above) (sym same) ∙ (or_parts _ _ none).0)
none_had (first ∷ wires) none (suc place) wire there = none_had wires (or_parts _ _ none).1 place wire there

pub alone_of : {reading : Reading} (machine : ℕ) {node : NodeState} {s : Running} → AreRelated reading s → node_of machine s ≡ Some node → may_of node inputs.Accepted ≡ may_do → HasNone machine Exit s
alone_of {reading} machine {node} {s} related there may =
    let is : node_in s machine ≡ node = node_there machine (line_of s) node there in
    none_had (s.wires machine) ((related.stands.waits machine).exit_open ∙ ap (λ (n : NodeState). is_open Exit n.lane.body) is ∙ closed_by (is_open Exit node.lane.body) no.Connected may)

-- ---- what is found behind a move of its own node

found_then : {machine : ℕ} {s t : RunState} (before after : Running) → FindsNoBytes s t → GoFurther machine before after → Held machine s.held.finding before → Held machine t.held.finding after
found_then {machine} {s} {t} before after (same_found is) further held = subst (λ (f : Option Finding). Held machine f after) (sym is) (held_further before after s.held.finding further held)
found_then {machine} before after (none_found is) further held = subst (λ (f : Option Finding). Held machine f after) (sym is) tt
found_then {machine} before after (end_found side is) further held = subst (λ (f : Option Finding). Held machine f after) (sym is) tt

found_at : {machine : ℕ} {line : Running} (side : Side) (bytes : List ℕ) → FoundOn machine (way_of side) (founds.Bytes bytes) line → ComeTo machine side bytes line
found_at Entry bytes found = found
found_at Exit bytes found = found

plain_held : {moment : ℤ} {s t : RunState} {given : List Given} {machine : ℕ} (before after : Running) → Does moment s t given None → CanAnswer machine given before → GoFurther machine before after → Held machine s.held.finding before → Held machine t.held.finding after
plain_held before after (does_nothing same found) can further held = found_then before after found further held
plain_held {machine = machine} before after (does_find {side} {bytes} same holds) can further held =
    subst (λ (f : Option Finding). Held machine f after) (sym holds) (come_further (further side) (found_at side bytes can))

turned_held : {reading : Reading} {moment : ℤ} {s t : RunState} {given : List Given} {taken : Taken} {machine : ℕ} {before after : Running} → Does moment s t given (Some taken) → TakesTurn reading machine moment s t taken before after → Held machine s.held.finding before
    → Held machine t.held.finding after
turned_held {machine = machine} {after = after} (does_connect makes none) takes held = subst (λ (f : Option Finding). Held machine f after) (sym none) tt
turned_held {machine = machine} {after = after} (does_accept makes none) takes held = subst (λ (f : Option Finding). Held machine f after) (sym none) tt
turned_held {machine = machine} {after = after} (does_hear holds makes none) takes held = subst (λ (f : Option Finding). Held machine f after) (sym none) tt
turned_held {t = t} {given = given} {taken = taken} {machine = machine} {before = before} {after = after} (does_step beside makes found) takes held =
    found_then before after found (λ side. subst (λ (s : Running). Further side (before.wires (link_of machine side)) (s.wires (link_of machine side))) (sym takes.after_is)
    (turn_beside side (link_of machine side) machine given taken.input takes.place (is_second taken.input) (unspent t.node) taken.read takes.rest taken.told before beside)) held

others_further : {reading : Reading} {moment : ℤ} {s t : RunState} {taken : Taken} {machine : ℕ} {before after : Running} → 1 ≤ machine → TakesTurn reading machine moment s t taken before after → (k : ℕ) → 1 ≤ k → k ≢ machine → GoFurther k before after
others_further {t = t} {taken = taken} {machine = machine} {before = before} some takes k counted apart side =
    subst (λ (s : Running). Further side (before.wires (link_of k side)) (s.wires (link_of k side))) (sym takes.after_is)
    (turn_other side machine k taken.input takes.place (is_second taken.input) (unspent t.node) taken.read takes.rest taken.told before some counted apart)

-- ---- A MOVE

-- the machines behind it
theirs_set : (machine : ℕ) (run : NodeRun) (next : RunState) (before after : Joined) → AreTheirs before → after.runs ≡ with_state machine run next before.runs → after.line.machines ≡ slice_set before.line.machines (machine - 1) (unspent next.node) → AreTheirs after
theirs_set machine run next before after theirs is machines =
    machines ∙ ap (λ (ms : List NodeState). slice_set ms (machine - 1) (unspent next.node)) theirs ∙ set_machine before.runs (machine - 1) (record { rules = run.rules; state = next }) ∙ ap (map machine_of) (sym is)

set_same : (machines : List NodeState) (place : ℕ) (node : NodeState) → slice_get machines place ≡ Some node → slice_set machines place node ≡ machines
set_same [] place node there = refl
set_same (first ∷ machines) zero node there = (let same : first ≡ node = cc in ap (λ (n : NodeState). n ∷ machines) (sym same))
set_same (first ∷ machines) (suc place) node there = ap (λ (ms : List NodeState). first ∷ ms) (set_same machines place node there)

set_own : (machine : ℕ) (s : Running) (node : NodeState) → node_of machine s ≡ Some node → slice_set s.machines (machine - 1) node ≡ s.machines
set_own zero s node there = absurd (cc)
set_own (suc place) s node there = (let is : suc place - 1 ≡ place = omega arith in ap (λ (p : ℕ). slice_set s.machines p node) is ∙ set_same s.machines place node there)

pub still_node : {moment : ℤ} {s t : RunState} {given : List Given} → Does moment s t given None → t.node ≡ s.node
still_node (does_nothing same found) = same
still_node (does_find same holds) = same

plain_step : {reading : Reading} {machine : ℕ} {before after : Joined} {told : List Act} → GoesOn reading → Joins reading before → NodeMoves reading machine None before after told → StepsOn reading machine before after told
plain_step {reading} {machine} {before} {after} {told} goes joins m =
    let called : CalledOn reading machine before.line after.line = called_on m.takes.0 in
    let came : Came reading machine before.line told after.line = subst (λ (acts : List Act). Came reading machine before.line acts after.line) (sym m.takes.1) called.came in
    let some : 1 ≤ machine = some_machine machine before m.run m.there in
    let there : node_of machine before.line ≡ Some (machine_of m.run) = machine_there machine before m.run joins.theirs m.there in
    record {
      came = came;
      joins = record {
        theirs = theirs_set machine m.run m.next before after joins.theirs m.after_is
            (called.machines ∙ sym (set_own machine before.line (machine_of m.run) there) ∙ ap (λ (n : NodeState). slice_set before.line.machines (machine - 1) (unspent n)) (sym (still_node m.does)));
        related = came_related goes joins.related came;
        found = found_behind machine m.run m.next before after some m.after_is joins.found (λ k counted apart side. called.further side (link_of k side))
            (plain_held before.line after.line m.does m.answers (λ side. called.further side (link_of machine side)) (joins.found machine m.run m.there));
      };
    }

turned_step : {reading : Reading} {machine : ℕ} {taken : Taken} {before after : Joined} {told : List Act} → GoesOn reading → Joins reading before → NodeMoves reading machine (Some taken) before after told → StepsOn reading machine before after told
turned_step {reading} {machine} {taken} {before} {after} {told} goes joins m =
    let some : 1 ≤ machine = some_machine machine before m.run m.there in
    let there : node_of machine before.line ≡ Some (machine_of m.run) = machine_there machine before m.run joins.theirs m.there in
    let held : Held machine m.run.state.held.finding before.line = joins.found machine m.run m.there in
    let turn : Turns reading machine taken.input m.moment before.line after.line taken.told = turn_of m.does there
    (λ is. alone_of machine joins.related there (ap (may_of (machine_of m.run)) (sym is) ∙ may_unspent m.run.state.node taken.input ∙ (makes_of m.does).may)) held m.takes.0 in
    let came : Came reading machine before.line told after.line = subst (λ (acts : List Act). Came reading machine before.line acts after.line) (sym m.takes.1) (came_turn turn) in
    record {
      came = came;
      joins = record {
        theirs = theirs_set machine m.run m.next before after joins.theirs m.after_is (nodes_are turn);
        related = came_related goes joins.related came;
        found = found_behind machine m.run m.next before after some m.after_is joins.found (others_further some m.takes.0) (turned_held m.does m.takes.0 held);
      };
    }

pub move_step : {reading : Reading} {machine : ℕ} (taken : Option Taken) {before after : Joined} {told : List Act} → GoesOn reading → Joins reading before → NodeMoves reading machine taken before after told → StepsOn reading machine before after told
move_step None goes joins m = plain_step goes joins m
move_step (Some taken) goes joins m = turned_step goes joins m

-- ---- A STEP without a move: no run changes

aside_step : {reading : Reading} {machine : ℕ} {before after : Joined} {told : List Act} → GoesOn reading → Joins reading before → Came reading machine before.line told after.line → after.runs ≡ before.runs → after.line.machines ≡ before.line.machines
    → ((side : Side) (l : ℕ) → Further side (before.line.wires l) (after.line.wires l)) → StepsOn reading machine before after told
aside_step {reading} {machine} {before} {after} {told} goes joins came same machines further = record {
  came = came;
  joins = record {
    theirs = machines ∙ joins.theirs ∙ ap (map machine_of) (sym same);
    related = came_related goes joins.related came;
    found = λ k run there. held_further before.line after.line run.state.held.finding (λ side. further side (link_of k side)) (joins.found k run (was k run there));
  };
} where
  was : (k : ℕ) (run : NodeRun) → run_of k after ≡ Some run → run_of k before ≡ Some run
  was zero run there = there
  was (suc place) run there = ap (λ (rs : List NodeRun). slice_get rs place) (sym same) ∙ there

lost_further : {machine : ℕ} {side : Side} {before after : Running} → LetsBe machine side before after → (at : Side) (l : ℕ) → Further at (before.wires l) (after.wires l)
lost_further {machine} {side} {before} l at link =
    subst (λ (s : Running). Further at (before.wires link) (s.wires link)) (sym l.after_is) (place_further link (link_of machine side) l.place (let_be side) before (keeps_let_be at side))

floor_further : (before : Running) {after : Running} (floor : FloorPlan) → after ≡ with_floor floor before → (at : Side) (l : ℕ) → Further at (before.wires l) (after.wires l)
floor_further before floor is at l = subst (λ (s : Running). Further at (before.wires l) (s.wires l)) (sym is) further_self

-- ---- a board is let go

pub go_step : {reading : Reading} {gap : ℕ} {taken : Taken} {before after : Joined} {told : List Act} → GoesOn reading → Joins reading before → LetsGoRead reading gap taken before after told → StepsOn reading gap before after told
go_step {reading} {gap} {taken} {before} {after} {told} goes joins g =
    let m = g.moves in
    let mid : Joined = record before { line = with_floor g.floor before.line } in
    let some : 1 ≤ gap = some_machine gap before g.run g.there in
    let there : node_of gap before.line ≡ Some (machine_of m.run) = machine_there gap mid m.run joins.theirs m.there in
    let go_found : (k : ℕ) (r : NodeRun) → run_of k before ≡ Some r → Held k r.state.held.finding mid.line = λ k r is. held_further before.line mid.line r.state.held.finding (λ side. further_self) (joins.found k r is) in
    let held : Held gap m.run.state.held.finding mid.line = go_found gap m.run m.there in
    let turn : Turns reading gap taken.input m.moment mid.line after.line taken.told = turn_of m.does there (λ is. absurd (nothing_accepts (sym g.plain ∙ is))) held m.takes.0 in
    let plain : Turns reading gap inputs.Nothing m.moment mid.line after.line told =
    subst (λ (acts : List Act). Turns reading gap inputs.Nothing m.moment mid.line after.line acts) (sym m.takes.1) (subst (λ (input : Input). Turns reading gap input m.moment mid.line after.line taken.told) g.plain turn) in
    let came : Came reading gap before.line told after.line = came_gone {moment = m.moment} (record {
      above = machine_of g.run;
      there = machine_there gap before g.run joins.theirs g.there;
      board = g.board;
      waits = g.waits;
      read = g.read;
      floor = g.floor;
      begins = g.begins;
      turns = plain;
      reads = g.reads;
    }) in
    record {
      came = came;
      joins = record {
        theirs = theirs_set gap m.run m.next mid after joins.theirs m.after_is (nodes_are turn);
        related = came_related goes joins.related came;
        found = found_behind gap m.run m.next mid after some m.after_is go_found (others_further some m.takes.0) (turned_held m.does m.takes.0 held);
      };
    }
  where
    nothing_accepts : inputs.Nothing ≡ inputs.Accepted → ⊥
    nothing_accepts is = cc

-- ---- ALL OF IT

pub lost_step : {reading : Reading} {machine : ℕ} {side : Side} {before after : Joined} → GoesOn reading → Joins reading before → LetsBe machine side before.line after.line → after.runs ≡ before.runs → StepsOn reading machine before after []
lost_step goes joins l same = aside_step goes joins (came_lost l) same (ap (λ (s : Running). s.machines) l.after_is) (lost_further l)

pub board_step : {reading : Reading} {gap : ℕ} {step : Move} {before after : Joined} → GoesOn reading → Joins reading before → BoardMoves reading gap step before.line after.line → after.runs ≡ before.runs → StepsOn reading gap before after []
board_step {before = before} goes joins m same = aside_step goes joins (came_moved m) same (ap (λ (s : Running). s.machines) m.after_is) (floor_further before.line m.floor m.after_is)

of_step : {reading : Reading} {machine : ℕ} {before after : Joined} {told : List Act} → StepsOn reading machine before after told → RunsBy reading before after told
of_step on = record { runs = came_runs on.came; joins = on.joins }

weave_step : {reading : Reading} {before after : Joined} {told : List Act} → GoesOn reading → Joins reading before → Weaves reading before told after → RunsBy reading before after told
weave_step goes joins (node_moves {taken = taken} m) = of_step (move_step taken goes joins m)
weave_step goes joins (is_lost l same) = of_step (lost_step goes joins l same)
weave_step goes joins (board_moves m same) = of_step (board_step goes joins m same)
weave_step goes joins (goes_read g) = of_step (go_step goes joins g)

runs_join : {reading : Reading} {s t u : Running} {first later : List Act} → RunsTo reading s first t → RunsTo reading t later u → RunsTo reading s (first ++ later) u
runs_join at_rest next = next
runs_join {reading} {s} {u = u} {later = later} (goes_on {first = one} {later = more} step others) next =
    subst (λ (acts : List Act). RunsTo reading s acts u) (sym (append_assoc one more later)) (goes_on step (runs_join others next))

pub woven_runs : {reading : Reading} {s u : Joined} {told : List Act} → GoesOn reading → Joins reading s → WovenTo reading s told u → RunsBy reading s u told
woven_runs goes joins nothing_happens = record { runs = at_rest; joins = joins }
woven_runs goes joins (and_then first later) =
    let one = weave_step goes joins first in
    let others = woven_runs goes one.joins later in
    record { runs = runs_join one.runs others.runs; joins = others.joins }

-- nothing was found as they begin
pub started_at : (runs : List NodeRun) (place : ℕ) (run : NodeRun) → slice_get runs place ≡ Some run → AllByRecursion IsStarted runs → IsStarted run
started_at [] place run there all = absurd (cc)
started_at (first ∷ runs) zero run there all = (let same : first ≡ run = cc in subst IsStarted same all.0)
started_at (first ∷ runs) (suc place) run there all = started_at runs place run there all.1

none_found_yet : (machine : ℕ) (j : Joined) (run : NodeRun) → AllByRecursion IsStarted j.runs → run_of machine j ≡ Some run → run.state.held.finding ≡ None
none_found_yet zero j run all there = absurd (cc)
none_found_yet (suc place) j run all there = ap (λ (s : RunState). s.held.finding) (started_at j.runs place run there all).is

pub begun_joins : {reading : Reading} (j : Joined) → HaveBegun j → AreRelated reading j.line → Joins reading j
begun_joins {reading} j begun related = record {
  theirs = begun.theirs;
  related = related;
  found = λ machine run there. subst (λ (f : Option Finding). Held machine f j.line) (sym (none_found_yet machine j run begun.runs there)) tt;
}

-- ---- the readings

pub first_goes : TurnGoes → GoesOn Strictly
first_goes goes before after acts step r = (let next : AreInRelation after = step_stands goes step (record { trace = r.trace; stands = r.stands }) in record { trace = next.trace; stands = next.stands; kept = tt })

pub nodes_run : {reading : Reading} → GoesOn reading → ((s : Running) → IsNew s → NumbersDiffer s → AreRelated reading s) → NodesRun reading
nodes_run goes new s u told begun woven =
    let to : RunsBy _ s u told = woven_runs goes (begun_joins s begun (new s.line begun.new begun.differ)) woven in
    record { runs = to.runs; theirs = to.joins.theirs }

pub nodes_stand : {reading : Reading} → GoesOn reading → ((s : Running) → IsNew s → NumbersDiffer s → AreRelated reading s) → ((s : Running) → AreInRelation s → HasOneStanding (line_of s)) → NodesStand reading
nodes_stand goes new stands s u told begun woven =
    let to : RunsBy _ s u told = woven_runs goes (begun_joins s begun (new s.line begun.new begun.differ)) woven in
    stands u.line (record { trace = to.joins.related.trace; stands = to.joins.related.stands })
