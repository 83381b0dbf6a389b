-- WHAT A TURN LEAVES, part by part: its machine is as its step left it, the floor as its acts say, and all others as before.
use Rattle.std.proofs.Common.{Bool, List, Some, [], ap, arith, false, inl, inr, length, length-set, map, refl, slice_get, slice_set, subst, suc, sym, true, zero, ℕ, ℤ, ◌&&◌, ◌+◌, ◌-◌, ◌∙◌, ◌∷◌, ◌≡◌, ◌≢◌, ◌≤◌, ◌⊎◌}
use Rattle.std.specs.Prelude.{cond, nat_eq, nat_le, nat_lt, slice_index_or}
use Rattle.line_step.proofs.Changing.{node_other}
use Rattle.line_base.specs.declared.states.Side.{Side}
use Rattle.line_base.specs.declared.states.Side.TheVariants.{Entry, Exit}
use Rattle.board_record.specs.Maker.{Maker, made_id}
use Rattle.hermes_horizontal.specs.Canonical.{canonical}
use Rattle.hermes_horizontal.specs.declared.message.Message.{Message}
use Rattle.line_world.specs.FloorPlan.{with_unread}
use Rattle.node_core.specs.Event.{maker_after}
use Rattle.node_core.specs.Node.{NodeState}
use Rattle.node_core.specs.declared.act.Act.{Act}
use Rattle.node_core.specs.declared.act.Act.TheVariants as acts
use Rattle.node_core.specs.declared.input.Input.{Input}
use Rattle.node_core.specs.declared.input.Input.TheVariants as inputs
use Rattle.law_custody.specs.Words.{events_at}
use Rattle.line_step.specs.Acts.{acts_did as line_acts, answers}
use Rattle.line_step.specs.Numbered.{no_node, node_at}
use Rattle.line_step.specs.Reasons.{has_link}
use Rattle.line_step.specs.State.{LineState, machine_in, with_machine}
use Rattle.line_step.specs.Steps.{is_second}
use Rattle.line_step.specs.World.{link_of}
use Rattle.line_step.proofs.Numbers.{machine_set_other, machine_set_own, machine_within, same_or_not}
use Rattle.law_one_standing.proofs.RestLine.{node_there}
use Rattle.law_one_standing.proofs.Mirroring.{same_some}
use Rattle.law_running_line.specs.New.{NumbersDiffer}
use Rattle.law_running_line.specs.Reading.{Reading}
use Rattle.law_running_line.specs.Running.{Running, at_place, count_beyond, node_of, with_floor, with_node, with_reading, with_wires}
use Rattle.law_running_line.specs.Stands.{IsMade, line_of, node_in}
use Rattle.law_running_line.specs.Turns.{Turns, act_did, answered, did, met, sent_by}
use Rattle.law_running_line.specs.Wire.{Has, Left, Wire, given, left, read_at, said, text_behind, with_end}
use Rattle.law_running_line.proofs.TurnFloor.{did_floor, did_nodes, floor_world, met_floor, met_nodes}

-- ---- machines and floor

abbrev pub start_of : {reading : Reading} {machine : ℕ} {input : Input} {moment : ℤ} {before after : Running} {told : List Act} → Turns reading machine input moment before after told → Running
start_of {machine = machine} {input = input} {before = before} turn = met machine input turn.place (with_node machine turn.next (with_reading machine turn.read turn.rest before))

pub floor_is : {reading : Reading} {machine : ℕ} {input : Input} {moment : ℤ} {before after : Running} {told : List Act} (turn : Turns reading machine input moment before after told)
    → after.floor ≡ (line_acts (is_second input) machine told (floor_world (with_unread before.floor machine turn.rest))).world.floor
floor_is {machine = machine} {input = input} {before = before} {told = told} turn =
    ap (λ (s : Running). s.floor) turn.after_is
    ∙ did_floor (is_second input) machine turn.place told (start_of turn) (floor_world (with_unread before.floor machine turn.rest))
    (met_floor machine input turn.place (with_node machine turn.next (with_reading machine turn.read turn.rest before)))

pub nodes_are : {reading : Reading} {machine : ℕ} {input : Input} {moment : ℤ} {before after : Running} {told : List Act} (turn : Turns reading machine input moment before after told)
    → after.machines ≡ slice_set before.machines (machine - 1) turn.next
nodes_are {machine = machine} {input = input} {before = before} {told = told} turn =
    ap (λ (s : Running). s.machines) turn.after_is
    ∙ did_nodes (is_second input) machine turn.place told (start_of turn)
    ∙ met_nodes machine input turn.place (with_node machine turn.next (with_reading machine turn.read turn.rest before))

-- by number
node_by : (a b : LineState) → a.machines ≡ b.machines → (k : ℕ) → node_at a k ≡ node_at b k
node_by a b is zero = refl
node_by a b is (suc place) = ap (λ (ms : List NodeState). slice_index_or ms place no_node) is

in_by : (a b : LineState) → a.machines ≡ b.machines → (k : ℕ) → machine_in k a ≡ machine_in k b
in_by a b is zero = refl
in_by a b is (suc place) = ap (λ (ms : List NodeState). slice_get ms place) is

abbrev with_next : {reading : Reading} {machine : ℕ} {input : Input} {moment : ℤ} {before after : Running} {told : List Act} → Turns reading machine input moment before after told → LineState
with_next {machine = machine} {before = before} turn = with_machine machine turn.next (line_of before)

pub next_there : {reading : Reading} {machine : ℕ} {input : Input} {moment : ℤ} {before after : Running} {told : List Act} (turn : Turns reading machine input moment before after told) → node_in after machine ≡ turn.next
next_there {machine = machine} {before = before} {after = after} turn =
    node_by (line_of after) (with_next turn) (nodes_are turn) machine ∙ node_there machine (with_next turn) turn.next (machine_set_own machine (line_of before) turn.node turn.next turn.there)

pub other_nodes : {reading : Reading} {machine : ℕ} {input : Input} {moment : ℤ} {before after : Running} {told : List Act} (turn : Turns reading machine input moment before after told) (k : ℕ) → k ≢ machine → node_in after k ≡ node_in before k
other_nodes {machine = machine} {before = before} {after = after} turn k apart =
    node_by (line_of after) (with_next turn) (nodes_are turn) k ∙ node_other machine turn.next (line_of before) k (machine_within machine (line_of before) turn.node turn.there).0 apart

pub own_node : {reading : Reading} {machine : ℕ} {input : Input} {moment : ℤ} {before after : Running} {told : List Act} (turn : Turns reading machine input moment before after told) → node_in before machine ≡ turn.node
own_node {machine = machine} {before = before} turn = node_there machine (line_of before) turn.node turn.there

pub next_in : {reading : Reading} {machine : ℕ} {input : Input} {moment : ℤ} {before after : Running} {told : List Act} (turn : Turns reading machine input moment before after told) → node_of machine after ≡ Some turn.next
next_in {machine = machine} {before = before} {after = after} turn =
    in_by (line_of after) (with_next turn) (nodes_are turn) machine ∙ machine_set_own machine (line_of before) turn.node turn.next turn.there

pub other_in : {reading : Reading} {machine : ℕ} {input : Input} {moment : ℤ} {before after : Running} {told : List Act} (turn : Turns reading machine input moment before after told) (k : ℕ) → k ≢ machine → node_of k after ≡ node_of k before
other_in {machine = machine} {before = before} {after = after} turn k apart =
    in_by (line_of after) (with_next turn) (nodes_are turn) k ∙ machine_set_other machine k (line_of before) turn.next (machine_within machine (line_of before) turn.node turn.there).0 apart

pub many_nodes : {reading : Reading} {machine : ℕ} {input : Input} {moment : ℤ} {before after : Running} {told : List Act} → Turns reading machine input moment before after told → length after.machines ≡ length before.machines
many_nodes {machine = machine} {before = before} turn = ap (λ (ms : List NodeState). length ms) (nodes_are turn) ∙ length-set before.machines (machine - 1) turn.next

pub links_stay : {reading : Reading} {machine : ℕ} {input : Input} {moment : ℤ} {before after : Running} {told : List Act} → Turns reading machine input moment before after told → (link : ℕ) → has_link link (line_of after) ≡ has_link link (line_of before)
links_stay turn link = ap (λ (count : ℕ). nat_le 1 link && nat_lt link count) (many_nodes turn)

-- ---- no two machines make ids under one number

-- a machine that is there was there, with the same number
record WasThere (s : Running) (k : ℕ) (node : NodeState) : Type 0 where
  was : NodeState
  there : node_of k s ≡ Some was
  same : was.maker.machine ≡ node.maker.machine

full_stays : (test : Bool) (maker : Maker) → (cond test maker (record maker { used = maker.used + 1 })).machine ≡ maker.machine
full_stays true maker = refl
full_stays false maker = refl

number_stays : (input : Input) (maker : Maker) → (maker_after input maker).machine ≡ maker.machine
number_stays (inputs.Insert barcode) maker = full_stays (nat_le 281474976710655 maker.used) maker
number_stays (inputs.Replace id) maker = full_stays (nat_le 281474976710655 maker.used) maker
number_stays input maker = refl

was_there : {reading : Reading} {machine : ℕ} {input : Input} {moment : ℤ} {before after : Running} {told : List Act} (turn : Turns reading machine input moment before after told) (k : ℕ) (node : NodeState) → node_of k after ≡ Some node
    → (k ≡ machine) ⊎ (k ≢ machine) → WasThere before k node
was_there {machine = machine} {input = input} {before = before} {after = after} turn k node there (inl is) =
    let now : machine_in machine (with_next turn) ≡ Some turn.next = machine_set_own machine (line_of before) turn.node turn.next turn.there in
    let here : node_of machine after ≡ Some node = subst (λ (n : ℕ). node_of n after ≡ Some node) is there in
    let same : turn.next ≡ node = same_some (sym now ∙ sym (in_by (line_of after) (with_next turn) (nodes_are turn) machine) ∙ here) in
    subst (λ (n : ℕ). WasThere before n node) (sym is) (record {
      was = turn.node;
      there = turn.there;
      same = sym (number_stays input turn.node.maker) ∙ ap (λ (m : Maker). m.machine) (sym turn.steps.lane.made) ∙ ap (λ (n : NodeState). n.maker.machine) same;
    })
was_there {machine = machine} {before = before} {after = after} turn k node there (inr apart) = record {
  was = node;
  there = sym (in_by (line_of after) (with_next turn) (nodes_are turn) k ∙ machine_set_other machine k (line_of before) turn.next (machine_within machine (line_of before) turn.node turn.there).0 apart) ∙ there;
  same = refl;
}

pub numbers_differ : {reading : Reading} {machine : ℕ} {input : Input} {moment : ℤ} {before after : Running} {told : List Act} → Turns reading machine input moment before after told → NumbersDiffer before → NumbersDiffer after
numbers_differ {machine = machine} turn differ = record {
  apart = λ one other node next first then same. (
      let a = was_there turn one node first (same_or_not one machine) in
      let b = was_there turn other next then (same_or_not other machine) in
      differ.apart one other a.was b.was a.there b.there (a.same ∙ same ∙ sym b.same));
}

-- ---- what was made stays made

full_more : (test : Bool) (maker : Maker) → maker.used ≤ (cond test maker (record maker { used = maker.used + 1 })).used
full_more true maker = omega arith
full_more false maker = omega arith

used_more : (input : Input) (maker : Maker) → maker.used ≤ (maker_after input maker).used
used_more (inputs.Insert barcode) maker = full_more (nat_le 281474976710655 maker.used) maker
used_more (inputs.Replace id) maker = full_more (nat_le 281474976710655 maker.used) maker
used_more input maker = omega arith

pub made_then : {reading : Reading} {machine : ℕ} {input : Input} {moment : ℤ} {before after : Running} {told : List Act} (turn : Turns reading machine input moment before after told) (id : ℕ) → IsMade before id → IsMade after id
made_then {machine = machine} {input = input} {before = before} {after = after} turn id m = by (same_or_not m.machine machine)
  where
    by : (m.machine ≡ machine) ⊎ (m.machine ≢ machine) → IsMade after id
    by (inl is) =
        let own : m.node ≡ turn.node = same_some (sym m.there ∙ ap (λ (k : ℕ). node_of k before) is ∙ turn.there) in
        let most : m.count ≤ turn.node.maker.used = subst (λ (n : NodeState). m.count ≤ n.maker.used) own m.used in
        let more : turn.node.maker.used ≤ turn.next.maker.used = subst (λ (k : Maker). turn.node.maker.used ≤ k.used) (sym turn.steps.lane.made) (used_more input turn.node.maker) in
        let number : turn.node.maker.machine ≡ turn.next.maker.machine = sym (number_stays input turn.node.maker) ∙ ap (λ (k : Maker). k.machine) (sym turn.steps.lane.made) in
        record {
          machine = machine;
          node = turn.next;
          there = next_in turn;
          count = m.count;
          used = omega (arith, most, more);
          small = m.small;
          is = m.is ∙ ap (λ (n : NodeState). made_id n.maker.machine m.count) own ∙ ap (λ (k : ℕ). made_id k m.count) number;
        }
    by (inr apart) = record { machine = m.machine; node = m.node; there = other_in turn m.machine apart ∙ m.there; count = m.count; used = m.used; small = m.small; is = m.is }

-- ---- where there are no connections there are none behind the turn

none_by : (test : Bool) (change : List Wire → List Wire) (wires : List Wire) → wires ≡ [] → change [] ≡ [] → cond test (change wires) wires ≡ []
none_by true change wires none stays = ap change none ∙ stays
none_by false change wires none stays = none

none_with : (link k : ℕ) (change : List Wire → List Wire) (s : Running) → s.wires k ≡ [] → change [] ≡ [] → (with_wires link change s).wires k ≡ []
none_with link k change s none stays = none_by (nat_eq k link) change (s.wires k) none stays

sent_none : (answer : Bool) (machine place : ℕ) (side : Side) (message : Message) (s : Running) (k : ℕ) → s.wires k ≡ [] → (sent_by answer machine place side message s).wires k ≡ []
sent_none true machine place side message s k none = none_with machine k (at_place place (answered (text_behind (count_beyond machine Exit s) (canonical message)))) s none refl
sent_none false machine place side message s k none = none_with (link_of machine side) k (map (said side (text_behind (count_beyond machine side s) (canonical message)))) s none refl

act_none : (second : Bool) (machine place : ℕ) (act : Act) (s : Running) (k : ℕ) → s.wires k ≡ [] → (act_did second machine place act s).wires k ≡ []
act_none second machine place (acts.Sends side message) s k none = sent_none (answers second side message) machine place side message s k none
act_none second machine place (acts.Closes side) s k none = none_with (link_of machine side) k (map (left side)) s none refl
act_none second machine place (acts.Notices side) s k none = none_with (link_of machine side) k (map (left side)) s none refl
act_none second machine place act s k none = none

acts_none : (second : Bool) (machine place : ℕ) (told : List Act) (s : Running) (k : ℕ) → s.wires k ≡ [] → (did second machine place told s).wires k ≡ []
acts_none second machine place [] s k none = none
acts_none second machine place (act ∷ others) s k none = acts_none second machine place others (act_did second machine place act s) k (act_none second machine place act s k none)

met_none : (machine : ℕ) (input : Input) (place : ℕ) (s : Running) (k : ℕ) → s.wires k ≡ [] → (met machine input place s).wires k ≡ []
met_none machine (inputs.Bytes side piece) place s k none = none_with (link_of machine side) k (at_place place (given side (length piece.now))) s none refl
met_none machine inputs.Connect place s k none = none_with (link_of machine Entry) k (at_place place (with_end Entry Has)) s none refl
met_none machine inputs.Accepted place s k none = none_with (link_of machine Exit) k (at_place place (with_end Exit Has)) s none refl
met_none machine inputs.Second place s k none = none_with (link_of machine Exit) k (at_place place (with_end Exit Left)) s none refl
met_none machine input place s k none = none

pub none_then : {reading : Reading} {machine : ℕ} {input : Input} {moment : ℤ} {before after : Running} {told : List Act} (turn : Turns reading machine input moment before after told) (k : ℕ) → before.wires k ≡ [] → after.wires k ≡ []
none_then {machine = machine} {input = input} {before = before} {told = told} turn k none =
    let first : Running = with_floor (with_unread before.floor machine turn.rest) before in
    let entry : List Wire → List Wire = map (read_at Entry (length (events_at Entry turn.read))) in
    let exit : List Wire → List Wire = map (read_at Exit (length (events_at Exit turn.read))) in
    let one : (with_reading machine turn.read turn.rest before).wires k ≡ [] = none_with (link_of machine Exit) k exit (with_wires (link_of machine Entry) entry first) (none_with (link_of machine Entry) k entry first none refl) refl in
    ap (λ (s : Running). s.wires k) turn.after_is ∙ acts_none (is_second input) machine turn.place told (start_of turn) k (met_none machine input turn.place (with_node machine turn.next (with_reading machine turn.read turn.rest before)) k one)
