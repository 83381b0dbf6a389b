-- BEHIND A TURN all that comes on the connections of its machine's two links is timed still.
use Rattle.std.proofs.Common.{Bool, List, ap, arith, length, length-append, map, refl, subst, sym, true, ℕ, ℤ, ◌++◌, ◌+◌, ◌-◌, ◌∙◌, ◌∷◌, ◌≡◌}
use Rattle.std.specs.List.{AllByRecursion}
use Rattle.law_running_line.proofs.TurnShape.{start_of}
use Rattle.law_one_standing.proofs.Counting.{across}
use Rattle.line_base.specs.declared.states.SensorEvent.{SensorEvent}
use Rattle.line_base.specs.declared.states.Side.{Side}
use Rattle.line_base.specs.declared.states.Side.TheVariants.{Entry, Exit}
use Rattle.node_core.specs.Node.{NodeState}
use Rattle.node_core.specs.Sides.{is_open}
use Rattle.node_core.specs.declared.act.Act.{Act}
use Rattle.node_core.specs.declared.input.Input.{Input}
use Rattle.law_custody.specs.Words.{events_at}
use Rattle.line_step.specs.Steps.{is_second}
use Rattle.line_step.specs.World.{link_of}
use Rattle.law_running_line.specs.Reading.{Reading}
use Rattle.law_running_line.specs.Running.{Running, at_place, count_beyond, count_unread, unread_by, with_node, with_reading, with_wires}
use Rattle.law_running_line.specs.Timed.{IsTimed}
use Rattle.law_running_line.specs.Turns.{Turns}
use Rattle.law_running_line.specs.Wire.{Coming, Has, Hold, Wire, coming_to, read_at, with_read}
use Rattle.law_running_line.proofs.TimedBytes.{timed_read, timed_said}
use Rattle.law_running_line.proofs.TimedWalk.{Walks, did_walk, same_beyond, start_places}
use Rattle.law_running_line.proofs.WiresBehind.{met_plain}
use Rattle.law_running_line.proofs.WiresMet.{at_map}
use Rattle.law_running_line.proofs.WiresParts.{Of, all_as, all_mapped, left_has}
use Rattle.law_running_line.proofs.WiresTurn.{is_plain_at}
use Rattle.law_running_line.proofs.WiresWalk.{read_wires, wires_own}

-- ---- what comes at a side, and what goes

abbrev pub bytes_at : Side → NodeState → List ℕ
bytes_at Entry node = node.lane.entry_bytes
bytes_at Exit node = node.lane.exit_bytes

-- what comes on a connection that the side has, where it is open then, is timed by what stays unread there, and what goes is by what is
-- unread beyond
pub record InStep (side : Side) (opened : Bool) (count : ℕ) (new : List ℕ) (far_count : ℕ) (far : List ℕ) (own beyond : Hold) (to from : List Coming) : Type 0 where
  pub home : own ≡ Has → opened ≡ true → IsTimed side count new to
  pub away : beyond ≡ Has → IsTimed (across side) far_count far from

in_step_walks : {side : Side} {opened : Bool} {count : ℕ} {new : List ℕ} (far_count : ℕ) {far : List ℕ} → Walks (InStep side opened count new far_count far) far_count
in_step_walks far_count = record {
  more = λ own beyond to from n text is k. record { home = k.home; away = λ has_it. timed_said n text is (k.away has_it) };
  leaves = λ own beyond to from is k. record { home = λ has_it. absurd (left_has has_it); away = k.away };
}

-- ---- as it is read

abbrev as_read : (Hold → Hold → List Coming → List Coming → Type 0) → ℕ → Hold → Hold → List Coming → List Coming → Type 0
as_read F n own beyond to from = F own beyond (with_read n to) from

read_of : (side : Side) (F : Hold → Hold → List Coming → List Coming → Type 0) (n : ℕ) (wire : Wire) → Of side (as_read F n) wire → Of side F (read_at side n wire)
read_of Exit F n wire k = k
read_of Entry F n wire k = k

count_read : (all read rest : List SensorEvent) → all ≡ read ++ rest → length all - length read ≡ length rest
count_read all read rest is =
    let whole : length all ≡ length (read ++ rest) = ap (λ (es : List SensorEvent). length es) is in
    omega (arith, whole, length-append read rest)

pub front_at : (side : Side) {reading : Reading} {machine : ℕ} {input : Input} {moment : ℤ} {before after : Running} {told : List Act} (turn : Turns reading machine input moment before after told)
    → events_at side (unread_by machine before) ≡ events_at side turn.read ++ events_at side turn.rest
front_at Exit turn = turn.front.exit
front_at Entry turn = turn.front.entry

-- how many of a side's events are read, and how many stay
abbrev pub read_count : (side : Side) {reading : Reading} {machine : ℕ} {input : Input} {moment : ℤ} {before after : Running} {told : List Act} → Turns reading machine input moment before after told → ℕ
read_count side turn = length (events_at side turn.read)

abbrev pub rest_count : (side : Side) {reading : Reading} {machine : ℕ} {input : Input} {moment : ℤ} {before after : Running} {told : List Act} → Turns reading machine input moment before after told → ℕ
rest_count side turn = length (events_at side turn.rest)

-- a wire before the turn, and as the machine has read
abbrev pub Before : (side : Side) {reading : Reading} {machine : ℕ} {input : Input} {moment : ℤ} {before after : Running} {told : List Act} → Turns reading machine input moment before after told → ℕ → List ℕ → Wire → Type 0
Before side {machine = machine} {before = before} turn far_count far wire = Of side (InStep side true (count_unread machine side before) (bytes_at side turn.node) far_count far) wire

abbrev pub Behind : (side : Side) {reading : Reading} {machine : ℕ} {input : Input} {moment : ℤ} {before after : Running} {told : List Act} → Turns reading machine input moment before after told → ℕ → List ℕ → Wire → Type 0
Behind side turn far_count far wire = Of side (InStep side (is_open side turn.next.lane.body) (rest_count side turn) (bytes_at side turn.next) far_count far) wire

abbrev pub Read : (side : Side) {reading : Reading} {machine : ℕ} {input : Input} {moment : ℤ} {before after : Running} {told : List Act} → Turns reading machine input moment before after told → ℕ → List ℕ → Wire → Type 0
Read side turn far_count far wire = Of side (as_read (InStep side (is_open side turn.next.lane.body) (rest_count side turn) (bytes_at side turn.next) far_count far) (read_count side turn)) wire

-- what comes is timed behind the reading
pub read_timed : (side : Side) {reading : Reading} {machine : ℕ} {input : Input} {moment : ℤ} {before after : Running} {told : List Act} (turn : Turns reading machine input moment before after told) (waiting : List ℕ) (to : List Coming)
    → IsTimed side (count_unread machine side before) waiting to → IsTimed side (rest_count side turn) waiting (with_read (read_count side turn) to)
read_timed side {machine = machine} {before = before} turn waiting to k =
    subst (λ (n : ℕ). IsTimed side n waiting (with_read (read_count side turn) to)) (count_read (events_at side (unread_by machine before)) (events_at side turn.read) (events_at side turn.rest) (front_at side turn))
    (timed_read (read_count side turn) k)

-- where the bytes that wait at the side are as before
pub plain_read : (side : Side) {reading : Reading} {machine : ℕ} {input : Input} {moment : ℤ} {before after : Running} {told : List Act} (turn : Turns reading machine input moment before after told) (far_count : ℕ) (far : List ℕ) → bytes_at side turn.next ≡ bytes_at side turn.node
    → (wire : Wire) → Before side turn far_count far wire → Read side turn far_count far wire
plain_read side turn far_count far same wire k = record {
  home = λ has_it opened. subst (λ (bytes : List ℕ). IsTimed side (rest_count side turn) bytes (with_read (read_count side turn) (coming_to side wire))) (sym same) (read_timed side turn (bytes_at side turn.node) (coming_to side wire) (k.home has_it refl));
  away = k.away;
}

-- ---- along the acts

pub turn_walk : (side : Side) (j : ℕ) {reading : Reading} {input : Input} {moment : ℤ} {before after : Running} {told : List Act} (turn : Turns reading (j + 1) input moment before after told) (far : List ℕ) (wires : List Wire)
    → (start_of turn).wires (link_of (j + 1) side) ≡ map (read_at side (read_count side turn)) wires → AllByRecursion (Read side turn (count_beyond (j + 1) side before) far) wires
    → AllByRecursion (Behind side turn (count_beyond (j + 1) side before) far) (after.wires (link_of (j + 1) side))
turn_walk side j {input = input} {before = before} {after = after} {told = told} turn far wires is all =
    let k : ℕ = link_of (j + 1) side in
    let F = InStep side (is_open side turn.next.lane.body) (rest_count side turn) (bytes_at side turn.next) (count_beyond (j + 1) side before) far in
    let start : Running = start_of turn in
    let first : AllByRecursion (Of side F) (start.wires k) =
    subst (λ (ws : List Wire). AllByRecursion (Of side F) ws) (sym is) (all_mapped (Of side (as_read F (read_count side turn))) (Of side F) (read_at side (read_count side turn)) (λ wire r. read_of side F (read_count side turn) wire r) wires all) in
    subst (λ (ws : List Wire). AllByRecursion (Of side F) ws) (sym (ap (λ (s : Running). s.wires k) turn.after_is))
    (did_walk (in_step_walks (count_beyond (j + 1) side before)) (is_second input) j turn.place side told start
    (same_beyond j side before start (λ m apart. start_places j turn.place input turn.next turn.read turn.rest before m apart)) first)

-- ---- what it begins with

start_plain : (side : Side) (j : ℕ) {reading : Reading} {input : Input} {moment : ℤ} {before after : Running} {told : List Act} (turn : Turns reading (j + 1) input moment before after told) → is_plain_at side input ≡ true
    → (start_of turn).wires (link_of (j + 1) side) ≡ map (read_at side (read_count side turn)) (before.wires (link_of (j + 1) side))
start_plain side j {input = input} {before = before} turn plain =
    met_plain j input turn.place side (with_node (j + 1) turn.next (with_reading (j + 1) turn.read turn.rest before)) plain ∙ read_wires j side turn.next turn.read turn.rest before

pub walk_plain : (side : Side) (j : ℕ) {reading : Reading} {input : Input} {moment : ℤ} {before after : Running} {told : List Act} (turn : Turns reading (j + 1) input moment before after told) (far : List ℕ) → is_plain_at side input ≡ true → bytes_at side turn.next ≡ bytes_at side turn.node
    → AllByRecursion (Before side turn (count_beyond (j + 1) side before) far) (before.wires (link_of (j + 1) side)) → AllByRecursion (Behind side turn (count_beyond (j + 1) side before) far) (after.wires (link_of (j + 1) side))
walk_plain side j {before = before} turn far plain same all =
    turn_walk side j turn far (before.wires (link_of (j + 1) side)) (start_plain side j turn plain)
    (all_as (Before side turn (count_beyond (j + 1) side before) far) (Read side turn (count_beyond (j + 1) side before) far) (λ wire k. plain_read side turn (count_beyond (j + 1) side before) far same wire k) (before.wires (link_of (j + 1) side)) all)

-- where the input changes the connection at a place
start_changed : (side : Side) (j : ℕ) {reading : Reading} {input : Input} {moment : ℤ} {before after : Running} {told : List Act} (turn : Turns reading (j + 1) input moment before after told) (change : Wire → Wire)
    → start_of turn ≡ with_wires (link_of (j + 1) side) (at_place turn.place change) (with_node (j + 1) turn.next (with_reading (j + 1) turn.read turn.rest before))
    → ((n : ℕ) (wire : Wire) → change (read_at side n wire) ≡ read_at side n (change wire))
    → (start_of turn).wires (link_of (j + 1) side) ≡ map (read_at side (read_count side turn)) (at_place turn.place change (before.wires (link_of (j + 1) side)))
start_changed side j {before = before} turn change is same =
    let k : ℕ = link_of (j + 1) side in
    let read : Running = with_node (j + 1) turn.next (with_reading (j + 1) turn.read turn.rest before) in
    ap (λ (s : Running). s.wires k) is ∙ wires_own k (at_place turn.place change) read ∙ ap (at_place turn.place change) (read_wires j side turn.next turn.read turn.rest before)
    ∙ at_map change (read_at side (read_count side turn)) (same (read_count side turn)) turn.place (before.wires k)

pub walk_changed : (side : Side) (j : ℕ) {reading : Reading} {input : Input} {moment : ℤ} {before after : Running} {told : List Act} (turn : Turns reading (j + 1) input moment before after told) (far : List ℕ) (change : Wire → Wire)
    → start_of turn ≡ with_wires (link_of (j + 1) side) (at_place turn.place change) (with_node (j + 1) turn.next (with_reading (j + 1) turn.read turn.rest before))
    → ((n : ℕ) (wire : Wire) → change (read_at side n wire) ≡ read_at side n (change wire))
    → AllByRecursion (Read side turn (count_beyond (j + 1) side before) far) (at_place turn.place change (before.wires (link_of (j + 1) side))) → AllByRecursion (Behind side turn (count_beyond (j + 1) side before) far) (after.wires (link_of (j + 1) side))
walk_changed side j {before = before} turn far change is same all =
    turn_walk side j turn far (at_place turn.place change (before.wires (link_of (j + 1) side))) (start_changed side j turn change is same) all

-- ---- one of the connections, that alone the side has
