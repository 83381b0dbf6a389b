-- A TURN UNDER THE READING BEHIND WHICH BOARDS ARE LET GO: what it takes has been read for, and what goes on beside the relation goes on.
use Rattle.std.proofs.Common.{List, Some, [], ap, arith, inl, inr, length, refl, slice_get, subst, sym, take, true, ℕ, ℤ, ◌++◌, ◌+◌, ◌-◌, ◌∙◌, ◌∷◌, ◌≡◌, ◌≢◌, ◌⊎◌}
use Rattle.std.specs.Borrow.{Bor}
use Rattle.std.specs.List.{AllByRecursion}
use Rattle.law_running_line.proofs.WiresWhole.{not_last}
use Rattle.line_base.specs.declared.states.SensorEvent.{SensorEvent}
use Rattle.line_base.specs.declared.states.SensorEvent.TheVariants as events
use Rattle.line_base.specs.declared.states.Side.TheVariants.{Entry, Exit}
use Rattle.board_record.specs.declared.sensed.Sensed.{Sensed}
use Rattle.line_world.specs.FloorPlan.{AtMachine}
use Rattle.node_core.specs.Node.{NodeState}
use Rattle.node_core.specs.Sides.{is_open}
use Rattle.node_core.specs.declared.act.Act.{Act}
use Rattle.node_core.specs.declared.input.Input.{Input}
use Rattle.node_core.specs.declared.input.Input.TheVariants as inputs
use Rattle.law_custody.specs.Facts.{Has as HasEvent, has_later}
use Rattle.law_custody.specs.Pair.{Ghost}
use Rattle.law_custody.specs.Unread.{NotOver}
use Rattle.law_custody.specs.Words.{events_at}
use Rattle.line_step.proofs.Numbers.{same_or_not}
use Rattle.law_machine_custody.specs.Scene.{Scene}
use Rattle.law_one_standing.specs.Carried.{Trace}
use Rattle.law_one_standing.proofs.Behind.{put_first, put_neither, put_second, before_apart}
use Rattle.law_one_standing.proofs.Carrying.{SaysAlone}
use Rattle.law_one_standing.proofs.MirroringEnds.{before_one}
use Rattle.law_running_line.specs.Reading.{Behind as LetBehind, Reading}
use Rattle.law_running_line.specs.Running.{Running, count_beyond, count_unread, unread_by, with_reading}
use Rattle.law_running_line.specs.Stands.{Stands, node_in}
use Rattle.law_running_line.specs.Timed.{IsTimed, OnTime, Times}
use Rattle.law_running_line.specs.Turned.{TurnsTo, scene_behind, turned}
use Rattle.law_running_line.specs.Turns.{Turns, wire_behind}
use Rattle.law_running_line.specs.Waits.{had_above, had_below}
use Rattle.law_running_line.specs.Wire.{Has, Wire, most_behind, read_at, with_read}
use Rattle.law_running_line.proofs.TimedSides.{BringsInTime, entry_timed, exit_timed, piece_heard}
use Rattle.law_running_line.proofs.TimedTurn.{Before, Behind, read_count, rest_count}
use Rattle.law_running_line.proofs.TurnInto.{HasRead, IsTakenInTime}
use Rattle.law_running_line.proofs.TurnJoined.{entry_read, exit_read, far_then, got_map}
use Rattle.law_running_line.proofs.TurnShape.{next_there, other_nodes, own_node}
use Rattle.law_running_line.proofs.TurnStands.{floor_then, own_scene, unread_below, unread_then}
use Rattle.law_running_line.proofs.TurnWhole.{turns_to}
use Rattle.law_running_line.proofs.Waiting.{all_at}
use Rattle.law_running_line.proofs.WiresLink.{Amid, all_from, any_amid, at_amid, has_is}
use Rattle.law_running_line.proofs.WiresParts.{all_two}

-- ---- what stays unread was unread

has_last : {e : SensorEvent} (xs ys : List SensorEvent) → HasEvent e ys → HasEvent e (xs ++ ys)
has_last [] ys h = h
has_last (x ∷ xs) ys h = has_later (has_last xs ys h)

pub was_unread : {e : SensorEvent} (all read rest : List SensorEvent) → all ≡ read ++ rest → HasEvent e rest → HasEvent e all
was_unread {e} all read rest is h = subst (λ (es : List SensorEvent). HasEvent e es) (sym is) (has_last read rest h)

-- ---- what goes on before a turn: of each link its entry has read first, and all that comes is timed; no board is unread at the machine's exit
-- that begins, of what the turn leaves, nor at the exit of any other machine

pub record Holds (t : Trace) (s : Running) (machine : ℕ) (rest : List Sensed) : Type 0 where
  pub over : (link : ℕ) → HasEvent events.Begun (events_at Entry (unread_by (link + 1) s)) → NotOver (t.ghost link).place
  pub begun : HasEvent events.Begun (events_at Exit rest) → ⊥
  pub others : (link : ℕ) → link ≢ machine → HasEvent events.Begun (events_at Exit (unread_by link s)) → ⊥
  pub on_time : (link : ℕ) → OnTime s link

-- ---- what it takes has been read for

timed_up : (j : ℕ) {reading : Reading} {piece : Bor (List ℕ)} {moment : ℤ} {before after : Running} {told : List Act} → ((link : ℕ) → OnTime before link) → (turn : Turns reading (j + 1) (inputs.Bytes Exit piece) moment before after told)
    → IsTimed Exit (count_unread (j + 1) Exit before) turn.node.lane.exit_bytes turn.meets.at.wire.up
timed_up j {before = before} on_time turn =
    subst (λ (n : NodeState). IsTimed Exit (count_unread (j + 1) Exit before) n.lane.exit_bytes turn.meets.at.wire.up) (own_node turn)
    (all_at _ turn.meets.at.wire (before.wires (j + 1)) turn.place turn.meets.at.there (on_time (j + 1)).up turn.meets.at.held)

timed_down : (j : ℕ) {reading : Reading} {piece : Bor (List ℕ)} {moment : ℤ} {before after : Running} {told : List Act} → ((link : ℕ) → OnTime before link) → (turn : Turns reading (j + 1) (inputs.Bytes Entry piece) moment before after told)
    → IsTimed Entry (count_unread (j + 1) Entry before) turn.node.lane.entry_bytes turn.meets.at.wire.down
timed_down j {before = before} on_time turn =
    let there : slice_get (before.wires j) turn.place ≡ Some turn.meets.at.wire = subst (λ (k : ℕ). slice_get (before.wires k) turn.place ≡ Some turn.meets.at.wire) (before_one j) turn.meets.at.there in
    subst (λ (n : NodeState). IsTimed Entry (count_unread (j + 1) Entry before) n.lane.entry_bytes turn.meets.at.wire.down) (own_node turn)
    (all_at _ turn.meets.at.wire (before.wires j) turn.place there (on_time j).down turn.meets.at.held)

-- the bytes that it brings were said behind nothing that is unread then
pub in_time_up : (j : ℕ) {piece : Bor (List ℕ)} {moment : ℤ} {before after : Running} {told : List Act} (turn : Turns LetBehind (j + 1) (inputs.Bytes Exit piece) moment before after told)
    → most_behind (take (length piece.now) (with_read (read_count Exit turn) turn.meets.at.wire.up)) ≡ 0
in_time_up j {piece} {before = before} turn =
    let there : slice_get ((with_reading (j + 1) turn.read turn.rest before).wires (j + 1)) turn.place ≡ Some (read_at Exit (read_count Exit turn) turn.meets.at.wire) =
    ap (λ (ws : List Wire). slice_get ws turn.place) (exit_read j turn.read turn.rest before) ∙ got_map (read_at Exit (read_count Exit turn)) (before.wires (j + 1)) turn.place turn.meets.at.wire turn.meets.at.there in
    sym (ap (wire_behind Exit (length piece.now)) there) ∙ turn.in_time

pub in_time_down : (j : ℕ) {piece : Bor (List ℕ)} {moment : ℤ} {before after : Running} {told : List Act} (turn : Turns LetBehind (j + 1) (inputs.Bytes Entry piece) moment before after told)
    → most_behind (take (length piece.now) (with_read (read_count Entry turn) turn.meets.at.wire.down)) ≡ 0
in_time_down j {piece} {before = before} turn =
    let at : slice_get (before.wires j) turn.place ≡ Some turn.meets.at.wire = subst (λ (k : ℕ). slice_get (before.wires k) turn.place ≡ Some turn.meets.at.wire) (before_one j) turn.meets.at.there in
    let there : slice_get ((with_reading (j + 1) turn.read turn.rest before).wires j) turn.place ≡ Some (read_at Entry (read_count Entry turn) turn.meets.at.wire) =
    ap (λ (ws : List Wire). slice_get ws turn.place) (entry_read j turn.read turn.rest before) ∙ got_map (read_at Entry (read_count Entry turn)) (before.wires j) turn.place turn.meets.at.wire at in
    let read : wire_behind Entry (length piece.now) (slice_get ((with_reading (j + 1) turn.read turn.rest before).wires (j + 1 - 1)) turn.place) ≡ 0 = turn.in_time in
    sym (ap (wire_behind Entry (length piece.now)) there) ∙ subst (λ (k : ℕ). wire_behind Entry (length piece.now) (slice_get ((with_reading (j + 1) turn.read turn.rest before).wires k) turn.place) ≡ 0) (before_one j) read

pub brings_in_time : (j : ℕ) (input : Input) {moment : ℤ} {before after : Running} {told : List Act} (turn : Turns LetBehind (j + 1) input moment before after told) → BringsInTime j input turn
brings_in_time j (inputs.Bytes Exit piece) turn = in_time_up j turn
brings_in_time j (inputs.Bytes Entry piece) turn = in_time_down j turn
brings_in_time j _ turn = tt

words_in_time : SaysAlone → (j : ℕ) (input : Input) {reading : Reading} {moment : ℤ} {before after : Running} {told : List Act} (turn : Turns reading (j + 1) input moment before after told) → ((link : ℕ) → OnTime before link) → BringsInTime j input turn
    → IsTakenInTime input turn.steps.lane.words turn.rest
words_in_time alone j (inputs.Bytes Exit piece) turn on_time brings =
    (piece_heard alone Exit turn turn.meets.at.wire.up (timed_up j on_time turn) turn.meets.some turn.meets.front brings).in_time turn.rest refl
words_in_time alone j (inputs.Bytes Entry piece) turn on_time brings =
    (piece_heard alone Entry turn turn.meets.at.wire.down (timed_down j on_time turn) turn.meets.some turn.meets.front brings).in_time turn.rest refl
words_in_time alone j _ turn on_time brings = tt

pub holds_read : SaysAlone → (j : ℕ) (input : Input) {reading : Reading} {moment : ℤ} {before after : Running} {told : List Act} (t : Trace) (turn : Turns reading (j + 1) input moment before after told) → Holds t before (j + 1) turn.rest → BringsInTime j input turn → HasRead j input t turn
holds_read alone j input {before = before} t turn h brings taken = record {
  enough = record {
    entry = λ has_it. h.over j (was_unread (events_at Entry (unread_by (j + 1) before)) (events_at Entry turn.read) (events_at Entry turn.rest) turn.front.entry has_it);
    begun = h.begun;
  };
  in_time = words_in_time alone j input turn h.on_time brings;
}

-- ---- all that comes is timed behind it

-- before it, at either side
exit_before : (j : ℕ) {reading : Reading} {input : Input} {moment : ℤ} {before after : Running} {told : List Act} (turn : Turns reading (j + 1) input moment before after told) → OnTime before (j + 1)
    → AllByRecursion (Before Exit turn (count_beyond (j + 1) Exit before) (node_in before (j + 1 + 1)).lane.entry_bytes) (before.wires (j + 1))
exit_before j {before = before} turn k =
    let up = subst (λ (n : NodeState). AllByRecursion (λ (wire : Wire). wire.above ≡ Has → IsTimed Exit (count_unread (j + 1) Exit before) n.lane.exit_bytes wire.up) (before.wires (j + 1))) (own_node turn) k.up in
    all_two _ _ (Before Exit turn (count_beyond (j + 1) Exit before) (node_in before (j + 1 + 1)).lane.entry_bytes) (λ wire own far. record { home = λ has_it opened. own has_it; away = far }) (before.wires (j + 1)) up k.down

entry_before : (j : ℕ) {reading : Reading} {input : Input} {moment : ℤ} {before after : Running} {told : List Act} (turn : Turns reading (j + 1) input moment before after told) → OnTime before j
    → AllByRecursion (Before Entry turn (count_beyond (j + 1) Entry before) (node_in before (j + 1 - 1)).lane.exit_bytes) (before.wires (j + 1 - 1))
entry_before j {before = before} turn k =
    let down = subst (λ (n : NodeState). AllByRecursion (λ (wire : Wire). wire.below ≡ Has → IsTimed Entry (count_unread (j + 1) Entry before) n.lane.entry_bytes wire.down) (before.wires j)) (own_node turn) k.down in
    let all : AllByRecursion (Before Entry turn (count_unread j Exit before) (node_in before j).lane.exit_bytes) (before.wires j) =
    all_two _ _ (Before Entry turn (count_unread j Exit before) (node_in before j).lane.exit_bytes) (λ wire far own. record { home = λ has_it opened. own has_it; away = far }) (before.wires j) k.up down in
    subst (λ (m : ℕ). AllByRecursion (Before Entry turn (count_unread m Exit before) (node_in before m).lane.exit_bytes) (before.wires m)) (sym (before_one j)) all

-- behind it
exit_behind : (j : ℕ) {reading : Reading} {input : Input} {moment : ℤ} {before after : Running} {told : List Act} (t t2 : Trace) → Stands t before → Stands t2 after → (turn : Turns reading (j + 1) input moment before after told)
    → AllByRecursion (Behind Exit turn (count_beyond (j + 1) Exit before) (node_in before (j + 1 + 1)).lane.entry_bytes) (after.wires (j + 1)) → OnTime after (j + 1)
exit_behind j {before = before} {after = after} t t2 st now turn all =
    let wires : List Wire = after.wires (j + 1) in
    let unread : unread_by (j + 1) after ≡ turn.rest = unread_then j t st turn in
    let below : unread_by (j + 1 + 1) after ≡ unread_by (j + 1 + 1) before = unread_below j t st turn in
    let own : node_in after (j + 1) ≡ turn.next = next_there turn in
    let far : node_in after (j + 1 + 1) ≡ node_in before (j + 1 + 1) = other_nodes turn (j + 1 + 1) (not_last j) in
    let opened : (wire : Wire) → Amid wire wires → wire.above ≡ Has → is_open Exit turn.next.lane.body ≡ true = λ wire amid has_it.
    sym (ap (λ (n : NodeState). is_open Exit n.lane.body) own) ∙ sym (now.waits (j + 1)).exit_open ∙ any_amid had_above amid (has_is has_it) in
    record {
      up = all_from _ wires (λ wire amid has_it.
          subst (λ (us : List Sensed). IsTimed Exit (length (events_at Exit us)) (node_in after (j + 1)).lane.exit_bytes wire.up) (sym unread)
          (subst (λ (n : NodeState). IsTimed Exit (rest_count Exit turn) n.lane.exit_bytes wire.up) (sym own) ((at_amid _ amid all).home has_it (opened wire amid has_it))));
      down = all_from _ wires (λ wire amid has_it.
          subst (λ (us : List Sensed). IsTimed Entry (length (events_at Entry us)) (node_in after (j + 1 + 1)).lane.entry_bytes wire.down) (sym below)
          (subst (λ (n : NodeState). IsTimed Entry (count_beyond (j + 1) Exit before) n.lane.entry_bytes wire.down) (sym far) ((at_amid _ amid all).away has_it)));
    }

unread_above : (j : ℕ) {reading : Reading} {input : Input} {moment : ℤ} {before after : Running} {told : List Act} (t : Trace) → Stands t before → (turn : Turns reading (j + 1) input moment before after told) (k : ℕ) → k ≢ j + 1 → unread_by k after ≡ unread_by k before
unread_above j {before = before} t st turn k apart = ap (λ (m : AtMachine). m.unread) ((floor_then t st turn (own_scene t before j)).other_places k apart)

entry_behind : (j : ℕ) {reading : Reading} {input : Input} {moment : ℤ} {before after : Running} {told : List Act} (t t2 : Trace) → Stands t before → Stands t2 after → (turn : Turns reading (j + 1) input moment before after told)
    → AllByRecursion (Behind Entry turn (count_beyond (j + 1) Entry before) (node_in before (j + 1 - 1)).lane.exit_bytes) (after.wires (j + 1 - 1)) → OnTime after j
entry_behind j {before = before} {after = after} t t2 st now turn all =
    let wires : List Wire = after.wires j in
    let here : AllByRecursion (Behind Entry turn (count_unread j Exit before) (node_in before j).lane.exit_bytes) wires =
    subst (λ (m : ℕ). AllByRecursion (Behind Entry turn (count_unread m Exit before) (node_in before m).lane.exit_bytes) (after.wires m)) (before_one j) all in
    let unread : unread_by (j + 1) after ≡ turn.rest = unread_then j t st turn in
    let above : unread_by j after ≡ unread_by j before = unread_above j t st turn j (before_apart j) in
    let own : node_in after (j + 1) ≡ turn.next = next_there turn in
    let far : node_in after j ≡ node_in before j = other_nodes turn j (before_apart j) in
    let opened : (wire : Wire) → Amid wire wires → wire.below ≡ Has → is_open Entry turn.next.lane.body ≡ true = λ wire amid has_it.
    sym (ap (λ (n : NodeState). is_open Entry n.lane.body) own) ∙ sym (now.waits j).entry_open ∙ any_amid had_below amid (has_is has_it) in
    record {
      up = all_from _ wires (λ wire amid has_it.
          subst (λ (us : List Sensed). IsTimed Exit (length (events_at Exit us)) (node_in after j).lane.exit_bytes wire.up) (sym above)
          (subst (λ (n : NodeState). IsTimed Exit (count_unread j Exit before) n.lane.exit_bytes wire.up) (sym far) ((at_amid _ amid here).away has_it)));
      down = all_from _ wires (λ wire amid has_it.
          subst (λ (us : List Sensed). IsTimed Entry (length (events_at Entry us)) (node_in after (j + 1)).lane.entry_bytes wire.down) (sym unread)
          (subst (λ (n : NodeState). IsTimed Entry (rest_count Entry turn) n.lane.entry_bytes wire.down) (sym own) ((at_amid _ amid here).home has_it (opened wire amid has_it))));
    }

-- of a link that is none of the machine's
pub timed_as : {s s2 : Running} (link : ℕ) → node_in s2 link ≡ node_in s link → node_in s2 (link + 1) ≡ node_in s (link + 1) → events_at Exit (unread_by link s2) ≡ events_at Exit (unread_by link s) → events_at Entry (unread_by (link + 1) s2) ≡ events_at Entry (unread_by (link + 1) s)
    → s2.wires link ≡ s.wires link → OnTime s link → OnTime s2 link
timed_as {s} {s2} link above below up down wires k =
    let here = subst (λ (ws : List Wire). AllByRecursion (λ (wire : Wire). wire.above ≡ Has → IsTimed Exit (count_unread link Exit s) (node_in s link).lane.exit_bytes wire.up) ws) (sym wires) k.up in
    let there = subst (λ (ws : List Wire). AllByRecursion (λ (wire : Wire). wire.below ≡ Has → IsTimed Entry (count_unread (link + 1) Entry s) (node_in s (link + 1)).lane.entry_bytes wire.down) ws) (sym wires) k.down in
    record {
      up = subst (λ (es : List SensorEvent). AllByRecursion (λ (wire : Wire). wire.above ≡ Has → IsTimed Exit (length es) (node_in s2 link).lane.exit_bytes wire.up) (s2.wires link)) (sym up)
          (subst (λ (n : NodeState). AllByRecursion (λ (wire : Wire). wire.above ≡ Has → IsTimed Exit (count_unread link Exit s) n.lane.exit_bytes wire.up) (s2.wires link)) (sym above) here);
      down = subst (λ (es : List SensorEvent). AllByRecursion (λ (wire : Wire). wire.below ≡ Has → IsTimed Entry (length es) (node_in s2 (link + 1)).lane.entry_bytes wire.down) (s2.wires link)) (sym down)
          (subst (λ (n : NodeState). AllByRecursion (λ (wire : Wire). wire.below ≡ Has → IsTimed Entry (count_unread (link + 1) Entry s) n.lane.entry_bytes wire.down) (s2.wires link)) (sym below) there);
    }

pub lift_apart : (k j : ℕ) → k ≢ j → k + 1 ≢ j + 1
lift_apart k j apart is = apart (omega (arith, is))

on_time_then : SaysAlone → (j : ℕ) (input : Input) {reading : Reading} {moment : ℤ} {before after : Running} {told : List Act} (t t2 : Trace) → Stands t before → Stands t2 after → (turn : Turns reading (j + 1) input moment before after told) → BringsInTime j input turn → ((link : ℕ) → OnTime before link)
    → (k : ℕ) → (k ≡ j) ⊎ (k ≢ j) → (k ≡ j + 1) ⊎ (k ≢ j + 1) → OnTime after k
on_time_then alone j input {before = before} {after = after} t t2 st now turn brings on_time k (inl is) next =
    subst (λ (n : ℕ). OnTime after n) (sym is) (entry_behind j t t2 st now turn (entry_timed alone j input t st turn (node_in before (j + 1 - 1)).lane.exit_bytes brings (entry_before j turn (on_time j))))
on_time_then alone j input {before = before} {after = after} t t2 st now turn brings on_time k (inr apart) (inl is) =
    subst (λ (n : ℕ). OnTime after n) (sym is) (exit_behind j t t2 st now turn (exit_timed alone j input t st turn (node_in before (j + 1 + 1)).lane.entry_bytes brings (exit_before j turn (on_time (j + 1)))))
on_time_then alone j input {before = before} {after = after} t t2 st now turn brings on_time k (inr apart) (inr other) =
    timed_as k (other_nodes turn k other) (other_nodes turn (k + 1) (lift_apart k j apart)) (ap (events_at Exit) (unread_above j t st turn k other)) (ap (events_at Entry) (unread_above j t st turn (k + 1) (lift_apart k j apart))) (far_then j k turn apart other) (on_time k)

-- ---- THE TURN

pub record TurnsBehind (j : ℕ) (t : Trace) (after : Running) : Type 0 where
  pub trace : Trace
  pub stands : Stands trace after
  pub times : (link : ℕ) → Times trace after link

-- which board of a link has not gone across
over_then : {j : ℕ} {input : Input} {reading : Reading} {moment : ℤ} {before after : Running} {told : List Act} (t : Trace) → Stands t before → (turn : Turns reading (j + 1) input moment before after told) → Holds t before (j + 1) turn.rest → (to : TurnsTo j t turn)
    → (d : Scene) (k : ℕ) → (k ≡ j) ⊎ (k ≢ j) → (k ≡ j + 1) ⊎ (k ≢ j + 1) → HasEvent events.Begun (events_at Entry (unread_by (k + 1) after)) → NotOver ((turned j to.a to.b to.gone d t).ghost k).place
over_then {j} {before = before} {after = after} t st turn h to d k (inl is) next has_it =
    let own : HasEvent events.Begun (events_at Entry (unread_by (j + 1) after)) = subst (λ (n : ℕ). HasEvent events.Begun (events_at Entry (unread_by (n + 1) after))) is has_it in
    let rest : HasEvent events.Begun (events_at Entry turn.rest) = subst (λ (us : List Sensed). HasEvent events.Begun (events_at Entry us)) (unread_then j t st turn) own in
    let over : NotOver to.a.place = to.first (λ r. h.over j (was_unread (events_at Entry (unread_by (j + 1) before)) (events_at Entry turn.read) (events_at Entry turn.rest) turn.front.entry r)) rest in
    subst (λ (n : ℕ). NotOver ((turned j to.a to.b to.gone d t).ghost n).place) (sym is) (subst (λ (g : Ghost). NotOver g.place) (sym (put_first j to.a to.b t.ghost)) over)
over_then {j} {before = before} {after = after} t st turn h to d k (inr apart) (inl is) has_it =
    let own : HasEvent events.Begun (events_at Entry (unread_by (j + 1 + 1) after)) = subst (λ (n : ℕ). HasEvent events.Begun (events_at Entry (unread_by (n + 1) after))) is has_it in
    let was : HasEvent events.Begun (events_at Entry (unread_by (j + 1 + 1) before)) = subst (λ (us : List Sensed). HasEvent events.Begun (events_at Entry us)) (unread_below j t st turn) own in
    let over : NotOver to.b.place = to.over (h.over (j + 1) was) in
    subst (λ (n : ℕ). NotOver ((turned j to.a to.b to.gone d t).ghost n).place) (sym is) (subst (λ (g : Ghost). NotOver g.place) (sym (put_second j to.a to.b t.ghost)) over)
over_then {j} {before = before} {after = after} t st turn h to d k (inr apart) (inr other) has_it =
    let was : HasEvent events.Begun (events_at Entry (unread_by (k + 1) before)) = subst (λ (us : List Sensed). HasEvent events.Begun (events_at Entry us)) (unread_above j t st turn (k + 1) (lift_apart k j apart)) has_it in
    subst (λ (g : Ghost). NotOver g.place) (sym (put_neither j k to.a to.b t.ghost apart other)) (h.over k was)

begun_then : (j : ℕ) {input : Input} {reading : Reading} {moment : ℤ} {before after : Running} {told : List Act} (t : Trace) → Stands t before → (turn : Turns reading (j + 1) input moment before after told) → Holds t before (j + 1) turn.rest
    → (k : ℕ) → (k ≡ j + 1) ⊎ (k ≢ j + 1) → HasEvent events.Begun (events_at Exit (unread_by k after)) → ⊥
begun_then j {after = after} t st turn h k (inl is) has_it =
    let own : HasEvent events.Begun (events_at Exit (unread_by (j + 1) after)) = subst (λ (n : ℕ). HasEvent events.Begun (events_at Exit (unread_by n after))) is has_it in
    h.begun (subst (λ (us : List Sensed). HasEvent events.Begun (events_at Exit us)) (unread_then j t st turn) own)
begun_then j t st turn h k (inr apart) has_it = h.others k apart (subst (λ (us : List Sensed). HasEvent events.Begun (events_at Exit us)) (unread_above j t st turn k apart) has_it)

pub turns_behind : SaysAlone → (t : Trace) (j : ℕ) (input : Input) {reading : Reading} (moment : ℤ) (before after : Running) (told : List Act) → Stands t before → (turn : Turns reading (j + 1) input moment before after told) → Holds t before (j + 1) turn.rest → BringsInTime j input turn
    → TurnsBehind j t after
turns_behind alone t j input moment before after told st turn h brings =
    let to : TurnsTo j t turn = turns_to alone t j input moment before after told st turn (holds_read alone j input t turn h brings) in
    let d : Scene = scene_behind input to.wire to.said told t before j in
    let t2 : Trace = turned j to.a to.b to.gone d t in
    record {
      trace = t2;
      stands = to.stands;
      times = λ k. record {
        begun = begun_then j t st turn h k (same_or_not k (j + 1));
        over = over_then t st turn h to d k (same_or_not k j) (same_or_not k (j + 1));
        on_time = on_time_then alone j input t t2 st to.stands turn brings h.on_time k (same_or_not k j) (same_or_not k (j + 1));
      };
    }
