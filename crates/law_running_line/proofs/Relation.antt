-- A step that changes the connections of one link alone: the relation of running machines goes on, where that link keeps it.
use Rattle.std.proofs.Common.{Bool, List, Some, [], ap, arith, eq-eqb, false, inl, inr, length, ne_eqb, refl, slice_get, slice_set, subst, suc, sym, true, zero, ℕ, ◌&&◌, ◌++◌, ◌+◌, ◌∙◌, ◌∷◌, ◌≡◌, ◌≢◌, ◌≤◌, ◌⊎◌, map}
use Rattle.std.specs.Prelude.{cond, nat_eq}
use Rattle.std.specs.List.{list_any}
use Rattle.std.proofs.lemmas.Bool.{false≢true}
use Rattle.std.proofs.lemmas.Option.{slice_get_within}
use Rattle.law_running_line.proofs.TurnJoined.{placed}
use Rattle.line_base.specs.declared.states.Side.{Side}
use Rattle.line_base.specs.declared.states.Side.TheVariants.{Entry, Exit}
use Rattle.board_record.specs.declared.sensed.Sensed.{Sensed}
use Rattle.hermes_horizontal.specs.declared.message.Horizontal.{Horizontal}
use Rattle.line_world.specs.FloorPlan.{gap_at}
use Rattle.node_core.specs.Node.{NodeState}
use Rattle.node_core.specs.declared.lane.Body.{Body as Machine}
use Rattle.line_step.specs.Reasons.{has_link}
use Rattle.line_step.specs.World.{link_of}
use Rattle.line_step.proofs.Numbers.{same_or_not}
use Rattle.law_one_standing.specs.Carried.{IsFitMachine, Trace, stand_of}
use Rattle.law_one_standing.specs.Relation.{Between}
use Rattle.law_one_standing.proofs.Behind.{fit_machine}
use Rattle.law_one_standing.proofs.RestLine.{node_there}
use Rattle.law_one_standing.proofs.RestMore.{same_keeps}
use Rattle.law_one_standing.proofs.MirroringFlow.{link_there}
use Rattle.law_running_line.specs.RunSteps.{Asks, LetsBe, given_up, let_be}
use Rattle.law_running_line.specs.Running.{Running, at_place, node_of, unread_by, with_wires}
use Rattle.law_running_line.specs.Stands.{Carried, Carries, IsMade, Stands, between_of, is_joined, line_of, node_in}
use Rattle.law_running_line.specs.Waits.{Waits, had_above, had_below}
use Rattle.law_running_line.specs.Wire.{Awaits, Coming, Has, Hold, Left, Wire, asked_for, end_at, has}
use Rattle.law_running_line.proofs.Waiting.{all_at, all_given, all_set, any_given, any_set, awaits_not, called_still, entry_lets_be, exit_lets_be, node_asks, same_above, same_had, wire_of}

-- ---- the connections of one link, changed

pub by_link : (P : ℕ → List Wire → Type 0) (link : ℕ) (change : List Wire → List Wire) (s : Running) → P link (change (s.wires link)) → ((k : ℕ) → P k (s.wires k)) → (k : ℕ) → P k ((with_wires link change s).wires k)
by_link P link change s here each k = by (same_or_not k link)
  where
    by : (k ≡ link) ⊎ (k ≢ link) → P k (cond (nat_eq k link) (change (s.wires k)) (s.wires k))
    by (inl is) = subst (λ (n : ℕ). P n (cond (nat_eq n link) (change (s.wires n)) (s.wires n))) (sym is) (subst (λ (b : Bool). P link (cond b (change (s.wires link)) (s.wires link))) (sym (eq-eqb link link refl)) here)
    by (inr apart) = subst (λ (b : Bool). P k (cond b (change (s.wires k)) (s.wires k))) (sym (ne_eqb k link apart)) (each k)

-- what is known of a machine by itself doesn't look at connections, and not at the floor
pub fit_aside : (s s2 : Running) (machine : ℕ) → ◌≡◌ {A = NodeState} (node_in s2 machine) (node_in s machine) → IsFitMachine (line_of s) machine → IsFitMachine (line_of s2) machine
fit_aside s s2 machine is fit = fit_machine (line_of s) (line_of s2) machine is fit

node_by : (s s2 : Running) (k : ℕ) → s2.machines ≡ s.machines → node_of k s2 ≡ node_of k s
node_by s s2 zero is = refl
node_by s s2 (suc place) is = ap (λ (ms : List NodeState). slice_get ms place) is

pub made_aside : (s s2 : Running) (id : ℕ) → s2.machines ≡ s.machines → IsMade s id → IsMade s2 id
made_aside s s2 id is m = record { machine = m.machine; node = m.node; there = node_by s s2 m.machine is ∙ m.there; count = m.count; used = m.used; small = m.small; is = m.is }

abbrev with_stands : Trace → Running → ℕ → Bool → Between
with_stands t s k b = record { ghost = t.ghost k; stands = b; gap = gap_at s.floor k; up = t.up k; down = t.down k; gone = t.gone k }

pub rewired : (link : ℕ) (change : List Wire → List Wire) (t : Trace) (s : Running) → Stands t s → has_link link (line_of s) ≡ true → list_any is_joined (change (s.wires link)) ≡ list_any is_joined (s.wires link)
    → Waits (node_in s link).lane.body (node_in s (link + 1)).lane.body (unread_by (link + 1) s) (change (s.wires link)) → Carried (node_in s link) (node_in s (link + 1)) (t.up link) (t.down link) (change (s.wires link))
    → Stands t (with_wires link change s)
rewired link change t s st is joined waits carried = record {
  keeps = same_keeps (stand_of (line_of s)) (stand_of (line_of s)) (between_of t s) (between_of t (with_wires link change s)) (λ k. refl)
      (λ k. ap (with_stands t s k) (by_link (λ (n : ℕ) (wires : List Wire). list_any is_joined wires ≡ list_any is_joined (s.wires n)) link change s joined (λ n. refl) k)) st.keeps;
  waits = by_link (λ (n : ℕ) (wires : List Wire). Waits (node_in s n).lane.body (node_in s (n + 1)).lane.body (unread_by (n + 1) s) wires) link change s waits st.waits;
  carried = by_link (λ (n : ℕ) (wires : List Wire). Carried (node_in s n) (node_in s (n + 1)) (t.up n) (t.down n) wires) link change s carried st.carried;
  rest = λ k none. record {
    outlet = (st.rest k none).outlet;
    intake = (st.rest k none).intake;
    exit = (st.rest k none).exit;
    entry = (st.rest k none).entry;
    wires = by_link (λ (n : ℕ) (wires : List Wire). has_link n (line_of s) ≡ false → wires ≡ []) link change s (λ never. absurd (false≢true (sym never ∙ is))) (λ n no. (st.rest n no).wires) k none;
  };
  fit = λ k. fit_aside s (with_wires link change s) k refl (st.fit k);
  sound = st.sound;
  many = st.many;
  whole = st.whole;
  differ = st.differ;
  numbers = record { apart = st.numbers.apart };
  made = λ id some. made_aside s (with_wires link change s) id refl (st.made id some);
  olds = λ k id gone. made_aside s (with_wires link change s) id refl (st.olds k id gone);
}

-- ---- which links are there

pub within_of : (machine : ℕ) (s : Running) (node : NodeState) → node_of machine s ≡ Some node → (1 ≤ machine) × (machine ≤ length s.machines)
within_of zero s node there = absurd (cc)
within_of (suc place) s node there =
    let within = slice_get_within s.machines place node there in
    (omega arith, omega (arith, within))

-- where there is a connection there is a link
pub no_wire : (place : ℕ) (wires : List Wire) (wire : Wire) → wires ≡ [] → slice_get wires place ≡ Some wire → ⊥
no_wire place wires wire none there = let never : slice_get [] place ≡ Some wire = subst (λ (ws : List Wire). slice_get ws place ≡ Some wire) none there in cc

link_by : (test : Bool) (link place : ℕ) (t : Trace) (s : Running) (wire : Wire) → Stands t s → slice_get (s.wires link) place ≡ Some wire → has_link link (line_of s) ≡ test → has_link link (line_of s) ≡ true
link_by true link place t s wire st there is = is
link_by false link place t s wire st there is = absurd (no_wire place (s.wires link) wire (st.rest link is).wires there)

-- ---- A CONNECTION IS ASKED FOR

pub awaits_has : Awaits ≡ Has → ⊥
awaits_has is = cc

pub left_has : Left ≡ Has → ⊥
left_has is = cc

left_awaits : Left ≡ Awaits → ⊥
left_awaits is = cc

same_joined : (above below : Hold) (up down : List Coming) → is_joined (given_up Entry (wire_of above below up down)) ≡ is_joined (wire_of above below up down)
same_joined above Awaits up down = refl
same_joined above Has up down = refl
same_joined above Left up down = refl

pub up_still : (A : List Coming → Type 0) (above below : Hold) (up down : List Coming) → (above ≡ Has → A up) → (given_up Entry (wire_of above below up down)).above ≡ Has → A (given_up Entry (wire_of above below up down)).up
up_still A above Awaits up down p = p
up_still A above Has up down p = p
up_still A above Left up down p = p

pub down_still : (A : List Coming → Type 0) (above below : Hold) (up down : List Coming) → (below ≡ Has → A down) → (given_up Entry (wire_of above below up down)).below ≡ Has → A (given_up Entry (wire_of above below up down)).down
down_still A above Awaits up down p = λ is. absurd (left_has is)
down_still A above Has up down p = p
down_still A above Left up down p = p

asked_carries : {above below : NodeState} {up down : List Horizontal} {wires : List Wire} → Carried above below up down wires → Carried above below up down (map (given_up Entry) wires ++ asked_for ∷ [])
asked_carries {above} {below} {up} {down} {wires} c = record {
  up = all_given _ _ (given_up Entry) asked_for (λ wire p. up_still (λ (coming : List Coming). Carries above.lane.exit_bytes coming up) wire.above wire.below wire.up wire.down p) (λ is. absurd (awaits_has is)) wires c.up;
  down = all_given _ _ (given_up Entry) asked_for (λ wire p. down_still (λ (coming : List Coming). Carries below.lane.entry_bytes coming down) wire.above wire.below wire.up wire.down p) (λ is. absurd (awaits_has is)) wires c.down;
  quiet = all_given _ _ (given_up Entry) asked_for (λ wire p has_it is. absurd (awaits_not wire.above wire.below wire.up wire.down is)) (λ is awaits. absurd (awaits_has is)) wires c.quiet;
  called = all_given _ _ (given_up Entry) asked_for (λ wire p. called_still wire.above wire.below wire.up wire.down p) (λ is has_it. absurd (awaits_has has_it)) wires c.called;
  none_up = λ none. c.none_up (sym (any_given had_above (given_up Entry) asked_for (λ wire. ap has (same_above wire.above wire.below wire.up wire.down)) refl wires) ∙ none);
  none_down = λ none. c.none_down (sym (any_given had_below (given_up Entry) asked_for (λ wire. same_had wire.above wire.below wire.up wire.down) refl wires) ∙ none);
}

pub asks_stand : {machine : ℕ} {before after : Running} (t : Trace) → Stands t before → Asks machine before after → Stands t after
asks_stand {machine} {before} t st a =
    let wires : List Wire = before.wires machine in
    let here = within_of machine before a.above a.above_there in
    let next = within_of (machine + 1) before a.below a.below_there in
    let below : node_in before (machine + 1) ≡ a.below = node_there (machine + 1) (line_of before) a.below a.below_there in
    let was : Waits (node_in before machine).lane.body a.below.lane.body (unread_by (machine + 1) before) wires =
    subst (λ (n : NodeState). Waits (node_in before machine).lane.body n.lane.body (unread_by (machine + 1) before) wires) below (st.waits machine) in
    subst (λ (s : Running). Stands t s) (sym a.after_is)
    (rewired machine (λ (ws : List Wire). map (given_up Entry) ws ++ asked_for ∷ []) t before st (link_there machine (length before.machines) here.0 next.1)
    (any_given is_joined (given_up Entry) asked_for (λ wire. same_joined wire.above wire.below wire.up wire.down) refl wires)
    (subst (λ (n : NodeState). Waits (node_in before machine).lane.body n.lane.body (unread_by (machine + 1) before) (map (given_up Entry) wires ++ asked_for ∷ [])) (sym below) (node_asks a.below a.may was))
    (asked_carries (st.carried machine)))

-- ---- AN END THAT AWAITS A CONNECTION LEAVES IT

loses_joint : (side : Side) (wire : Wire) → end_at side wire ≡ Awaits → is_joined (let_be side wire) ≡ is_joined wire
loses_joint Exit wire is = ap (λ (h : Hold). has h && has wire.below) (sym is)
loses_joint Entry wire is = ap (λ (h : Hold). has wire.above && has h) (sym is)

waits_let : {above below : Machine} {unread : List Sensed} (side : Side) {wires : List Wire} (place : ℕ) (wire : Wire) → slice_get wires place ≡ Some wire → end_at side wire ≡ Awaits → Waits above below unread wires
    → Waits above below unread (slice_set wires place (let_be side wire))
waits_let Exit place wire there is w = exit_lets_be place wire there is w
waits_let Entry place wire there is w = entry_lets_be place wire there is w

let_carries : {above below : NodeState} {up down : List Horizontal} (side : Side) {wires : List Wire} (place : ℕ) (wire : Wire) → slice_get wires place ≡ Some wire → end_at side wire ≡ Awaits
    → Carried above below up down wires → Carried above below up down (slice_set wires place (let_be side wire))
let_carries Exit {wires = wires} place wire there is c = record {
  up = all_set _ (let_be Exit wire) (λ never. absurd (left_has never)) wires place c.up;
  down = all_set _ (let_be Exit wire) (all_at _ wire wires place there c.down) wires place c.down;
  quiet = all_set _ (let_be Exit wire) (λ never awaits. absurd (left_has never)) wires place c.quiet;
  called = all_set _ (let_be Exit wire) (λ never has_it. absurd (left_awaits never)) wires place c.called;
  none_up = λ none. c.none_up (sym (any_set had_above wire (let_be Exit wire) (sym (ap has is)) wires place there) ∙ none);
  none_down = λ none. c.none_down (sym (any_set had_below wire (let_be Exit wire) refl wires place there) ∙ none);
}
let_carries Entry {wires = wires} place wire there is c = record {
  up = all_set _ (let_be Entry wire) (all_at _ wire wires place there c.up) wires place c.up;
  down = all_set _ (let_be Entry wire) (λ never. absurd (left_has never)) wires place c.down;
  quiet = all_set _ (let_be Entry wire) (λ has_it never. absurd (left_awaits never)) wires place c.quiet;
  called = all_set _ (let_be Entry wire) (λ awaits never. absurd (left_has never)) wires place c.called;
  none_up = λ none. c.none_up (sym (any_set had_above wire (let_be Entry wire) refl wires place there) ∙ none);
  none_down = λ none. c.none_down (sym (any_set had_below wire (let_be Entry wire) (sym (ap has is)) wires place there) ∙ none);
}

pub lets_be_stand : {machine : ℕ} {side : Side} {before after : Running} (t : Trace) → Stands t before → LetsBe machine side before after → Stands t after
lets_be_stand {machine} {side} {before} t st l =
    let link : ℕ = link_of machine side in
    let wires : List Wire = before.wires link in
    let wire : Wire = l.awaits.wire in
    let is : at_place l.place (let_be side) wires ≡ slice_set wires l.place (let_be side wire) = placed l.place (let_be side) wires wire l.awaits.there in
    subst (λ (s : Running). Stands t s) (sym l.after_is)
    (rewired link (at_place l.place (let_be side)) t before st (link_by (has_link link (line_of before)) link l.place t before wire st l.awaits.there refl)
    (ap (list_any is_joined) is ∙ any_set is_joined wire (let_be side wire) (loses_joint side wire l.awaits.held) wires l.place l.awaits.there)
    (subst (λ (ws : List Wire). Waits (node_in before link).lane.body (node_in before (link + 1)).lane.body (unread_by (link + 1) before) ws) (sym is) (waits_let side l.place wire l.awaits.there l.awaits.held (st.waits link)))
    (subst (λ (ws : List Wire). Carried (node_in before link) (node_in before (link + 1)) (t.up link) (t.down link) ws) (sym is) (let_carries side l.place wire l.awaits.there l.awaits.held (st.carried link))))
