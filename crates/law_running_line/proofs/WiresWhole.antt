-- BOTH LINKS of a machine behind its turn, for each input.
use Rattle.std.proofs.Common.{Bool, List, [], ap, arith, false, refl, subst, sym, true, ℕ, ℤ, ◌+◌, ◌∙◌, ◌∷◌, ◌≡◌, ◌≢◌}
use Rattle.line_base.specs.declared.states.Side.TheVariants.{Entry, Exit}
use Rattle.std.specs.Borrow.{Bor}
use Rattle.board_record.specs.declared.sensed.Sensed.{Sensed}
use Rattle.hermes_horizontal.specs.declared.message.Horizontal.{Horizontal}
use Rattle.hermes_horizontal.specs.declared.message.Message.{Message}
use Rattle.node_core.specs.Node.{NodeState}
use Rattle.node_core.specs.declared.act.Act.{Act}
use Rattle.node_core.specs.declared.act.Act.TheVariants as acts
use Rattle.node_core.specs.declared.input.Input.{Input}
use Rattle.node_core.specs.declared.input.Input.TheVariants as inputs
use Rattle.law_link_messages.specs.Fit.{AreFitActs}
use Rattle.law_machine_custody.specs.Ahead.{IsFreeRead}
use Rattle.law_machine_custody.specs.Joined.{all_met_left, all_met_second, answered as second_said, is_answer, met_left, met_second, unanswered}
use Rattle.law_machine_custody.specs.Scene.{Scene, all_met, met}
use Rattle.law_one_standing.specs.Carried.{Trace}
use Rattle.law_one_standing.proofs.Carrying.{SaysAlone}
use Rattle.law_one_standing.proofs.Behind.{before_apart}
use Rattle.law_running_line.specs.Reading.{Reading}
use Rattle.law_running_line.specs.Running.{Running, unread_by}
use Rattle.law_running_line.specs.Stands.{Stands, node_in}
use Rattle.law_running_line.specs.Steady.{scene_of}
use Rattle.law_running_line.specs.Turned.{answer_met, scene_met}
use Rattle.law_running_line.specs.Turns.{Turns}
use Rattle.law_running_line.specs.Waits.{Says}
use Rattle.law_running_line.specs.Wire.{Awaits, Has, Hold, Left, Wire}
use Rattle.law_running_line.proofs.TurnShape.{next_there, other_nodes}
use Rattle.law_running_line.proofs.TurnStands.{AreLinked, IsLinked}
use Rattle.law_running_line.proofs.WiresActs.{Seen, gone_seen, heard_seen, said_seen, seen}
use Rattle.law_running_line.proofs.WiresBehind.{above_plain, below_plain}
use Rattle.law_running_line.proofs.WiresCome.{above_found, below_taken}
use Rattle.law_running_line.proofs.WiresLink.{IsLink}
use Rattle.law_running_line.proofs.WiresMet.{above_bytes, below_bytes}
use Rattle.law_running_line.proofs.WiresRefused.{below_refused}
use Rattle.law_running_line.proofs.WiresTurn.{is_plain_at}

-- ---- the machines behind the turn

pub not_last : (j : ℕ) → j + 1 + 1 ≢ j + 1
not_last j is = omega (arith, is)

link_as : {a a2 b b2 : NodeState} {u u2 : List Sensed} {up down : List Horizontal} {wires : List Wire} → a2 ≡ a → b2 ≡ b → u2 ≡ u → IsLink a b u up down wires → IsLink a2 b2 u2 up down wires
link_as {a} {a2} {b} {b2} {u} {u2} {up} {down} {wires} x y z k =
    subst (λ (n : NodeState). IsLink n b2 u2 up down wires) (sym x) (subst (λ (n : NodeState). IsLink a n u2 up down wires) (sym y) (subst (λ (r : List Sensed). IsLink a b r up down wires) (sym z) k))

linked_of : {s : Running} {link : ℕ} {up down : List Horizontal} → IsLink (node_in s link) (node_in s (link + 1)) (unread_by (link + 1) s) up down (s.wires link) → IsLinked s link up down
linked_of k = record { waits = k.waits; carried = k.carried }

-- what stays unread at the machine, and at the one below
pub record Unread (j : ℕ) (rest : List Sensed) (before after : Running) : Type 0 where
  pub own : unread_by (j + 1) after ≡ rest
  pub below : unread_by (j + 1 + 1) after ≡ unread_by (j + 1 + 1) before

both_linked : {j : ℕ} {reading : Reading} {input : Input} {moment : ℤ} {before after : Running} {told : List Act} (d : Scene) (turn : Turns reading (j + 1) input moment before after told) → Unread j turn.rest before after
    → IsLink (node_in before j) turn.next turn.rest d.above.up d.above.down (after.wires j) → IsLink turn.next (node_in before (j + 1 + 1)) (unread_by (j + 1 + 1) before) d.below.up d.below.down (after.wires (j + 1)) → AreLinked j after d
both_linked {j} d turn unread above below = record {
  above = linked_of (link_as (other_nodes turn j (before_apart j)) (next_there turn) unread.own above);
  below = linked_of (link_as (next_there turn) (other_nodes turn (j + 1 + 1) (not_last j)) unread.below below);
}

-- ---- an input that is of no connection

pub linked_plain : SaysAlone → (t : Trace) (j : ℕ) {reading : Reading} {input : Input} {moment : ℤ} {before after : Running} {told : List Act} → Stands t before → (turn : Turns reading (j + 1) input moment before after told) → AreFitActs told → IsFreeRead turn.rest turn.next.lane.body → Unread j turn.rest before after
    → is_plain_at Entry input ≡ true → is_plain_at Exit input ≡ true → AreLinked j after (all_met told (scene_of t before j))
linked_plain alone t j {before = before} {told = told} st turn fit free unread entry exit =
    both_linked (all_met told (scene_of t before j)) turn unread (above_plain alone j st turn fit entry free (scene_of t before j) refl) (below_plain alone j st turn fit exit (scene_of t before j) refl)

-- ---- bytes

pub linked_down : SaysAlone → (t : Trace) (j : ℕ) {reading : Reading} {piece : Bor (List ℕ)} {moment : ℤ} {before after : Running} {told : List Act} → Stands t before → (turn : Turns reading (j + 1) (inputs.Bytes Entry piece) moment before after told) → AreFitActs told → IsFreeRead turn.rest turn.next.lane.body → Unread j turn.rest before after
    → AreLinked j after (all_met told (scene_of t before j))
linked_down alone t j {before = before} {told = told} st turn fit free unread = both_linked (all_met told (scene_of t before j)) turn unread (above_bytes alone j st turn fit free) (below_plain alone j st turn fit refl (scene_of t before j) refl)

pub linked_up : SaysAlone → (t : Trace) (j : ℕ) {reading : Reading} {piece : Bor (List ℕ)} {moment : ℤ} {before after : Running} {told : List Act} → Stands t before → (turn : Turns reading (j + 1) (inputs.Bytes Exit piece) moment before after told) → AreFitActs told → IsFreeRead turn.rest turn.next.lane.body → Unread j turn.rest before after
    → AreLinked j after (all_met told (scene_of t before j))
linked_up alone t j {before = before} {told = told} st turn fit free unread = both_linked (all_met told (scene_of t before j)) turn unread (above_plain alone j st turn fit refl free (scene_of t before j) refl) (below_bytes alone j st turn fit)

-- ---- connections

pub linked_taken : SaysAlone → (t : Trace) (j : ℕ) {reading : Reading} {moment : ℤ} {before after : Running} {told : List Act} → Stands t before → (turn : Turns reading (j + 1) inputs.Accepted moment before after told) → AreFitActs told → IsFreeRead turn.rest turn.next.lane.body → Unread j turn.rest before after
    → (said : List Message) → Says turn.meets.0.wire.up said → AreLinked j after (all_met told (scene_met inputs.Accepted turn.meets.0.wire said t before j))
linked_taken alone t j {before = before} {told = told} st turn fit free unread said says =
    let c : Scene = scene_met inputs.Accepted turn.meets.0.wire said t before j in
    both_linked (all_met told c) turn unread (above_plain alone j st turn fit refl free c refl) (below_taken alone j st turn fit said says)

pub linked_found : SaysAlone → (t : Trace) (j : ℕ) {reading : Reading} {moment : ℤ} {before after : Running} {told : List Act} → Stands t before → (turn : Turns reading (j + 1) inputs.Connect moment before after told) → AreFitActs told → IsFreeRead turn.rest turn.next.lane.body → Unread j turn.rest before after
    → (said : List Message) → Says turn.meets.wire.down said → AreLinked j after (all_met told (scene_met inputs.Connect turn.meets.wire said t before j))
linked_found alone t j {before = before} {told = told} st turn fit free unread said says =
    let c : Scene = scene_met inputs.Connect turn.meets.wire said t before j in
    both_linked (all_met told c) turn unread (above_found alone j st turn fit said says free) (below_plain alone j st turn fit refl c refl)

-- ---- a second connection: above the machine its answer is no matter

by_sent : (test : Bool) (m : Message) (c : Scene) → seen Entry (second_said test m.body c) ≡ seen Entry c
by_sent true m c = refl
by_sent false m c = refl

by_left : (test : Bool) (m : Message) (c : Scene) → seen Entry (unanswered test m.body c) ≡ seen Entry c
by_left true m c = refl
by_left false m c = refl

-- of two scenes that are the same there
same_second : (act : Act) (c e : Scene) → seen Entry c ≡ seen Entry e → seen Entry (met_second act c) ≡ seen Entry (met act e)
same_second (acts.Sends Exit m) c e is = by_sent (is_answer m.body) m c ∙ is
same_second (acts.Sends Entry m) c e is = ap (said_seen m.body) is
same_second (acts.Hears Entry m) c e is = ap heard_seen is
same_second (acts.Closes Entry) c e is = ap gone_seen is
same_second (acts.Notices Entry) c e is = ap gone_seen is
same_second (acts.Drive Entry on) c e is = is
same_second _ c e is = is

same_left : (act : Act) (c e : Scene) → seen Entry c ≡ seen Entry e → seen Entry (met_left act c) ≡ seen Entry (met act e)
same_left (acts.Sends Exit m) c e is = by_left (is_answer m.body) m c ∙ is
same_left (acts.Sends Entry m) c e is = ap (said_seen m.body) is
same_left (acts.Hears Entry m) c e is = ap heard_seen is
same_left (acts.Closes Entry) c e is = ap gone_seen is
same_left (acts.Notices Entry) c e is = ap gone_seen is
same_left (acts.Drive Entry on) c e is = is
same_left _ c e is = is

all_second : (told : List Act) (c e : Scene) → seen Entry c ≡ seen Entry e → seen Entry (all_met_second told c) ≡ seen Entry (all_met told e)
all_second [] c e is = is
all_second (act ∷ others) c e is = all_second others (met_second act c) (met act e) (same_second act c e is)

all_left : (told : List Act) (c e : Scene) → seen Entry c ≡ seen Entry e → seen Entry (all_met_left told c) ≡ seen Entry (all_met told e)
all_left [] c e is = is
all_left (act ∷ others) c e is = all_left others (met_left act c) (met act e) (same_left act c e is)

answer_aside : (hold : Hold) (told : List Act) (c : Scene) → seen Entry (answer_met hold told c) ≡ seen Entry (all_met told c)
answer_aside Has told c = all_second told c c refl
answer_aside Awaits told c = all_left told c c refl
answer_aside Left told c = all_left told c c refl

pub linked_refused : SaysAlone → (t : Trace) (j : ℕ) {reading : Reading} {moment : ℤ} {before after : Running} {told : List Act} → Stands t before → (turn : Turns reading (j + 1) inputs.Second moment before after told) → AreFitActs told → IsFreeRead turn.rest turn.next.lane.body → Unread j turn.rest before after
    → AreLinked j after (answer_met turn.meets.wire.below told (scene_of t before j))
linked_refused alone t j {before = before} {after = after} {told = told} st turn fit free unread =
    let c : Scene = scene_of t before j in
    let d : Scene = answer_met turn.meets.wire.below told c in
    let above : IsLink (node_in before j) turn.next turn.rest (all_met told c).above.up (all_met told c).above.down (after.wires j) = above_plain alone j st turn fit refl free c refl in
    both_linked d turn unread (subst (λ (l : Seen). IsLink (node_in before j) turn.next turn.rest l.away l.home (after.wires j)) (sym (answer_aside turn.meets.wire.below told c)) above) (below_refused alone j st turn fit)
