-- A fact of the connections at a side of a machine goes on along its acts, where what is said has been said behind all that its receiver
-- has unread.
use Rattle.std.proofs.Common.{Bool, List, None, Option, Some, [], ap, arith, drop, false, length, refl, slice_get, slice_set, subst, sym, true, ℕ, ◌++◌, ◌+◌, ◌-◌, ◌∙◌, ◌∷◌, ◌≡◌, ◌≢◌, ◌≤◌}
use Rattle.std.specs.List.{AllByRecursion}
use Rattle.line_base.specs.declared.states.Side.{Side}
use Rattle.line_base.specs.declared.states.Side.TheVariants.{Entry, Exit}
use Rattle.board_record.specs.declared.sensed.Sensed.{Sensed}
use Rattle.hermes_horizontal.specs.Canonical.{canonical}
use Rattle.hermes_horizontal.specs.declared.message.Message.{Message}
use Rattle.line_world.specs.FloorPlan.{AtMachine, FloorPlan, machine_at}
use Rattle.node_core.specs.Node.{NodeState}
use Rattle.node_core.specs.declared.act.Act.{Act}
use Rattle.node_core.specs.declared.act.Act.TheVariants as acts
use Rattle.node_core.specs.declared.input.Input.{Input}
use Rattle.law_custody.specs.Words.{events_at}
use Rattle.line_step.specs.Acts.{answers}
use Rattle.line_step.specs.World.{link_of}
use Rattle.line_step.proofs.Floors.{place_other, places_stay}
use Rattle.law_running_line.specs.Running.{Running, at_place, at_side, count_beyond, with_node, with_reading}
use Rattle.law_running_line.specs.Turns.{act_did, answered, did, met as met_by, sent_by}
use Rattle.law_running_line.specs.Wire.{Awaits, Coming, Has, Hold, Left, Wire, coming_to, end_at, end_beyond, given, left, said, text_behind}
use Rattle.law_running_line.proofs.TurnFloor.{met_floor, sent_still}
use Rattle.law_running_line.proofs.Waiting.{all_at, all_set, wire_of}
use Rattle.law_running_line.proofs.WiresActs.{sided}
use Rattle.law_running_line.proofs.WiresParts.{Of, all_mapped, awaits_has, going_from, gone_of, left_has, said_of}
use Rattle.law_running_line.proofs.WiresWalk.{wires_other, wires_own, wires_sided, apart_above}

-- what goes on as the side says more, behind so many events, and as it leaves the connection
pub record Walks (F : Hold → Hold → List Coming → List Coming → Type 0) (count : ℕ) : Type 0 where
  pub more : (own beyond : Hold) (to from : List Coming) (n : ℕ) (text : List ℕ) → count ≤ n → F own beyond to from → F own beyond to (from ++ text_behind n text)
  pub leaves : (own beyond : Hold) (to from : List Coming) → own ≡ Has → F own beyond to from → F Left beyond [] from

-- ---- the connection at a place is changed

pub all_at_place : (P : Wire → Type 0) (change : Wire → Wire) → ((wire : Wire) → P wire → P (change wire)) → (place : ℕ) (wires : List Wire) → AllByRecursion P wires → AllByRecursion P (at_place place change wires)
all_at_place P change next place wires all = by (slice_get wires place) refl
  where
    by : (found : Option Wire) → slice_get wires place ≡ found → AllByRecursion P (elim found [ None ↦ wires | Some wire ↦ slice_set wires place (change wire) ])
    by None is = all
    by (Some wire) is = all_set P (change wire) (next wire (all_at P wire wires place is all)) wires place all

answered_walk : {F : Hold → Hold → List Coming → List Coming → Type 0} {count : ℕ} → Walks F count → (n : ℕ) (text : List ℕ) → count ≤ n → (above below : Hold) (up down : List Coming) → F above below up down
    → Of Exit F (answered (text_behind n text) (wire_of above below up down))
answered_walk w n text is above Awaits up down k = w.more above Awaits up down n text is k
answered_walk w n text is above Has up down k = w.more above Has up down n text is k
answered_walk w n text is above Left up down k = k

-- ---- a change at a side

sided_walk : (F : Hold → Hold → List Coming → List Coming → Type 0) (side at : Side) (change : Wire → Wire) → ((wire : Wire) → Of side F wire → at ≡ side → Of side F (change wire)) → (wires : List Wire) → AllByRecursion (Of side F) wires
    → AllByRecursion (Of side F) (sided side at change wires)
sided_walk F Entry Entry change next wires all = all_mapped (Of Entry F) (Of Entry F) change (λ wire k. next wire k refl) wires all
sided_walk F Exit Exit change next wires all = all_mapped (Of Exit F) (Of Exit F) change (λ wire k. next wire k refl) wires all
sided_walk F Entry Exit change next wires all = all
sided_walk F Exit Entry change next wires all = all

said_walk : {F : Hold → Hold → List Coming → List Coming → Type 0} {count : ℕ} → Walks F count → (side at : Side) (n : ℕ) (text : List ℕ) → (at ≡ side → count ≤ n) → (wire : Wire) → Of side F wire → at ≡ side → Of side F (said at (text_behind n text) wire)
said_walk {F} w side at n text is wire k same =
    subst (λ (s : Side). Of side F (said s (text_behind n text) wire)) (sym same)
    (said_of side F (text_behind n text) wire (λ has_it reached. w.more (end_at side wire) (end_beyond side wire) (coming_to side wire) (going_from side wire) n text (is same) k) (λ off. k))

left_walk : {F : Hold → Hold → List Coming → List Coming → Type 0} {count : ℕ} → Walks F count → (side at : Side) (wire : Wire) → Of side F wire → at ≡ side → Of side F (left at wire)
left_walk {F} w side at wire k same =
    subst (λ (s : Side). Of side F (left s wire)) (sym same)
    (gone_of side F wire (λ has_it. w.leaves (end_at side wire) (end_beyond side wire) (coming_to side wire) (going_from side wire) has_it k) (λ not. k))

-- ---- one act

-- the side has as many events before it beyond
abbrev BehindAll : ℕ → ℕ → Side → Running → Type 0
BehindAll count j side s = count_beyond (j + 1) side s ≡ count

side_behind : {count : ℕ} (j : ℕ) (side at : Side) (s : Running) → BehindAll count j side s → at ≡ side → count ≤ count_beyond (j + 1) at s
side_behind {count} j side at s is same = subst (λ (x : Side). count ≤ count_beyond (j + 1) x s) (sym same) (omega (arith, is))

answers_walk : {F : Hold → Hold → List Coming → List Coming → Type 0} {count : ℕ} → Walks F count → (j place : ℕ) (side : Side) (message : Message) (s : Running) → BehindAll count j side s → AllByRecursion (Of side F) (s.wires (link_of (j + 1) side))
    → AllByRecursion (Of side F) ((sent_by true (j + 1) place Exit message s).wires (link_of (j + 1) side))
answers_walk {F} {count} w j place Exit message s is all =
    let n : ℕ = count_beyond (j + 1) Exit s in
    subst (λ (ws : List Wire). AllByRecursion (Of Exit F) ws) (sym (wires_own (j + 1) (at_place place (answered (text_behind n (canonical message)))) s))
    (all_at_place (Of Exit F) (answered (text_behind n (canonical message))) (λ wire k. answered_walk w n (canonical message) (side_behind j Exit Exit s is refl) wire.above wire.below wire.up wire.down k) place (s.wires (j + 1)) all)
answers_walk {F} w j place Entry message s is all =
    subst (λ (ws : List Wire). AllByRecursion (Of Entry F) ws) (sym (wires_other (j + 1) (j + 1 - 1) (at_place place (answered (text_behind (count_beyond (j + 1) Exit s) (canonical message)))) s (apart_above j))) all

sent_walk : {F : Hold → Hold → List Coming → List Coming → Type 0} {count : ℕ} → Walks F count → (test : Bool) (j place : ℕ) (side at : Side) (message : Message) (s : Running) → BehindAll count j side s → AllByRecursion (Of side F) (s.wires (link_of (j + 1) side))
    → AllByRecursion (Of side F) ((sent_by test (j + 1) place at message s).wires (link_of (j + 1) side))
sent_walk w true j place side at message s is all = answers_walk w j place side message s is all
sent_walk {F} w false j place side at message s is all =
    let n : ℕ = count_beyond (j + 1) at s in
    subst (λ (ws : List Wire). AllByRecursion (Of side F) ws) (sym (wires_sided j side at (said at (text_behind n (canonical message))) s))
    (sided_walk F side at (said at (text_behind n (canonical message))) (said_walk w side at n (canonical message) (side_behind j side at s is)) (s.wires (link_of (j + 1) side)) all)

gone_walk : {F : Hold → Hold → List Coming → List Coming → Type 0} {count : ℕ} → Walks F count → (j : ℕ) (side at : Side) (s : Running) → AllByRecursion (Of side F) (s.wires (link_of (j + 1) side))
    → AllByRecursion (Of side F) ((at_side (j + 1) at (left at) s).wires (link_of (j + 1) side))
gone_walk {F} w j side at s all =
    subst (λ (ws : List Wire). AllByRecursion (Of side F) ws) (sym (wires_sided j side at (left at) s)) (sided_walk F side at (left at) (left_walk w side at) (s.wires (link_of (j + 1) side)) all)

act_walk : {F : Hold → Hold → List Coming → List Coming → Type 0} {count : ℕ} → Walks F count → (second : Bool) (j place : ℕ) (side : Side) (act : Act) (s : Running) → BehindAll count j side s → AllByRecursion (Of side F) (s.wires (link_of (j + 1) side))
    → AllByRecursion (Of side F) ((act_did second (j + 1) place act s).wires (link_of (j + 1) side))
act_walk w second j place side (acts.Sends at message) s is all = sent_walk w (answers second at message) j place side at message s is all
act_walk w second j place side (acts.Closes at) s is all = gone_walk w j side at s all
act_walk w second j place side (acts.Notices at) s is all = gone_walk w j side at s all
act_walk w second j place side _ s is all = all

-- ---- what the other machines have unread stays

act_places : (second : Bool) (machine place : ℕ) (act : Act) (s : Running) (k : ℕ) → k ≢ machine → machine_at (act_did second machine place act s).floor k ≡ machine_at s.floor k
act_places second machine place (acts.Sends at message) s k apart = ap (λ (f : FloorPlan). machine_at f k) (sent_still (answers second at message) machine place at message s)
act_places second machine place (acts.Drive side on) s k apart = places_stay s.floor (link_of machine side) k _
act_places second machine place (acts.Inserts id) s k apart = place_other s.floor machine k _ apart
act_places second machine place (acts.Removes id) s k apart = place_other s.floor machine k _ apart
act_places second machine place (acts.Replaces old new) s k apart = place_other s.floor machine k _ apart
act_places second machine place (acts.Gives id to) s k apart = place_other s.floor machine k _ apart
act_places second machine place (acts.Gets id) s k apart = place_other s.floor machine k _ apart
act_places second machine place _ s k apart = refl

-- so what is beyond either side is
pub same_beyond : (j : ℕ) (side : Side) (s s2 : Running) → ((k : ℕ) → k ≢ j + 1 → machine_at s2.floor k ≡ machine_at s.floor k) → count_beyond (j + 1) side s2 ≡ count_beyond (j + 1) side s
same_beyond j Exit s s2 same = ap (λ (m : AtMachine). length (events_at Entry m.unread)) (same (j + 1 + 1) (λ is. after_is j is))
  where
    after_is : (j : ℕ) → j + 1 + 1 ≡ j + 1 → ⊥
    after_is j is = omega (arith, is)
same_beyond j Entry s s2 same = ap (λ (m : AtMachine). length (events_at Exit m.unread)) (same (j + 1 - 1) (apart_above j))

pub did_walk : {F : Hold → Hold → List Coming → List Coming → Type 0} {count : ℕ} → Walks F count → (second : Bool) (j place : ℕ) (side : Side) (told : List Act) (s : Running) → BehindAll count j side s → AllByRecursion (Of side F) (s.wires (link_of (j + 1) side))
    → AllByRecursion (Of side F) ((did second (j + 1) place told s).wires (link_of (j + 1) side))
did_walk w second j place side [] s is all = all
did_walk w second j place side (act ∷ others) s is all =
    did_walk w second j place side others (act_did second (j + 1) place act s) (same_beyond j side s (act_did second (j + 1) place act s) (λ k apart. act_places second (j + 1) place act s k apart) ∙ is) (act_walk w second j place side act s is all)

-- before the acts
pub start_places : (j place : ℕ) (input : Input) (next : NodeState) (read rest : List Sensed) (s : Running) (k : ℕ) → k ≢ j + 1 → machine_at (met_by (j + 1) input place (with_node (j + 1) next (with_reading (j + 1) read rest s))).floor k ≡ machine_at s.floor k
start_places j place input next read rest s k apart =
    ap (λ (f : FloorPlan). machine_at f k) (met_floor (j + 1) input place (with_node (j + 1) next (with_reading (j + 1) read rest s))) ∙ place_other s.floor (j + 1) k _ apart

-- ---- a connection of the side is given bytes

given_exit_of : (G : Hold → Hold → List Coming → List Coming → Type 0) (n : ℕ) (above below : Hold) (up down : List Coming) → (above ≡ Has → G above below (drop n up) down) → ((above ≡ Has → ⊥) → G above below up down) → Of Exit G (given Exit n (wire_of above below up down))
given_exit_of G n Awaits below up down has_it not = not awaits_has
given_exit_of G n Has below up down has_it not = has_it refl
given_exit_of G n Left below up down has_it not = not left_has

given_entry_of : (G : Hold → Hold → List Coming → List Coming → Type 0) (n : ℕ) (above below : Hold) (up down : List Coming) → (below ≡ Has → G below above (drop n down) up) → ((below ≡ Has → ⊥) → G below above down up) → Of Entry G (given Entry n (wire_of above below up down))
given_entry_of G n above Awaits up down has_it not = not awaits_has
given_entry_of G n above Has up down has_it not = has_it refl
given_entry_of G n above Left up down has_it not = not left_has

pub given_of : (side : Side) (G : Hold → Hold → List Coming → List Coming → Type 0) (n : ℕ) (wire : Wire) → (end_at side wire ≡ Has → G (end_at side wire) (end_beyond side wire) (drop n (coming_to side wire)) (going_from side wire)) → ((end_at side wire ≡ Has → ⊥) → Of side G wire)
    → Of side G (given side n wire)
given_of Exit G n wire has_it not = given_exit_of G n wire.above wire.below wire.up wire.down has_it not
given_of Entry G n wire has_it not = given_entry_of G n wire.above wire.below wire.up wire.down has_it not
