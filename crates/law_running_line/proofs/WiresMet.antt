-- BEHIND A TURN that meets a connection at one of its machine's sides: bytes come on it, it is taken, or it is found made.
use Rattle.std.proofs.Common.{Bool, List, None, Option, Some, [], ap, false, length, map, refl, slice_get, slice_set, subst, suc, sym, true, zero, ℕ, ℤ, ◌+◌, ◌∙◌, ◌∷◌, ◌≡◌}
use Rattle.std.specs.Borrow.{Bor}
use Rattle.std.specs.Prelude.{drop}
use Rattle.line_base.specs.declared.states.Side.{Side}
use Rattle.line_base.specs.declared.states.Side.TheVariants.{Entry, Exit}
use Rattle.board_record.specs.declared.sensed.Sensed.{Sensed}
use Rattle.node_core.specs.Desk.{Desk}
use Rattle.node_core.specs.Event.{Words}
use Rattle.node_core.specs.Node.{NodeState, desk_of}
use Rattle.node_core.specs.Sides.{is_open}
use Rattle.node_core.specs.Step.{Steps, machine_step}
use Rattle.node_core.specs.declared.act.Act.{Act}
use Rattle.node_core.specs.declared.input.Input.{Input}
use Rattle.node_core.specs.declared.input.Input.TheVariants as inputs
use Rattle.node_core.specs.declared.lane.Body.{Body as Machine}
use Rattle.law_custody.specs.Words.{events_at}
use Rattle.law_link_messages.specs.Fit.{AreFitActs}
use Rattle.law_machine_custody.specs.Ahead.{IsFreeRead}
use Rattle.law_machine_custody.specs.Scene.{all_met}
use Rattle.step_rules.specs.Opened.{open_after}
use Rattle.line_step.specs.World.{link_of}
use Rattle.step_rules.proofs.Opening.{steps_open}
use Rattle.law_one_standing.specs.Carried.{Trace}
use Rattle.law_one_standing.proofs.Carrying.{SaysAlone}
use Rattle.law_one_standing.proofs.CarryingSides.{heard_in}
use Rattle.law_one_standing.proofs.Counting.{HearsAll, step_hears_all}
use Rattle.law_one_standing.proofs.MirroringEnds.{before_one}
use Rattle.law_one_standing.proofs.RestLine.{node_there}
use Rattle.law_one_standing.proofs.Signalled.{signals_unheard}
use Rattle.law_running_line.specs.Reading.{Reading}
use Rattle.law_running_line.specs.Running.{Running, at_place, unread_by, with_node, with_reading, with_wires}
use Rattle.law_running_line.specs.Stands.{Stands, line_of, node_in}
use Rattle.law_running_line.specs.Steady.{scene_of}
use Rattle.law_running_line.specs.Turns.{Turns, did}
use Rattle.law_running_line.specs.Waits.{had_above, had_below}
use Rattle.law_running_line.specs.Wire.{Awaits, Coming, Has, Hold, Left, Wire, given, read_at, with_end, with_read}
use Rattle.law_running_line.proofs.Waiting.{wire_of}
use Rattle.law_running_line.proofs.WiresActs.{Wired}
use Rattle.law_running_line.proofs.WiresBytes.{amid_get, bytes_entry, bytes_exit}
use Rattle.law_running_line.proofs.WiresLink.{IsLink, any_amid, has_is}
use Rattle.law_running_line.proofs.WiresWalk.{did_wired, read_wires, wires_own}

-- ---- a place among connections, and what is read of all of them

at_later : (place : ℕ) (change : Wire → Wire) (first : Wire) (wires : List Wire) → at_place (suc place) change (first ∷ wires) ≡ first ∷ at_place place change wires
at_later place change first wires = by (slice_get wires place)
  where
    by : (found : Option Wire) → elim found [ None ↦ first ∷ wires | Some wire ↦ slice_set (first ∷ wires) (suc place) (change wire) ] ≡ first ∷ elim found [ None ↦ wires | Some wire ↦ slice_set wires place (change wire) ]
    by None = refl
    by (Some wire) = refl

pub at_map : (change each : Wire → Wire) → ((wire : Wire) → change (each wire) ≡ each (change wire)) → (place : ℕ) (wires : List Wire) → at_place place change (map each wires) ≡ map each (at_place place change wires)
at_map change each same place [] = refl
at_map change each same zero (wire ∷ wires) = ap (λ (w : Wire). w ∷ map each wires) (same wire)
at_map change each same (suc place) (wire ∷ wires) =
    at_later place change (each wire) (map each wires) ∙ ap (λ (ws : List Wire). each wire ∷ ws) (at_map change each same place wires) ∙ ap (map each) (sym (at_later place change wire wires))

pub drop_read : (n k : ℕ) (coming : List Coming) → drop n (with_read k coming) ≡ with_read k (drop n coming)
drop_read zero k coming = refl
drop_read (suc n) k [] = refl
drop_read (suc n) k (c ∷ coming) = drop_read n k coming

given_read_exit : (n k : ℕ) (above below : Hold) (up down : List Coming) → given Exit n (read_at Exit k (wire_of above below up down)) ≡ read_at Exit k (given Exit n (wire_of above below up down))
given_read_exit n k Awaits below up down = refl
given_read_exit n k Has below up down = ap (λ (coming : List Coming). wire_of Has below coming down) (drop_read n k up)
given_read_exit n k Left below up down = refl

given_read_entry : (n k : ℕ) (above below : Hold) (up down : List Coming) → given Entry n (read_at Entry k (wire_of above below up down)) ≡ read_at Entry k (given Entry n (wire_of above below up down))
given_read_entry n k above Awaits up down = refl
given_read_entry n k above Has up down = ap (λ (coming : List Coming). wire_of above Has up coming) (drop_read n k down)
given_read_entry n k above Left up down = refl

pub given_read : (side : Side) (n k : ℕ) (wire : Wire) → given side n (read_at side k wire) ≡ read_at side k (given side n wire)
given_read Exit n k wire = given_read_exit n k wire.above wire.below wire.up wire.down
given_read Entry n k wire = given_read_entry n k wire.above wire.below wire.up wire.down

pub held_read : (side : Side) (hold : Hold) (k : ℕ) (wire : Wire) → with_end side hold (read_at side k wire) ≡ read_at side k (with_end side hold wire)
held_read Exit hold k wire = refl
held_read Entry hold k wire = refl

-- the connections behind a turn whose input changes the one at a place of its own side
pub wires_at : (j : ℕ) {reading : Reading} {input : Input} {moment : ℤ} {before after : Running} {told : List Act} (side : Side) (change : Wire → Wire) (turn : Turns reading (j + 1) input moment before after told)
    → ((s : Running) → after ≡ did false (j + 1) turn.place told s → s ≡ with_wires (link_of (j + 1) side) (at_place turn.place change) (with_node (j + 1) turn.next (with_reading (j + 1) turn.read turn.rest before))
    → ((k : ℕ) (wire : Wire) → change (read_at side k wire) ≡ read_at side k (change wire))
    → Wired side told (map (read_at side (length (events_at side turn.read))) (at_place turn.place change (before.wires (link_of (j + 1) side)))) (after.wires (link_of (j + 1) side)))
wires_at j {before = before} {after = after} {told = told} side change turn s last start same =
    let k : ℕ = link_of (j + 1) side in
    let n : ℕ = length (events_at side turn.read) in
    let read : Running = with_node (j + 1) turn.next (with_reading (j + 1) turn.read turn.rest before) in
    let first : s.wires k ≡ map (read_at side n) (at_place turn.place change (before.wires k)) =
    ap (λ (r : Running). r.wires k) start ∙ wires_own k (at_place turn.place change) read ∙ ap (at_place turn.place change) (read_wires j side turn.next turn.read turn.rest before) ∙ at_map change (read_at side n) (same n) turn.place (before.wires k) in
    subst (λ (ws : List Wire). Wired side told ws (after.wires k)) first (subst (λ (ws : List Wire). Wired side told (s.wires k) ws) (sym (ap (λ (r : Running). r.wires k) last)) (did_wired j turn.place side told s))

-- ---- what the machine hears

words_heard : {s t : NodeState} {read : List Sensed} {moment : ℤ} {told : List Act} (side : Side) (piece : Bor (List ℕ)) (steps : Steps s read (inputs.Bytes side piece) moment t told) → is_open side t.lane.body ≡ true → HearsAll side steps.lane.words told
words_heard {s} {t} {read} {moment} {told} side piece steps on =
    let desk : Desk = desk_of s moment in
    let lane = steps.lane in
    let opened : is_open side (machine_step desk read (Words side lane.words) s.lane.body).body ≡ true = sym (ap (λ (b : Machine). is_open side b) lane.body) ∙ on in
    let all : HearsAll side lane.words (machine_step desk read (Words side lane.words) s.lane.body).acts = step_hears_all side desk read lane.words s.lane.body opened in
    record { count = ap (heard_in side) steps.told ∙ signals_unheard side steps.made s.bridge t.lane.body ∙ ap (heard_in side) lane.told ∙ all.count; good = all.good }

words_close : {s t : NodeState} {read : List Sensed} {moment : ℤ} {told : List Act} (side : Side) (piece : Bor (List ℕ)) (steps : Steps s read (inputs.Bytes side piece) moment t told) → is_open side s.lane.body ≡ true → is_open side t.lane.body ≡ false → open_after side true told ≡ false
words_close {s} {t} {read} {moment} {told} side piece steps on off = sym (ap (λ (o : Bool). open_after side o told) on) ∙ sym (steps_open s read (inputs.Bytes side piece) moment t told side steps) ∙ off

-- ---- BYTES COME TO THE EXIT

pub below_bytes : SaysAlone → {t : Trace} (j : ℕ) {reading : Reading} {piece : Bor (List ℕ)} {moment : ℤ} {before after : Running} {told : List Act} → Stands t before → (turn : Turns reading (j + 1) (inputs.Bytes Exit piece) moment before after told) → AreFitActs told
    → IsLink turn.next (node_in before (j + 1 + 1)) (unread_by (j + 1 + 1) before) (all_met told (scene_of t before j)).below.up (all_met told (scene_of t before j)).below.down (after.wires (j + 1))
below_bytes alone {t} j {piece = piece} {moment = moment} {before = before} {after = after} {told = told} st turn fit =
    let own : node_in before (j + 1) ≡ turn.node = node_there (j + 1) (line_of before) turn.node turn.there in
    let b : NodeState = node_in before (j + 1 + 1) in
    let link : IsLink (node_in before (j + 1)) b (unread_by (j + 1 + 1) before) (t.up (j + 1)) (t.down (j + 1)) (before.wires (j + 1)) = record { waits = st.waits (j + 1); carried = st.carried (j + 1) } in
    let here : IsLink turn.node b (unread_by (j + 1 + 1) before) (t.up (j + 1)) (t.down (j + 1)) (before.wires (j + 1)) = subst (λ (n : NodeState). IsLink n b (unread_by (j + 1 + 1) before) (t.up (j + 1)) (t.down (j + 1)) (before.wires (j + 1))) own link in
    let comes = turn.meets in
    let wire : Wire = comes.at.wire in
    let on : is_open Exit turn.node.lane.body ≡ true = sym here.waits.exit_open ∙ any_amid had_above (amid_get (before.wires (j + 1)) turn.place wire comes.at.there) (has_is comes.at.held) in
    bytes_exit alone turn.node turn.next b (length (events_at Exit turn.read)) told (scene_of t before j) turn.place wire piece.now turn.steps.lane.words fit here refl comes.at.there comes.at.held comes.some comes.front
    (wires_at j Exit (given Exit (length piece.now)) turn _ turn.after_is refl (λ k w. given_read Exit (length piece.now) k w)) turn.steps.lane.brings.0 (λ still. words_heard Exit piece turn.steps still) (λ off. words_close Exit piece turn.steps on off)
    (sym (steps_open turn.node turn.read (inputs.Bytes Exit piece) moment turn.next told Exit turn.steps))

-- ---- BYTES COME TO THE ENTRY

pub above_bytes : SaysAlone → {t : Trace} (j : ℕ) {reading : Reading} {piece : Bor (List ℕ)} {moment : ℤ} {before after : Running} {told : List Act} → Stands t before → (turn : Turns reading (j + 1) (inputs.Bytes Entry piece) moment before after told) → AreFitActs told → IsFreeRead turn.rest turn.next.lane.body
    → IsLink (node_in before j) turn.next turn.rest (all_met told (scene_of t before j)).above.up (all_met told (scene_of t before j)).above.down (after.wires j)
above_bytes alone {t} j {piece = piece} {moment = moment} {before = before} {after = after} {told = told} st turn fit free =
    let own : node_in before (j + 1) ≡ turn.node = node_there (j + 1) (line_of before) turn.node turn.there in
    let a : NodeState = node_in before j in
    let link : IsLink a (node_in before (j + 1)) (unread_by (j + 1) before) (t.up j) (t.down j) (before.wires j) = record { waits = st.waits j; carried = st.carried j } in
    let here : IsLink a turn.node (unread_by (j + 1) before) (t.up j) (t.down j) (before.wires j) = subst (λ (n : NodeState). IsLink a n (unread_by (j + 1) before) (t.up j) (t.down j) (before.wires j)) own link in
    let comes = turn.meets in
    let wire : Wire = comes.at.wire in
    let there : slice_get (before.wires j) turn.place ≡ Some wire = subst (λ (k : ℕ). slice_get (before.wires k) turn.place ≡ Some wire) (before_one j) comes.at.there in
    let on : is_open Entry turn.node.lane.body ≡ true = sym here.waits.entry_open ∙ any_amid had_below (amid_get (before.wires j) turn.place wire there) (has_is comes.at.held) in
    let wired : Wired Entry told (map (read_at Entry (length (events_at Entry turn.read))) (at_place turn.place (given Entry (length piece.now)) (before.wires j))) (after.wires j) =
    subst (λ (k : ℕ). Wired Entry told (map (read_at Entry (length (events_at Entry turn.read))) (at_place turn.place (given Entry (length piece.now)) (before.wires k))) (after.wires k)) (before_one j)
    (wires_at j Entry (given Entry (length piece.now)) turn _ turn.after_is refl (λ k w. given_read Entry (length piece.now) k w)) in
    bytes_entry alone a turn.node turn.next (length (events_at Entry turn.read)) told (scene_of t before j) turn.place wire piece.now turn.steps.lane.words fit here refl there comes.at.held comes.some comes.front wired
    turn.steps.lane.brings.0 (λ still. words_heard Entry piece turn.steps still) (λ off. words_close Entry piece turn.steps on off) (sym (steps_open turn.node turn.read (inputs.Bytes Entry piece) moment turn.next told Entry turn.steps)) free
