-- BYTES COME TO A SIDE on the connection that it has: what is heard are the oldest messages to it, and the others still come.
use Rattle.std.proofs.Common.{Bool, List, Some, [], ap, false, length, map, refl, slice_get, slice_set, subst, suc, sym, true, zero, ℕ, ◌++◌, ◌∙◌, ◌∷◌, ◌≡◌, ◌≢◌}
use Rattle.std.specs.Prelude.{drop, take}
use Rattle.std.proofs.lemmas.Bool.{false≢true}
use Rattle.std.proofs.lemmas.List.{take-append-drop}
use Rattle.std.specs.List.{AllByRecursion, list_any}
use Rattle.line_base.specs.declared.states.Side.{Side}
use Rattle.line_base.specs.declared.states.Side.TheVariants.{Entry, Exit}
use Rattle.board_record.specs.declared.sensed.Sensed.{Sensed}
use Rattle.hermes_horizontal.specs.declared.message.Horizontal.{Horizontal}
use Rattle.session_core.specs.declared.state.SessionState.TheVariants.{Handshake}
use Rattle.handover_in.specs.State.{may_connect}
use Rattle.node_core.specs.Node.{NodeState}
use Rattle.node_core.specs.Sides.{is_open}
use Rattle.node_core.specs.Words.{AreWords}
use Rattle.node_core.specs.declared.act.Act.{Act}
use Rattle.node_core.specs.declared.word.Word.{Word}
use Rattle.law_custody.specs.Bytes.{Flows, texts_of}
use Rattle.law_link_messages.specs.Fit.{AreFitActs, AreFitWords}
use Rattle.law_link_messages.specs.Heard.{Heard, bodies}
use Rattle.law_link_messages.proofs.Fitting.{fit_behind}
use Rattle.law_machine_custody.specs.Ahead.{IsFreeRead}
use Rattle.law_machine_custody.specs.Flight.{AreOldest}
use Rattle.law_machine_custody.specs.Scene.{Scene, all_met}
use Rattle.step_rules.specs.Opened.{open_after}
use Rattle.law_one_standing.proofs.Carrying.{SaysAlone}
use Rattle.law_one_standing.proofs.CarryingSides.{heard_in}
use Rattle.law_one_standing.proofs.Counting.{HearsAll}
use Rattle.law_one_standing.proofs.MirroringFlow.{bodies_drop}
use Rattle.law_running_line.specs.Running.{at_place}
use Rattle.law_running_line.specs.Stands.{Carries, is_joined}
use Rattle.law_running_line.specs.Waits.{AtMostOne, IsUncome, IsUntaken, Waits, had_above, had_below, is_of_below, kept_below, none_passes, passes_alone, passes_not}
use Rattle.law_running_line.specs.Wire.{Awaits, Coming, Has, Hold, Left, Wire, bytes_of, given, has, read_at}
use Rattle.law_running_line.proofs.Waiting.{all_set, any_set, most_set, wire_of}
use Rattle.law_running_line.proofs.WiresActs.{Home, IsBare, IsFine, IsMid, Seen, Wired, acts_each, acts_mid, home_closes, home_hears, seen, with_comes}
use Rattle.law_running_line.proofs.WiresLink.{Amid, AsideEntry, AsideExit, IsLink, all_from, amid_first, amid_later, aside_entry, aside_exit, at_amid, bare_entry, bare_exit, end_entry, end_exit, entries_read, entry_leaves, entry_more, exit_leaves, exit_more, exits_read, has_is, link_seen, mid_read, none_amid, of_is}
use Rattle.law_running_line.proofs.WiresParts.{Of, awaits_has, bytes_both, has_awaits, left_has}
use Rattle.law_running_line.proofs.TurnJoined.{placed}

-- ---- what a piece comes to

pub record Arrives (side : Side) (told : List Act) (words : List Word) (new : List ℕ) (later : List Coming) (messages : List Horizontal) : Type 0 where
  pub fit : AreFitWords words
  pub oldest : AreOldest words messages
  pub home : Home side told new later messages

home_when : {new : List ℕ} {later : List Coming} {messages : List Horizontal} (side : Side) (told : List Act) (still : Bool) → (still ≡ true → Carries new later (drop (heard_in side told) messages)) → (still ≡ false → open_after side true told ≡ false) → Home side told new later messages
home_when side told true hears closes = home_hears (hears refl)
home_when side told false hears closes = home_closes (closes refl)

pub arrives : SaysAlone → {messages : List Horizontal} (side : Side) (told : List Act) (words : List Word) (old piece new : List ℕ) (still : Bool) (coming later : List Coming) → bytes_of coming ≡ piece ++ bytes_of later → AreWords old piece new still words
    → (still ≡ true → HearsAll side words told) → (still ≡ false → open_after side true told ≡ false) → Carries old coming messages → Arrives side told words new later messages
arrives alone {messages} side told words old piece new still coming later is are hears closes k =
    let all : Flows old (piece ++ bytes_of later) (texts_of k.said) = subst (λ (bytes : List ℕ). Flows old bytes (texts_of k.said)) is k.flows in
    let sayable = alone.sayable k.said k.fit in
    let heard : Heard k.said words new (bytes_of later) still = alone.oldest old piece (bytes_of later) new still words k.said sayable all are in
    let rest : still ≡ true → Carries new later (drop (heard_in side told) messages) = λ on. record {
      said = drop (length words) k.said;
      fit = fit_behind (length words) k.said k.fit;
      flows = heard.flows on;
      are = ap (drop (heard_in side told)) k.are ∙ ap (λ (n : ℕ). drop n (bodies k.said)) (hears on).count ∙ sym (bodies_drop (length words) k.said);
    } in
    record {
      fit = alone.fit_words old piece (bytes_of later) new still words k.said sayable k.fit all are;
      oldest = subst (λ (ms : List Horizontal). AreOldest words ms) (sym k.are) heard.oldest;
      home = home_when side told still rest closes;
    }

-- ---- the connection at a place

pub amid_get : (wires : List Wire) (place : ℕ) (wire : Wire) → slice_get wires place ≡ Some wire → Amid wire wires
amid_get [] place wire is = absurd (cc)
amid_get (first ∷ wires) zero wire is = subst (λ (w : Wire). Amid w (first ∷ wires)) (same_first first wire is) amid_first
  where
    same_first : (first wire : Wire) → Some first ≡ Some wire → first ≡ wire
    same_first first wire is = cc
amid_get (first ∷ wires) (suc place) wire is = amid_later (amid_get wires place wire is)

-- one alone passes: so all that do are it
pub same_amid : (test : Wire → Bool) {v w : Wire} {wires : List Wire} → AtMostOne test wires → Amid v wires → Amid w wires → test v ≡ true → test w ≡ true → v ≡ w
same_amid test none_passes here there x y = elim here [ ]
same_amid test (passes_not not others) amid_first amid_first x y = refl
same_amid test (passes_not not others) amid_first (amid_later there) x y = absurd (false≢true (sym not ∙ x))
same_amid test (passes_not not others) (amid_later there) amid_first x y = absurd (false≢true (sym not ∙ y))
same_amid test (passes_not not others) (amid_later here) (amid_later there) x y = same_amid test others here there x y
same_amid test (passes_alone none) amid_first amid_first x y = refl
same_amid test (passes_alone none) amid_first (amid_later there) x y = absurd (false≢true (sym (none_amid test there none) ∙ y))
same_amid test (passes_alone none) (amid_later there) other x y = absurd (false≢true (sym (none_amid test there none) ∙ x))

not_others : (test : Wire → Bool) (P Q : Wire → Type 0) → ((wire : Wire) → test wire ≡ false → P wire → Q wire) → (wires : List Wire) → list_any test wires ≡ false → AllByRecursion P wires → AllByRecursion Q wires
not_others test P Q next wires none all = all_from Q wires (λ wire there. next wire (none_amid test there none) (at_amid P there all))

-- the one that passes is changed, and the others don't pass
pub alone_set : (test : Wire → Bool) (P Q : Wire → Type 0) → ((wire : Wire) → test wire ≡ false → P wire → Q wire) → (new : Wire) → Q new → {wires : List Wire} → AtMostOne test wires → (place : ℕ) (wire : Wire) → slice_get wires place ≡ Some wire → test wire ≡ true
    → AllByRecursion P wires → AllByRecursion Q (slice_set wires place new)
alone_set test P Q next new q none_passes place wire is passes all = tt
alone_set test P Q next new q (passes_not {wire = first} not others) zero wire is passes all = absurd (false≢true (sym not ∙ ap_some first wire is passes))
  where
    ap_some : (first wire : Wire) → Some first ≡ Some wire → test wire ≡ true → test first ≡ true
    ap_some first wire is passes = ap test (same first wire is) ∙ passes
      where
        same : (first wire : Wire) → Some first ≡ Some wire → first ≡ wire
        same first wire is = cc
alone_set test P Q next new q (passes_not {wire = first} not others) (suc place) wire is passes all = (next first not all.0, alone_set test P Q next new q others place wire is passes all.1)
alone_set test P Q next new q (passes_alone {wires = wires} none) zero wire is passes all = (q, not_others test P Q next wires none all.1)
alone_set test P Q next new q (passes_alone {wires = wires} none) (suc place) wire is passes all = absurd (false≢true (sym (none_amid test (amid_get wires place wire is) none) ∙ passes))

none_taken : (n : ℕ) → bytes_of (take n []) ≡ []
none_taken zero = refl
none_taken (suc n) = refl

given_exit : (n : ℕ) (above below : Hold) (up down : List Coming) → above ≡ Has → given Exit n (wire_of above below up down) ≡ wire_of above below (drop n up) down
given_exit n Awaits below up down is = absurd (awaits_has is)
given_exit n Has below up down is = refl
given_exit n Left below up down is = absurd (left_has is)

given_entry : (n : ℕ) (above below : Hold) (up down : List Coming) → below ≡ Has → given Entry n (wire_of above below up down) ≡ wire_of above below up (drop n down)
given_entry n above Awaits up down is = absurd (awaits_has is)
given_entry n above Has up down is = refl
given_entry n above Left up down is = absurd (left_has is)

pub parted : (n : ℕ) (coming : List Coming) (piece : List ℕ) → piece ≡ bytes_of (take n coming) → bytes_of coming ≡ piece ++ bytes_of (drop n coming)
parted n coming piece is =
    ap bytes_of (sym (take-append-drop n coming)) ∙ bytes_both (take n coming) (drop n coming) ∙ ap (λ (front : List ℕ). front ++ bytes_of (drop n coming)) (sym is)

bare_given : {far : List ℕ} {l : Seen} {own beyond : Hold} {to to2 from : List Coming} {side : Side} {told : List Act} → (beyond ≡ Awaits → ⊥) → IsBare side told far l own beyond to from → IsBare side told far l own beyond to2 from
bare_given dry k = record { goes = k.goes; quiet = k.quiet; called = k.called; lone = λ awaits. absurd (dry awaits); on = k.on; off = k.off }

exit_given : {S H M : Type 0} {own beyond : Hold} {to to2 from : List Coming} → own ≡ Has → AsideExit S H M own beyond to from → AsideExit S H M own beyond to2 from
exit_given is k = record { untaken = λ awaits. absurd (has_awaits (sym is ∙ awaits)); called = k.called; first = k.first; may = k.may }

entry_given : {S H M : Type 0} {own beyond : Hold} {to to2 from : List Coming} → own ≡ Has → AsideEntry S H M own beyond to from → AsideEntry S H M own beyond to2 from
entry_given is k = record { uncome = λ awaits. absurd (has_awaits (sym is ∙ awaits)); called = k.called; first = k.first; may = k.may }

pub has_not_false : {hold : Hold} → has hold ≡ false → hold ≡ Has → ⊥
has_not_false none is = false≢true (sym none ∙ ap has is)

pub of_not_false : {hold : Hold} → is_of_below hold ≡ false → hold ≡ Has → ⊥
of_not_false none is = false≢true (sym none ∙ ap is_of_below is)

-- ---- at the exit

pub bytes_exit : SaysAlone → (a a2 b : NodeState) {unread : List Sensed} {up down : List Horizontal} {wires later : List Wire} (k : ℕ) (told : List Act) (c : Scene) (place : ℕ) (wire : Wire) (piece : List ℕ) (words : List Word) → AreFitActs told → IsLink a b unread up down wires
    → seen Exit c ≡ link_seen wires up down → slice_get wires place ≡ Some wire → wire.above ≡ Has → piece ≢ [] → piece ≡ bytes_of (take (length piece) wire.up) → Wired Exit told (map (read_at Exit k) (at_place place (given Exit (length piece)) wires)) later
    → AreWords a.lane.exit_bytes piece a2.lane.exit_bytes (is_open Exit a2.lane.body) words → (is_open Exit a2.lane.body ≡ true → HearsAll Exit words told) → (is_open Exit a2.lane.body ≡ false → open_after Exit true told ≡ false)
    → open_after Exit (is_open Exit a.lane.body) told ≡ is_open Exit a2.lane.body → IsLink a2 b unread (seen Exit (all_met told c)).home (seen Exit (all_met told c)).away later
bytes_exit alone a a2 b {unread} {up} {down} {wires} {later} k told c place wire piece words fit link is there own some front wired are hears closes opened =
    let w : Waits a.lane.body b.lane.body unread wires = link.waits in
    let n : ℕ = length piece in
    let amid : Amid wire wires = amid_get wires place wire there in
    let w2 : Wire = record wire { up = drop n wire.up } in
    let L : Seen = link_seen wires up down in
    let dry : wire.below ≡ Awaits → ⊥ = λ awaits. let u : IsUncome wire = at_amid _ amid w.uncome awaits in some (front ∙ ap (λ (coming : List Coming). bytes_of (take n coming)) u.up ∙ none_taken n) in
    let never : (v : Wire) → Amid v wires → v.above ≡ Has → v.below ≡ Awaits → ⊥ = λ v here has_it awaits. dry (sym (ap (λ (x : Wire). x.below) (same_amid had_above w.one_above here amid (has_is has_it) (has_is own))) ∙ awaits) in
    let arr : Arrives Exit told words a2.lane.exit_bytes (drop n wire.up) up =
    arrives alone Exit told words a.lane.exit_bytes piece a2.lane.exit_bytes (is_open Exit a2.lane.body) wire.up (drop n wire.up) (parted n wire.up piece front) are hears closes (at_amid _ amid link.carried.up own) in
    let bare : (v : Wire) → Amid v wires → Of Exit (IsBare Exit told b.lane.entry_bytes L) v = bare_exit told w link.carried (λ v here has_it awaits. absurd (never v here has_it awaits)) in
    let B : Wire → Type 0 = λ (v : Wire). Of Exit (IsBare Exit told b.lane.entry_bytes L) v in
    let Q : Wire → Type 0 = λ (v : Wire). Of Exit (IsFine Exit told a2.lane.exit_bytes b.lane.entry_bytes L) v in
    let m : IsMid Exit told a2.lane.exit_bytes b.lane.entry_bytes (is_open Exit a.lane.body) (is_open Entry b.lane.body) L (slice_set wires place w2) = record {
      fine = alone_set had_above B Q (λ v not k. with_comes (λ has_it. absurd (has_not_false not has_it)) k) w2 (with_comes (λ has_it. arr.home) (bare_given dry (bare wire amid))) w.one_above place wire there (has_is own) (all_from B wires bare);
      own = any_set had_above wire w2 refl wires place there ∙ w.exit_open;
      beyond = any_set had_below wire w2 refl wires place there ∙ w.entry_open;
      joined = any_set is_joined wire w2 refl wires place there;
      none_home = λ none. link.carried.none_up (w.exit_open ∙ none);
      none_away = λ none. link.carried.none_down (w.entry_open ∙ none);
      one_own = most_set had_above wire w2 refl place there w.one_above;
      one_far = most_set kept_below wire w2 refl place there w.one_below;
    } in
    let set : at_place place (given Exit n) wires ≡ slice_set wires place w2 = placed place (given Exit n) wires wire there ∙ ap (slice_set wires place) (given_exit n wire.above wire.below wire.up wire.down own) in
    let wired2 : Wired Exit told (map (read_at Exit k) (slice_set wires place w2)) later = subst (λ (ws : List Wire). Wired Exit told (map (read_at Exit k) ws) later) set wired in
    let start : IsMid Exit told a2.lane.exit_bytes b.lane.entry_bytes (is_open Exit a.lane.body) (is_open Entry b.lane.body) (seen Exit c) (map (read_at Exit k) (slice_set wires place w2)) =
    subst (λ (s : Seen). IsMid Exit told a2.lane.exit_bytes b.lane.entry_bytes (is_open Exit a.lane.body) (is_open Entry b.lane.body) s (map (read_at Exit k) (slice_set wires place w2))) (sym is) (mid_read Exit told k m) in
    let S : Type 0 = is_open Exit a2.lane.body ≡ true → a2.lane.body.exit.session.state ≡ Handshake in
    let H : Type 0 = b.lane.body.entry.session.state ≡ Handshake in
    let M : Type 0 = may_connect b.lane.body.intake.phase ≡ true in
    let aside : AllByRecursion (Of Exit (AsideExit S H M)) wires = aside_exit a b S w (λ v here has_it awaits. absurd (never v here has_it awaits)) in
    end_exit {a = a2} {b = b} (acts_mid alone Exit told c fit wired2 start) opened refl
    (acts_each (AsideExit S H M) exit_more exit_leaves Exit told wired2 (exits_read S H M k (slice_set wires place w2) (all_set (Of Exit (AsideExit S H M)) w2 (exit_given own (at_amid _ amid aside)) wires place aside))) w.free

-- ---- at the entry

pub bytes_entry : SaysAlone → (a b b2 : NodeState) {unread rest : List Sensed} {up down : List Horizontal} {wires later : List Wire} (k : ℕ) (told : List Act) (c : Scene) (place : ℕ) (wire : Wire) (piece : List ℕ) (words : List Word) → AreFitActs told → IsLink a b unread up down wires
    → seen Entry c ≡ link_seen wires down up → slice_get wires place ≡ Some wire → wire.below ≡ Has → piece ≢ [] → piece ≡ bytes_of (take (length piece) wire.down) → Wired Entry told (map (read_at Entry k) (at_place place (given Entry (length piece)) wires)) later
    → AreWords b.lane.entry_bytes piece b2.lane.entry_bytes (is_open Entry b2.lane.body) words → (is_open Entry b2.lane.body ≡ true → HearsAll Entry words told) → (is_open Entry b2.lane.body ≡ false → open_after Entry true told ≡ false)
    → open_after Entry (is_open Entry b.lane.body) told ≡ is_open Entry b2.lane.body → IsFreeRead rest b2.lane.body → IsLink a b2 rest (seen Entry (all_met told c)).away (seen Entry (all_met told c)).home later
bytes_entry alone a b b2 {unread} {rest} {up} {down} {wires} {later} k told c place wire piece words fit link is there own some front wired are hears closes opened free =
    let w : Waits a.lane.body b.lane.body unread wires = link.waits in
    let n : ℕ = length piece in
    let amid : Amid wire wires = amid_get wires place wire there in
    let w2 : Wire = record wire { down = drop n wire.down } in
    let L : Seen = link_seen wires down up in
    let dry : wire.above ≡ Awaits → ⊥ = λ awaits. let u : IsUntaken wire = at_amid _ amid w.untaken awaits in some (front ∙ ap (λ (coming : List Coming). bytes_of (take n coming)) u.down ∙ none_taken n) in
    let never : (v : Wire) → Amid v wires → v.above ≡ Awaits → v.below ≡ Has → ⊥ = λ v here awaits has_it. dry (sym (ap (λ (x : Wire). x.above) (same_amid kept_below w.one_below here amid (of_is has_it) (of_is own))) ∙ awaits) in
    let lone : (v : Wire) → Amid v wires → v.below ≡ Awaits → ⊥ = λ v here awaits. has_awaits (sym own ∙ sym (ap (λ (x : Wire). x.below) (same_amid kept_below w.one_below here amid (ap is_of_below awaits) (of_is own))) ∙ awaits) in
    let arr : Arrives Entry told words b2.lane.entry_bytes (drop n wire.down) down =
    arrives alone Entry told words b.lane.entry_bytes piece b2.lane.entry_bytes (is_open Entry b2.lane.body) wire.down (drop n wire.down) (parted n wire.down piece front) are hears closes (at_amid _ amid link.carried.down own) in
    let bare : (v : Wire) → Amid v wires → Of Entry (IsBare Entry told a.lane.exit_bytes L) v = bare_entry told w link.carried (λ v here awaits has_it. absurd (never v here awaits has_it)) in
    let B : Wire → Type 0 = λ (v : Wire). Of Entry (IsBare Entry told a.lane.exit_bytes L) v in
    let Q : Wire → Type 0 = λ (v : Wire). Of Entry (IsFine Entry told b2.lane.entry_bytes a.lane.exit_bytes L) v in
    let m : IsMid Entry told b2.lane.entry_bytes a.lane.exit_bytes (is_open Entry b.lane.body) (is_open Exit a.lane.body) L (slice_set wires place w2) = record {
      fine = alone_set kept_below B Q (λ v not k. with_comes (λ has_it. absurd (of_not_false not has_it)) k) w2 (with_comes (λ has_it. arr.home) (bare_given dry (bare wire amid))) w.one_below place wire there (of_is own) (all_from B wires bare);
      own = any_set had_below wire w2 refl wires place there ∙ w.entry_open;
      beyond = any_set had_above wire w2 refl wires place there ∙ w.exit_open;
      joined = any_set is_joined wire w2 refl wires place there;
      none_home = λ none. link.carried.none_down (w.entry_open ∙ none);
      none_away = λ none. link.carried.none_up (w.exit_open ∙ none);
      one_own = most_set kept_below wire w2 refl place there w.one_below;
      one_far = most_set had_above wire w2 refl place there w.one_above;
    } in
    let set : at_place place (given Entry n) wires ≡ slice_set wires place w2 = placed place (given Entry n) wires wire there ∙ ap (slice_set wires place) (given_entry n wire.above wire.below wire.up wire.down own) in
    let wired2 : Wired Entry told (map (read_at Entry k) (slice_set wires place w2)) later = subst (λ (ws : List Wire). Wired Entry told (map (read_at Entry k) ws) later) set wired in
    let start : IsMid Entry told b2.lane.entry_bytes a.lane.exit_bytes (is_open Entry b.lane.body) (is_open Exit a.lane.body) (seen Entry c) (map (read_at Entry k) (slice_set wires place w2)) =
    subst (λ (s : Seen). IsMid Entry told b2.lane.entry_bytes a.lane.exit_bytes (is_open Entry b.lane.body) (is_open Exit a.lane.body) s (map (read_at Entry k) (slice_set wires place w2))) (sym is) (mid_read Entry told k m) in
    let S : Type 0 = is_open Entry b2.lane.body ≡ true → b2.lane.body.entry.session.state ≡ Handshake in
    let H : Type 0 = a.lane.body.exit.session.state ≡ Handshake in
    let M : Type 0 = may_connect b2.lane.body.intake.phase ≡ true in
    let plain : AllByRecursion (Of Entry (AsideEntry S H (may_connect b.lane.body.intake.phase ≡ true))) wires = aside_entry a b S (may_connect b.lane.body.intake.phase ≡ true) w (λ v here awaits has_it. absurd (never v here awaits has_it)) (λ off may. may) in
    let aside : AllByRecursion (Of Entry (AsideEntry S H M)) wires = all_from _ wires (λ v here. let k : Of Entry (AsideEntry S H (may_connect b.lane.body.intake.phase ≡ true)) v = at_amid _ here plain in record { uncome = k.uncome; called = k.called; first = k.first; may = λ awaits. absurd (lone v here awaits) }) in
    end_entry {a = a} {b = b2} (acts_mid alone Entry told c fit wired2 start) opened refl
    (acts_each (AsideEntry S H M) entry_more entry_leaves Entry told wired2 (entries_read S H M k (slice_set wires place w2) (all_set (Of Entry (AsideEntry S H M)) w2 (entry_given own (at_amid _ amid aside)) wires place aside))) free
