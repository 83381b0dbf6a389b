-- A CONNECTION COMES to a side that has none: the exit takes one that it awaits, or the entry finds one made that it awaits.
use Rattle.std.proofs.Common.{Bool, List, Some, [], ap, false, map, refl, slice_get, slice_set, subst, suc, sym, true, zero, ℕ, ◌++◌, ◌∙◌, ◌∷◌, ◌≡◌, ◌&&◌}
use Rattle.std.specs.Prelude.{drop}
use Rattle.std.proofs.lemmas.Bool.{false≢true, or_parts}
use Rattle.std.specs.List.{AllByRecursion, list_any}
use Rattle.hermes_stream.specs.Frames.{Frames}
use Rattle.line_base.specs.declared.states.Side.TheVariants.{Entry, Exit}
use Rattle.board_record.specs.declared.sensed.Sensed.{Sensed}
use Rattle.hermes_horizontal.specs.declared.message.Horizontal.{Horizontal}
use Rattle.hermes_horizontal.specs.declared.message.Message.{Message}
use Rattle.session_core.specs.declared.state.SessionState.TheVariants.{Handshake}
use Rattle.handover_in.specs.State.{may_connect}
use Rattle.node_core.specs.Node.{NodeState}
use Rattle.node_core.specs.Sides.{is_open}
use Rattle.node_core.specs.declared.act.Act.{Act}
use Rattle.law_custody.specs.Bytes.{Flows, texts_of}
use Rattle.law_custody.proofs.Texts.{nothing_flows}
use Rattle.law_custody.specs.Words.{DownstreamService, up_words}
use Rattle.law_link_messages.specs.Fit.{AreFitActs, sent_on}
use Rattle.law_link_messages.specs.Heard.{bodies}
use Rattle.law_machine_custody.specs.Ahead.{IsFreeRead}
use Rattle.law_machine_custody.specs.Scene.{Scene, all_met}
use Rattle.step_rules.specs.Opened.{open_after}
use Rattle.law_one_standing.proofs.Carrying.{SaysAlone}
use Rattle.law_one_standing.proofs.CarryingSides.{heard_in}
use Rattle.law_running_line.specs.Off.{AreMute}
use Rattle.law_running_line.specs.Stands.{Carries, is_joined}
use Rattle.law_running_line.specs.Steady.{unless_joined}
use Rattle.law_running_line.specs.Waits.{AtMostOne, IsUncome, IsUntaken, SaidUp, Says, Waits, had_above, had_below, has_come, is_of_below, kept_below, none_passes, not_come, passes_alone, passes_not, was_left}
use Rattle.law_running_line.specs.Wire.{Awaits, Coming, Has, Hold, Left, Wire, bytes_of, has, read_at}
use Rattle.law_running_line.proofs.Waiting.{any_fewer, any_set, most_set}
use Rattle.law_running_line.proofs.WiresActs.{IsFine, IsMid, Seen, Wired, acts_each, acts_mid, home_hears, seen}
use Rattle.law_running_line.proofs.WiresBytes.{alone_set, amid_get, has_not_false, of_not_false, same_amid}
use Rattle.law_running_line.proofs.WiresLink.{Amid, alone_amid, no_joined, no_joint, says_call, AsideEntry, AsideExit, IsLink, all_from, amid_first, amid_later, any_amid, at_amid, end_entry, end_exit, entries_read, entry_leaves, entry_more, exit_leaves, exit_more, exits_read, has_is, mid_read, mute_down, none_amid, says_quiet}
use Rattle.law_running_line.proofs.WiresParts.{Of, awaits_has, awaits_left, has_awaits, has_not, left_awaits, left_has}
use Rattle.law_running_line.proofs.TurnLinks.{any_weaker, had_of}

-- ---- a list with one connection changed

amid_set : (new : Wire) (wires : List Wire) (place : ℕ) (wire : Wire) → slice_get wires place ≡ Some wire → Amid new (slice_set wires place new)
amid_set new [] place wire is = absurd (cc)
amid_set new (first ∷ wires) zero wire is = amid_first
amid_set new (first ∷ wires) (suc place) wire is = amid_later (amid_set new wires place wire is)

most_one : (test : Wire → Bool) (new : Wire) (wires : List Wire) (place : ℕ) → list_any test wires ≡ false → AtMostOne test (slice_set wires place new)
most_one test new [] place none = none_passes
most_one test new (wire ∷ wires) zero none = passes_alone (or_parts _ _ none).1
most_one test new (wire ∷ wires) (suc place) none = passes_not (or_parts _ _ none).0 (most_one test new wires place (or_parts _ _ none).1)

pub all_set_as : (P Q : Wire → Type 0) → ((wire : Wire) → P wire → Q wire) → (new : Wire) → Q new → (wires : List Wire) (place : ℕ) → AllByRecursion P wires → AllByRecursion Q (slice_set wires place new)
all_set_as P Q next new q [] place all = tt
all_set_as P Q next new q (wire ∷ wires) zero all = (q, all_from Q wires (λ other there. next other (at_amid P there all.1)))
all_set_as P Q next new q (wire ∷ wires) (suc place) all = (next wire all.0, all_set_as P Q next new q wires place all.1)

-- ---- the same bytes are the same texts

no_texts : (said : List Message) → texts_of said ≡ [] → said ≡ []
no_texts [] is = refl
no_texts (message ∷ said) is = absurd (cc)

no_bodies : (said : List Message) → bodies said ≡ [] → said ≡ []
no_bodies [] is = refl
no_bodies (message ∷ said) is = absurd (cc)

none_said : {coming : List Coming} (said other : List Message) → Says coming said → Says coming other → other ≡ [] → bodies said ≡ []
none_said said other one two none = ap bodies (no_texts said (ap (λ (f : Frames). f.messages) (sym one.flows.frames ∙ two.flows.frames) ∙ ap texts_of none))

none_comes : {coming : List Coming} (said : List Message) → Says coming said → coming ≡ [] → bodies said ≡ []
none_comes said says none =
    let nothing : Flows [] [] (texts_of said) = subst (λ (c : List Coming). Flows [] (bytes_of c) (texts_of said)) none says.flows in
    ap bodies (no_texts said (ap (λ (f : Frames). f.messages) (sym nothing.frames ∙ nothing_flows.frames)))

-- ---- by the other end

unless_has : (hold : Hold) (before : List Horizontal) → hold ≡ Has → unless_joined hold before ≡ []
unless_has Awaits before is = absurd (awaits_has is)
unless_has Has before is = refl
unless_has Left before is = absurd (left_has is)

unless_not : (hold : Hold) (before : List Horizontal) → (hold ≡ Has → ⊥) → unless_joined hold before ≡ before
unless_not Awaits before not = refl
unless_not Has before not = absurd (not refl)
unless_not Left before not = refl

unless_none : (hold : Hold) (before : List Horizontal) → before ≡ [] → unless_joined hold before ≡ []
unless_none Awaits before none = none
unless_none Has before none = refl
unless_none Left before none = none

kept_or_left : (P : Type 0) (hold : Hold) → (is_of_below hold ≡ true → P) → (is_of_below hold ≡ false → P) → P
kept_or_left P Awaits kept left = kept refl
kept_or_left P Has kept left = kept refl
kept_or_left P Left kept left = left refl

-- the link at a side to which a connection comes
abbrev come_seen : Hold → List Horizontal → List Horizontal → Seen
come_seen beyond said before = record { stands = has beyond; home = said; away = unless_joined beyond before }

-- ---- THE EXIT TAKES ONE

fine_beside : {a b : NodeState} {unread : List Sensed} {up down : List Horizontal} {wires : List Wire} (told : List Act) (said : List Message) (wire v : Wire) → IsLink a b unread up down wires → Amid wire wires → Amid v wires → list_any had_above wires ≡ false
    → (wire.below ≡ Has → v.below ≡ Has → ⊥) → Of Exit (IsFine Exit told [] b.lane.entry_bytes (come_seen wire.below (bodies said) down)) v
fine_beside {b = b} {down = down} told said wire v link here there none apart =
    let not : v.above ≡ Has → ⊥ = has_not_false (none_amid had_above there none) in
    let alone : v.below ≡ Has → wire.below ≡ Has → ⊥ = λ far own. apart own far in
    record {
      comes = λ has_it. absurd (not has_it);
      goes = λ far. subst (λ (ms : List Horizontal). Carries b.lane.entry_bytes v.down ms) (sym (unless_not wire.below down (alone far))) (at_amid _ there link.carried.down far);
      quiet = λ has_it awaits. absurd (not has_it);
      called = λ awaits far. unless_none wire.below down (at_amid _ there link.carried.called awaits far);
      lone = λ awaits. let u : IsUncome v = at_amid _ there link.waits.uncome awaits in record { said = u.said; says = u.says; may = says_quiet v.above (bodies u.said) told u.quiet (λ has_it. absurd (not has_it)); none = u.up };
      on = λ has_it far. absurd (not has_it);
      off = λ far no. has_not wire.below (alone far);
    }

fine_taken : {a b : NodeState} {unread : List Sensed} {up down : List Horizontal} {wires : List Wire} (told : List Act) (said : List Message) (wire : Wire) → IsLink a b unread up down wires → Amid wire wires → wire.above ≡ Awaits → Says wire.up said → heard_in Exit told ≡ 0 → AreMute Exit told
    → IsFine Exit told [] b.lane.entry_bytes (come_seen wire.below (bodies said) down) Has wire.below wire.up wire.down
fine_taken {b = b} {down = down} told said wire link here awaits says heard mute =
    let u : IsUntaken wire = at_amid _ here link.waits.untaken awaits in
    record {
      comes = λ has_it. home_hears (subst (λ (n : ℕ). Carries [] wire.up (drop n (bodies said))) (sym heard) (record { said = said; fit = says.fit; flows = says.flows; are = refl }));
      goes = λ far. subst (λ (ms : List Horizontal). Carries b.lane.entry_bytes wire.down ms) (at_amid _ here link.carried.called awaits far ∙ sym (unless_has wire.below down far)) (at_amid _ here link.carried.down far);
      quiet = λ has_it away. none_said said u.said says u.says (no_bodies u.said (up_awaits wire.below (bodies u.said) away u.call));
      called = λ away far. absurd (has_awaits away);
      lone = λ away. let v : IsUncome wire = at_amid _ here link.waits.uncome away in record { said = v.said; says = v.says; may = says_quiet Has (bodies v.said) told v.quiet (λ has_it. mute_down told mute); none = v.up };
      on = λ has_it far. has_is far;
      off = λ far not. absurd (not refl);
    }
  where
    up_awaits : (hold : Hold) (ms : List Horizontal) → hold ≡ Awaits → SaidUp hold ms → ms ≡ []
    up_awaits _ _ is not_come = refl
    up_awaits _ ms is (has_come says) = absurd (has_awaits is)
    up_awaits _ ms is (was_left call) = absurd (left_awaits is)

pub taken_exit : SaysAlone → (a a2 b : NodeState) {unread : List Sensed} {up down : List Horizontal} {wires later : List Wire} (k : ℕ) (told : List Act) (c : Scene) (place : ℕ) (wire : Wire) (said : List Message) → AreFitActs told → IsLink a b unread up down wires
    → slice_get wires place ≡ Some wire → wire.above ≡ Awaits → list_any had_above wires ≡ false → Says wire.up said → seen Exit c ≡ come_seen wire.below (bodies said) down → Wired Exit told (map (read_at Exit k) (slice_set wires place (record wire { above = Has }))) later
    → heard_in Exit told ≡ 0 → AreMute Exit told → a2.lane.exit_bytes ≡ [] → open_after Exit true told ≡ is_open Exit a2.lane.body → (is_open Exit a2.lane.body ≡ true → a2.lane.body.exit.session.state ≡ Handshake)
    → IsLink a2 b unread (seen Exit (all_met told c)).home (seen Exit (all_met told c)).away later
taken_exit alone a a2 b {unread} {up} {down} {wires} {later} k told c place wire said fit link there awaits none says is wired heard mute bytes opened shakes =
    let w : Waits a.lane.body b.lane.body unread wires = link.waits in
    let here : Amid wire wires = amid_get wires place wire there in
    let w2 : Wire = record wire { above = Has } in
    let L : Seen = come_seen wire.below (bodies said) down in
    let Q : Wire → Type 0 = λ (v : Wire). Of Exit (IsFine Exit told [] b.lane.entry_bytes L) v in
    let own : Q w2 = fine_taken {a = a} {b = b} told said wire link here awaits says heard mute in
    let each : AllByRecursion (λ (v : Wire). Amid v wires) wires = all_from (λ (v : Wire). Amid v wires) wires (λ v amid. amid) in
    let all : AllByRecursion Q (slice_set wires place w2) =
    kept_or_left (AllByRecursion Q (slice_set wires place w2)) wire.below
    (λ kept. alone_set kept_below (λ (v : Wire). Amid v wires) Q (λ v not amid. fine_beside {a = a} {b = b} told said wire v link here amid none (λ mine far. of_not_false not far)) w2 own w.one_below place wire there kept each)
    (λ left. all_set_as (λ (v : Wire). Amid v wires) Q (λ v amid. fine_beside {a = a} {b = b} told said wire v link here amid none (λ mine far. of_not_false left mine)) w2 own wires place each) in
    let none_joined : list_any is_joined wires ≡ false = any_weaker had_above is_joined (λ v not. no_joint v.above v.below not) wires none in
    let joined : list_any is_joined (slice_set wires place w2) ≡ has wire.below = joined_set wires place wire there none_joined in
    let m : IsMid Exit told [] b.lane.entry_bytes true (is_open Entry b.lane.body) L (slice_set wires place w2) = record {
      fine = all;
      own = any_amid had_above (amid_set w2 wires place wire there) refl;
      beyond = any_set had_below wire w2 refl wires place there ∙ w.entry_open;
      joined = joined;
      none_home = λ never. absurd (false≢true (sym never));
      none_away = λ off. unless_none wire.below down (link.carried.none_down (w.entry_open ∙ off));
      one_own = most_one had_above w2 wires place none;
      one_far = most_set kept_below wire w2 refl place there w.one_below;
    } in
    let S : Type 0 = is_open Exit a2.lane.body ≡ true → a2.lane.body.exit.session.state ≡ Handshake in
    let H : Type 0 = b.lane.body.entry.session.state ≡ Handshake in
    let M : Type 0 = may_connect b.lane.body.intake.phase ≡ true in
    let F : Wire → Type 0 = Of Exit (AsideExit S H M) in
    let aside : AllByRecursion F (slice_set wires place w2) = all_set_as (λ (v : Wire). Amid v wires) F (λ v amid. record { untaken = at_amid _ amid w.untaken; called = at_amid _ amid w.called; first = λ has_it away. shakes; may = at_amid _ amid w.may_come }) w2
    (record { untaken = λ never. absurd (has_awaits never); called = λ never. absurd (has_awaits never); first = λ has_it away. shakes; may = at_amid _ here w.may_come }) wires place each in
    let start : IsMid Exit told a2.lane.exit_bytes b.lane.entry_bytes true (is_open Entry b.lane.body) (seen Exit c) (map (read_at Exit k) (slice_set wires place w2)) =
    subst (λ (bs : List ℕ). IsMid Exit told bs b.lane.entry_bytes true (is_open Entry b.lane.body) (seen Exit c) (map (read_at Exit k) (slice_set wires place w2))) (sym bytes)
    (subst (λ (s : Seen). IsMid Exit told [] b.lane.entry_bytes true (is_open Entry b.lane.body) s (map (read_at Exit k) (slice_set wires place w2))) (sym is) (mid_read Exit told k m)) in
    end_exit {a = a2} {b = b} (acts_mid alone Exit told c fit wired start) opened refl (acts_each (AsideExit S H M) exit_more exit_leaves Exit told wired (exits_read S H M k (slice_set wires place w2) aside)) w.free
  where
    joined_set : (wires : List Wire) (place : ℕ) (wire : Wire) → slice_get wires place ≡ Some wire → list_any is_joined wires ≡ false → list_any is_joined (slice_set wires place (record wire { above = Has })) ≡ has wire.below
    joined_set wires place wire there none = by (has wire.below) refl
      where
        by : (test : Bool) → has wire.below ≡ test → list_any is_joined (slice_set wires place (record wire { above = Has })) ≡ has wire.below
        by true is = any_amid is_joined (amid_set (record wire { above = Has }) wires place wire there) is ∙ sym is
        by false is = any_fewer is_joined (record wire { above = Has }) is wires place none ∙ sym is

-- ---- THE ENTRY FINDS ONE MADE

pub not_kept : (hold : Hold) → is_of_below hold ≡ false → hold ≡ Left
not_kept Awaits is = absurd (false≢true (sym is))
not_kept Has is = absurd (false≢true (sym is))
not_kept Left is = refl

fine_aside_found : {a b : NodeState} {unread : List Sensed} {up down : List Horizontal} {wires : List Wire} (told : List Act) (said : List Message) (wire v : Wire) → IsLink a b unread up down wires → Amid wire wires → Amid v wires → wire.below ≡ Awaits → kept_below v ≡ false
    → Of Entry (IsFine Entry told [] a.lane.exit_bytes (come_seen wire.above (bodies said) up)) v
fine_aside_found {a} {b} {up = up} told said wire v link here there awaits kept =
    let gone : v.below ≡ Left = not_kept v.below kept in
    let alone : v.above ≡ Has → wire.above ≡ Has → ⊥ = λ far mine. awaits_left (sym awaits ∙ sym (ap (λ (x : Wire). x.below) (same_amid had_above link.waits.one_above there here (has_is far) (has_is mine))) ∙ gone) in
    record {
      comes = λ has_it. absurd (left_has (sym gone ∙ has_it));
      goes = λ far. subst (λ (ms : List Horizontal). Carries a.lane.exit_bytes v.up ms) (sym (unless_not wire.above up (alone far))) (at_amid _ there link.carried.up far);
      quiet = λ has_it far. absurd (left_has (sym gone ∙ has_it));
      called = λ away far. absurd (left_awaits (sym gone ∙ away));
      lone = λ far. let u : IsUntaken v = at_amid _ there link.waits.untaken far in record { said = u.said; says = u.says; may = says_call v.below (bodies u.said) told u.call (λ has_it. absurd (left_has (sym gone ∙ has_it))); none = u.down };
      on = λ has_it far. absurd (left_has (sym gone ∙ has_it));
      off = λ far no. has_not wire.above (alone far);
    }

fine_found : {a b : NodeState} {unread : List Sensed} {up down : List Horizontal} {wires : List Wire} (told : List Act) (said : List Message) (wire : Wire) → IsLink a b unread up down wires → Amid wire wires → wire.below ≡ Awaits → Says wire.down said → heard_in Entry told ≡ 0
    → up_words (bodies (sent_on Entry told)) ≡ DownstreamService ∷ [] → IsFine Entry told [] a.lane.exit_bytes (come_seen wire.above (bodies said) up) Has wire.above wire.down wire.up
fine_found {a} {b} {up = up} told said wire link here awaits says heard calls = record {
  comes = λ has_it. home_hears (subst (λ (n : ℕ). Carries [] wire.down (drop n (bodies said))) (sym heard) (record { said = said; fit = says.fit; flows = says.flows; are = refl }));
  goes = λ far. subst (λ (ms : List Horizontal). Carries a.lane.exit_bytes wire.up ms) (at_amid _ here link.carried.quiet far awaits ∙ sym (unless_has wire.above up far)) (at_amid _ here link.carried.up far);
  quiet = λ has_it far. let u : IsUntaken wire = at_amid _ here link.waits.untaken far in none_comes said says u.down;
  called = λ away far. absurd (has_awaits away);
  lone = λ far. let u : IsUntaken wire = at_amid _ here link.waits.untaken far in record { said = u.said; says = u.says; may = ap (λ (ms : List Horizontal). up_words (ms ++ bodies (sent_on Entry told))) (call_awaits wire.below (bodies u.said) awaits u.call) ∙ calls; none = u.down };
  on = λ has_it far. has_is far;
  off = λ far not. absurd (not refl);
}
  where
    call_awaits : (hold : Hold) (ms : List Horizontal) → hold ≡ Awaits → SaidUp hold ms → ms ≡ []
    call_awaits _ _ is not_come = refl
    call_awaits _ ms is (has_come said) = absurd (has_awaits is)
    call_awaits _ ms is (was_left call) = absurd (left_awaits is)

pub found_entry : SaysAlone → (a b b2 : NodeState) {unread rest : List Sensed} {up down : List Horizontal} {wires later : List Wire} (k : ℕ) (told : List Act) (c : Scene) (place : ℕ) (wire : Wire) (said : List Message) → AreFitActs told → IsLink a b unread up down wires
    → slice_get wires place ≡ Some wire → wire.below ≡ Awaits → Says wire.down said → seen Entry c ≡ come_seen wire.above (bodies said) up → Wired Entry told (map (read_at Entry k) (slice_set wires place (record wire { below = Has }))) later
    → heard_in Entry told ≡ 0 → up_words (bodies (sent_on Entry told)) ≡ DownstreamService ∷ [] → b2.lane.entry_bytes ≡ [] → open_after Entry true told ≡ is_open Entry b2.lane.body → (is_open Entry b2.lane.body ≡ true → b2.lane.body.entry.session.state ≡ Handshake) → IsFreeRead rest b2.lane.body
    → IsLink a b2 rest (seen Entry (all_met told c)).away (seen Entry (all_met told c)).home later
found_entry alone a b b2 {unread} {rest} {up} {down} {wires} {later} k told c place wire said fit link there awaits says is wired heard calls bytes opened shakes free =
    let w : Waits a.lane.body b.lane.body unread wires = link.waits in
    let here : Amid wire wires = amid_get wires place wire there in
    let w2 : Wire = record wire { below = Has } in
    let L : Seen = come_seen wire.above (bodies said) up in
    let Q : Wire → Type 0 = λ (v : Wire). Of Entry (IsFine Entry told [] a.lane.exit_bytes L) v in
    let each : AllByRecursion (λ (v : Wire). Amid v wires) wires = all_from (λ (v : Wire). Amid v wires) wires (λ v amid. amid) in
    let kept : kept_below wire ≡ true = ap is_of_below awaits in
    let none : list_any had_below wires ≡ false = alone_amid kept_below had_below (λ v not. had_of v.below not) w.one_below here kept (ap has awaits) in
    let none_joined : list_any is_joined wires ≡ false = any_weaker had_below is_joined (λ v not. no_joined v.above v.below not) wires none in
    let m : IsMid Entry told [] a.lane.exit_bytes true (is_open Exit a.lane.body) L (slice_set wires place w2) = record {
      fine = alone_set kept_below (λ (v : Wire). Amid v wires) Q (λ v not amid. fine_aside_found {a = a} {b = b} told said wire v link here amid awaits not) w2 (fine_found {a = a} {b = b} told said wire link here awaits says heard calls) w.one_below place wire there kept each;
      own = any_amid had_below (amid_set w2 wires place wire there) refl;
      beyond = any_set had_above wire w2 refl wires place there ∙ w.exit_open;
      joined = joined_set wires place wire there none_joined;
      none_home = λ never. absurd (false≢true (sym never));
      none_away = λ off. unless_none wire.above up (link.carried.none_up (w.exit_open ∙ off));
      one_own = most_set kept_below wire w2 (sym kept) place there w.one_below;
      one_far = most_set had_above wire w2 refl place there w.one_above;
    } in
    let S : Type 0 = is_open Entry b2.lane.body ≡ true → b2.lane.body.entry.session.state ≡ Handshake in
    let H : Type 0 = a.lane.body.exit.session.state ≡ Handshake in
    let M : Type 0 = may_connect b2.lane.body.intake.phase ≡ true in
    let F : Wire → Type 0 = Of Entry (AsideEntry S H M) in
    let aside : AllByRecursion F (slice_set wires place w2) = alone_set kept_below (λ (v : Wire). Amid v wires) F
    (λ v not amid. let gone : v.below ≡ Left = not_kept v.below not in record { uncome = at_amid _ amid w.uncome; called = λ far has_it. shakes; first = at_amid _ amid w.taken_first; may = λ never. absurd (left_awaits (sym gone ∙ never)) }) w2
    (record { uncome = λ never. absurd (has_awaits never); called = λ far has_it. shakes; first = λ far never. absurd (has_awaits never); may = λ never. absurd (has_awaits never) }) w.one_below place wire there kept each in
    let start : IsMid Entry told b2.lane.entry_bytes a.lane.exit_bytes true (is_open Exit a.lane.body) (seen Entry c) (map (read_at Entry k) (slice_set wires place w2)) =
    subst (λ (bs : List ℕ). IsMid Entry told bs a.lane.exit_bytes true (is_open Exit a.lane.body) (seen Entry c) (map (read_at Entry k) (slice_set wires place w2))) (sym bytes)
    (subst (λ (s : Seen). IsMid Entry told [] a.lane.exit_bytes true (is_open Exit a.lane.body) s (map (read_at Entry k) (slice_set wires place w2))) (sym is) (mid_read Entry told k m)) in
    end_entry {a = a} {b = b2} (acts_mid alone Entry told c fit wired start) opened refl (acts_each (AsideEntry S H M) entry_more entry_leaves Entry told wired (entries_read S H M k (slice_set wires place w2) aside)) free
  where
    joined_by_above : (above : Hold) → (has above && true) ≡ has above
    joined_by_above Awaits = refl
    joined_by_above Has = refl
    joined_by_above Left = refl

    joined_set : (wires : List Wire) (place : ℕ) (wire : Wire) → slice_get wires place ≡ Some wire → list_any is_joined wires ≡ false → list_any is_joined (slice_set wires place (record wire { below = Has })) ≡ has wire.above
    joined_set wires place wire there none = by (has wire.above) refl
      where
        by : (test : Bool) → has wire.above ≡ test → list_any is_joined (slice_set wires place (record wire { below = Has })) ≡ has wire.above
        by true is = any_amid is_joined (amid_set (record wire { below = Has }) wires place wire there) (joined_by_above wire.above ∙ is) ∙ sym is
        by false is = any_fewer is_joined (record wire { below = Has }) (joined_by_above wire.above ∙ is) wires place none ∙ sym is
