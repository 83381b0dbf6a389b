-- A connection is taken, found made, or refused in a turn: the machine's step keeps the relation of both its links.
use Rattle.std.proofs.Common.{Bool, List, Option, Some, [], ap, false, refl, slice_get, subst, suc, sym, true, zero, ℕ, ◌&&◌, ◌+◌, ◌∙◌, ◌∷◌, ◌≡◌}
use Rattle.std.proofs.lemmas.Bool.{or_from, or_parts, false≢true}
use Rattle.std.specs.List.{list_any}
use Rattle.line_base.specs.declared.states.Side.TheVariants.{Entry, Exit}
use Rattle.board_record.specs.declared.record.Record.{Record}
use Rattle.board_record.specs.declared.sensed.Sensed.{Sensed}
use Rattle.hermes_horizontal.specs.declared.message.Horizontal.{Horizontal}
use Rattle.session_core.specs.declared.state.SessionState.TheVariants.{Handshake, NotConnected}
use Rattle.handover_in.specs.State.{may_connect}
use Rattle.node_core.specs.Desk.{Desk}
use Rattle.node_core.specs.Event.{Accepted, Connect, Second}
use Rattle.node_core.specs.Step.{machine_step}
use Rattle.node_core.specs.declared.lane.Body.{Body as Machine}
use Rattle.law_custody.specs.Pair.{Ghost}
use Rattle.law_custody.specs.Talks.{call_awaited}
use Rattle.law_custody.specs.Words.{down_words, up_words}
use Rattle.law_link_messages.specs.Heard.{bodies}
use Rattle.law_machine_custody.specs.Good.{Afar}
use Rattle.law_machine_custody.specs.Ahead.{GoesAhead, GoesTo}
use Rattle.law_machine_custody.specs.Joined.{with_link}
use Rattle.law_machine_custody.specs.Scene.{Scene, all_met}
use Rattle.law_machine_custody.proofs.Answering.{lefts_ahead, seconds_ahead}
use Rattle.law_machine_custody.proofs.ComingLast.{comes_ahead, comes_alone_ahead}
use Rattle.law_machine_custody.proofs.FrontRead.{Reads}
use Rattle.law_machine_custody.proofs.TakingAlone.{takes_ahead}
use Rattle.law_one_standing.specs.Carried.{Trace, stand_of}
use Rattle.law_one_standing.proofs.Elsewhere.{elsewhere_of}
use Rattle.law_one_standing.proofs.MirroringEnds.{before_one}
use Rattle.node_core.proofs.Opened.{is_off}
use Rattle.law_running_line.specs.Reading.{ReadsFront}
use Rattle.law_running_line.specs.Running.{Running, unread_by}
use Rattle.law_running_line.specs.Stands.{Stands, is_joined, line_of, node_in}
use Rattle.law_running_line.specs.Steady.{FindsIt, RefusesIt, TakesIt, scene_of, unless_joined}
use Rattle.law_running_line.specs.Turns.{HasNone, IsAt}
use Rattle.law_running_line.specs.Waits.{AtMostOne, IsUncome, IsUntaken, SaidUp, had_above, had_below, has_come, is_of_below, kept_below, none_passes, not_come, passes_alone, passes_not, was_left}
use Rattle.law_running_line.specs.Wire.{Awaits, Has, Hold, Left, Wire, has}
use Rattle.law_running_line.proofs.TurnSteps.{reads_before}
use Rattle.law_running_line.proofs.Waiting.{all_at, tested}
use Rattle.law_running_line.proofs.WiresTaken.{called_ahead}

-- ---- which ends have a connection

pub any_weaker : (test other : Wire → Bool) → ((wire : Wire) → test wire ≡ false → other wire ≡ false) → (wires : List Wire) → list_any test wires ≡ false → list_any other wires ≡ false
any_weaker test other weaker [] none = refl
any_weaker test other weaker (wire ∷ wires) none = or_from _ _ (weaker wire (or_parts _ _ none).0) (any_weaker test other weaker wires (or_parts _ _ none).1)

same_test : (test : Wire → Bool) (first wire : Wire) → Some first ≡ Some wire → test first ≡ test wire
same_test test first wire is = subst (λ (o : Option Wire). test first ≡ tested test o) is refl

none_at : (test : Wire → Bool) (wires : List Wire) (place : ℕ) (wire : Wire) → slice_get wires place ≡ Some wire → list_any test wires ≡ false → test wire ≡ false
none_at test [] place wire is none = cc
none_at test (first ∷ wires) zero wire is none = sym (same_test test first wire is) ∙ (or_parts _ _ none).0
none_at test (first ∷ wires) (suc place) wire is none = none_at test wires place wire is (or_parts _ _ none).1

pub none_had : (wires : List Wire) → ((place : ℕ) (wire : Wire) → slice_get wires place ≡ Some wire → has wire.above ≡ false) → list_any had_above wires ≡ false
none_had [] each = refl
none_had (wire ∷ wires) each = or_from _ _ (each zero wire refl) (none_had wires (λ place other is. each (suc place) other is))

pub and_first : (a b : Bool) → a ≡ false → (a && b) ≡ false
and_first true b is = absurd (false≢true (sym is))
and_first false b is = refl

pub and_second : (a b : Bool) → b ≡ false → (a && b) ≡ false
and_second true b is = is
and_second false b is = refl

pub had_of : (hold : Hold) → is_of_below hold ≡ false → has hold ≡ false
had_of Awaits is = refl
had_of Has is = is
had_of Left is = refl

kept_awaits : (wire : Wire) → wire.below ≡ Awaits → kept_below wire ≡ false → ⊥
kept_awaits wire awaits not = false≢true (sym not ∙ ap is_of_below awaits)

-- while the entry awaits one, it has none
pub alone_below : {wires : List Wire} → AtMostOne kept_below wires → (place : ℕ) (wire : Wire) → slice_get wires place ≡ Some wire → wire.below ≡ Awaits → list_any had_below wires ≡ false
alone_below none_passes place wire is awaits = refl
alone_below (passes_not {wire = first} fails others) zero wire is awaits = absurd (kept_awaits wire awaits (sym (same_test kept_below first wire is) ∙ fails))
alone_below (passes_not {wire = first} fails others) (suc place) wire is awaits = or_from _ _ (had_of first.below fails) (alone_below others place wire is awaits)
alone_below (passes_alone {wire = first} {wires = wires} none) zero wire is awaits = or_from _ _ (same_test had_below first wire is ∙ ap has awaits) (any_weaker kept_below had_below (λ other not. had_of other.below not) wires none)
alone_below (passes_alone {wires = wires} none) (suc place) wire is awaits = absurd (kept_awaits wire awaits (none_at kept_below wires place wire is none))

-- ---- IT IS TAKEN ABOVE

taken_by : {afar : Afar} {above : List Record} {seen rest : List Sensed} {ga gb : Ghost} {hold : Hold} {said : List Horizontal} (desk : Desk) (read : List Sensed) (body : Machine) (c : Scene) → SaidUp hold said → Reads afar above seen rest ga gb desk read body c
    → body.exit.session.state ≡ NotConnected → c.below.stands ≡ false → (hold ≡ Has → c.below.entry ≡ Handshake)
    → GoesTo afar above rest ga gb c (machine_step desk read Accepted body).body (all_met (machine_step desk read Accepted body).acts (with_link Exit (has hold) said (unless_joined hold c.below.down) c))
taken_by {afar} {above} {seen} {rest} {ga} {gb} desk read body c not_come reads away off shakes =
    subst (λ (b : Bool). GoesTo afar above rest ga gb c (machine_step desk read Accepted body).body (all_met (machine_step desk read Accepted body).acts (with_link Exit b [] c.below.down c))) off (takes_ahead desk read body c [] reads away call_awaited)
taken_by desk read body c (has_come {said = said} says) reads away off shakes = called_ahead desk read body c said says reads away (shakes refl)
taken_by {afar} {above} {seen} {rest} {ga} {gb} desk read body c (was_left {said = said} call) reads away off shakes =
    subst (λ (b : Bool). GoesTo afar above rest ga gb c (machine_step desk read Accepted body).body (all_met (machine_step desk read Accepted body).acts (with_link Exit b said c.below.down c))) off (takes_ahead desk read body c said reads away call)

pub accepted_steady : (t : Trace) (s : Running) (j : ℕ) (desk : Desk) (read rest : List Sensed) (place : ℕ) → Stands t s → ReadsFront (unread_by (j + 1) s) read rest → (at : IsAt (j + 1) Exit place Awaits s) → HasNone (j + 1) Exit s
    → TakesIt t s j rest at.wire (machine_step desk read Accepted (node_in s (j + 1)).lane.body)
accepted_steady t s j desk read rest place st front at none =
    let wires : List Wire = s.wires (j + 1) in
    let w = st.waits (j + 1) in
    let u : IsUntaken at.wire = all_at _ at.wire wires place at.there w.untaken at.held in
    let no_above : list_any had_above wires ≡ false = none_had wires none in
    let took = taken_by desk read (node_in s (j + 1)).lane.body (scene_of t s j) u.call (reads_before j desk read rest st front) (is_off _ (sym w.exit_open ∙ no_above))
    (any_weaker had_above is_joined (λ wire not. and_first (has wire.above) (has wire.below) not) wires no_above) (all_at _ at.wire wires place at.there w.called at.held) in
    record { elsewhere = elsewhere_of (stand_of (line_of s) (j + 1)).place.boards; said = u.said; says = u.says; free = took.read; goes = took.goes }

-- ---- IT IS FOUND MADE BELOW

-- on one that nobody above has
found_alone : {afar : Afar} {above : List Record} {seen rest : List Sensed} {ga gb : Ghost} (down : List Horizontal) (desk : Desk) (read : List Sensed) (body : Machine) (c : Scene) → Reads afar above seen rest ga gb desk read body c → body.entry.session.state ≡ NotConnected
    → may_connect body.intake.phase ≡ true → c.above.stands ≡ false → down_words down ≡ []
    → GoesTo afar above rest ga gb c (machine_step desk read Connect body).body (all_met (machine_step desk read Connect body).acts (with_link Entry false c.above.up down c))
found_alone {afar} {above} {seen} {rest} {ga} {gb} down desk read body c reads away may off quiet =
    let g : GoesAhead afar above rest ga gb (with_link Entry c.above.stands c.above.up down c) (machine_step desk read Connect body) = comes_alone_ahead desk read body c down reads away may quiet in
    subst (λ (b : Bool). GoesTo afar above rest ga gb c (machine_step desk read Connect body).body (all_met (machine_step desk read Connect body).acts (with_link Entry b c.above.up down c))) off
    (record {
      goes = record { a = g.goes.a; b = g.goes.b; good = g.goes.good; lists_above = g.goes.lists_above; lists_below = g.goes.lists_below; still_first = g.goes.still_first; still_over = g.goes.still_over };
      read = g.read;
    })

found_by : {afar : Afar} {above : List Record} {seen rest : List Sensed} {ga gb : Ghost} (hold : Hold) (down : List Horizontal) (desk : Desk) (read : List Sensed) (body : Machine) (c : Scene) → Reads afar above seen rest ga gb desk read body c → body.entry.session.state ≡ NotConnected
    → may_connect body.intake.phase ≡ true → c.above.stands ≡ false → down_words down ≡ [] → (hold ≡ Has → c.above.exit ≡ Handshake) → (hold ≡ Has → c.above.up ≡ [])
    → GoesTo afar above rest ga gb c (machine_step desk read Connect body).body (all_met (machine_step desk read Connect body).acts (with_link Entry (has hold) (unless_joined hold c.above.up) down c))
found_by Has down desk read body c reads away may off quiet shakes none = comes_ahead desk read body c down reads away may (shakes refl) (ap up_words (none refl)) quiet
found_by Awaits down desk read body c reads away may off quiet shakes none = found_alone down desk read body c reads away may off quiet
found_by Left down desk read body c reads away may off quiet shakes none = found_alone down desk read body c reads away may off quiet

pub found_steady : (t : Trace) (s : Running) (j : ℕ) (desk : Desk) (read rest : List Sensed) (place : ℕ) → Stands t s → ReadsFront (unread_by (j + 1) s) read rest → (at : IsAt (j + 1) Entry place Awaits s)
    → FindsIt t s j rest at.wire (machine_step desk read Connect (node_in s (j + 1)).lane.body)
found_steady t s j desk read rest place st front at =
    let wires : List Wire = s.wires j in
    let w = st.waits j in
    let there : slice_get wires place ≡ Some at.wire = subst (λ (n : ℕ). slice_get (s.wires n) place ≡ Some at.wire) (before_one j) at.there in
    let u : IsUncome at.wire = all_at _ at.wire wires place there w.uncome at.held in
    let no_below : list_any had_below wires ≡ false = alone_below w.one_below place at.wire there at.held in
    let found = found_by at.wire.above (bodies u.said) desk read (node_in s (j + 1)).lane.body (scene_of t s j) (reads_before j desk read rest st front) (is_off _ (sym w.entry_open ∙ no_below)) (all_at _ at.wire wires place there w.may_come at.held)
    (any_weaker had_below is_joined (λ wire not. and_second (has wire.above) (has wire.below) not) wires no_below) u.quiet (λ is. all_at _ at.wire wires place there w.taken_first is at.held) (λ is. all_at _ at.wire wires place there (st.carried j).quiet is at.held) in
    record { elsewhere = elsewhere_of (stand_of (line_of s) (j + 1)).place.boards; said = u.said; says = u.says; free = found.read; goes = found.goes }

-- ---- A SECOND ONE IS REFUSED

pub refused_steady : (t : Trace) (s : Running) (j : ℕ) (desk : Desk) (read rest : List Sensed) → Stands t s → ReadsFront (unread_by (j + 1) s) read rest → RefusesIt t s j rest (machine_step desk read Second (node_in s (j + 1)).lane.body)
refused_steady t s j desk read rest st front =
    let reads = reads_before j desk read rest st front in
    let answered = seconds_ahead desk read (node_in s (j + 1)).lane.body (scene_of t s j) reads in
    record {
      elsewhere = elsewhere_of (stand_of (line_of s) (j + 1)).place.boards;
      free = answered.read;
      answered = answered.goes;
      unanswered = (lefts_ahead desk read (node_in s (j + 1)).lane.body (scene_of t s j) reads).goes;
    }
