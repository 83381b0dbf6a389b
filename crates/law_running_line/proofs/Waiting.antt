-- What waits on a link goes on, where a connection is asked for and where an end that awaits one leaves it.
use Rattle.std.proofs.Common.{Bool, List, None, Option, Some, [], ap, false, map, not, refl, slice_get, slice_set, subst, suc, sym, true, zero, ℕ, ◌++◌, ◌||◌, ◌∙◌, ◌∷◌, ◌≡◌}
use Rattle.std.proofs.lemmas.Bool.{or_from, or_parts}
use Rattle.std.specs.List.{AllByRecursion, list_any}
use Rattle.line_base.specs.declared.states.Side.TheVariants.{Entry, Exit}
use Rattle.board_record.specs.declared.sensed.Sensed.{Sensed}
use Rattle.hermes_horizontal.specs.declared.message.Horizontal.{Horizontal}
use Rattle.handover_in.specs.State.{may_connect}
use Rattle.node_core.specs.May.{may_do, may_of, no_if}
use Rattle.node_core.specs.Node.{NodeState}
use Rattle.node_core.specs.Sides.{is_open}
use Rattle.node_core.specs.declared.input.Input.TheVariants as inputs
use Rattle.node_core.specs.declared.input.No.TheVariants as no
use Rattle.node_core.specs.declared.lane.Body.{Body as Machine}
use Rattle.law_custody.specs.Talks.{IsCall, call_awaited}
use Rattle.law_custody.specs.Words.{up_words}
use Rattle.law_custody.proofs.Texts.{nothing_flows}
use Rattle.law_link_messages.specs.Fit.{none_fit}
use Rattle.law_link_messages.specs.Heard.{bodies}
use Rattle.law_running_line.specs.RunSteps.{given_up, let_be}
use Rattle.law_running_line.specs.Waits.{AtMostOne, IsUntaken, SaidUp, Says, Waits, had_above, had_below, kept_below, none_passes, not_come, passes_alone, passes_not, was_left}
use Rattle.law_running_line.specs.Wire.{Awaits, Coming, Has, Hold, Left, Wire, asked_for, has}

-- ---- a list, changed throughout and with one more

-- where nothing is on its way, nothing was said
nothing_said : Says [] []
nothing_said = record { fit = none_fit; flows = nothing_flows }

pub any_given : (test : Wire → Bool) (change : Wire → Wire) (last : Wire) → ((wire : Wire) → test (change wire) ≡ test wire) → test last ≡ false
    → (wires : List Wire) → list_any test (map change wires ++ last ∷ []) ≡ list_any test wires
any_given test change last same fails [] = rw fails refl
any_given test change last same fails (wire ∷ wires) = rw (same wire, any_given test change last same fails wires) refl

pub most_given : (test : Wire → Bool) (change : Wire → Wire) (last : Wire) → ((wire : Wire) → test (change wire) ≡ test wire) → test last ≡ false
    → {wires : List Wire} → AtMostOne test wires → AtMostOne test (map change wires ++ last ∷ [])
most_given test change last same fails none_passes = passes_not fails none_passes
most_given test change last same fails (passes_not {wire = wire} first others) = passes_not (same wire ∙ first) (most_given test change last same fails others)
most_given test change last same fails (passes_alone {wires = wires} none) = passes_alone (any_given test change last same fails wires ∙ none)

pub all_given : (P Q : Wire → Type 0) (change : Wire → Wire) (last : Wire) → ((wire : Wire) → P wire → Q (change wire)) → Q last
    → (wires : List Wire) → AllByRecursion P wires → AllByRecursion Q (map change wires ++ last ∷ [])
all_given P Q change last next end [] all = (end, tt)
all_given P Q change last next end (wire ∷ wires) all = (next wire all.0, all_given P Q change last next end wires all.1)

none_then_one : (test : Wire → Bool) (last : Wire) (wires : List Wire) → list_any test wires ≡ false → AtMostOne test (wires ++ last ∷ [])
none_then_one test last [] none = passes_alone refl
none_then_one test last (wire ∷ wires) none = passes_not (or_parts _ _ none).0 (none_then_one test last wires (or_parts _ _ none).1)

-- ---- A CONNECTION IS ASKED FOR: the one that the entry awaited is given up

abbrev pub wire_of : Hold → Hold → List Coming → List Coming → Wire
wire_of above below up down = record { above = above; below = below; up = up; down = down }

pub same_above : (above below : Hold) (up down : List Coming) → (given_up Entry (wire_of above below up down)).above ≡ above
same_above above Awaits up down = refl
same_above above Has up down = refl
same_above above Left up down = refl

pub same_had : (above below : Hold) (up down : List Coming) → had_below (given_up Entry (wire_of above below up down)) ≡ has below
same_had above Awaits up down = refl
same_had above Has up down = refl
same_had above Left up down = refl

pub awaits_not : (above below : Hold) (up down : List Coming) → (given_up Entry (wire_of above below up down)).below ≡ Awaits → ⊥
awaits_not above Awaits up down is = cc
awaits_not above Has up down is = cc
awaits_not above Left up down is = cc

-- it asks for one while its entry has none, so behind it none is its but the one that is asked for
kept_not : (above below : Hold) (up down : List Coming) → has below ≡ false → kept_below (given_up Entry (wire_of above below up down)) ≡ false
kept_not above Awaits up down fails = refl
kept_not above Has up down fails = cc
kept_not above Left up down fails = refl

none_kept : (wires : List Wire) → list_any had_below wires ≡ false → list_any kept_below (map (given_up Entry) wires) ≡ false
none_kept [] none = refl
none_kept (wire ∷ wires) none = or_from _ _ (kept_not wire.above wire.below wire.up wire.down (or_parts _ _ none).0) (none_kept wires (or_parts _ _ none).1)

awaited : {said : List Horizontal} → SaidUp Awaits said → IsCall (up_words said)
awaited not_come = call_awaited

untaken_still : (above below : Hold) (up down : List Coming) → (above ≡ Awaits → IsUntaken (wire_of above below up down))
    → (given_up Entry (wire_of above below up down)).above ≡ Awaits → IsUntaken (given_up Entry (wire_of above below up down))
untaken_still above Awaits up down untaken is = let u = untaken is in record { said = u.said; says = u.says; call = was_left (awaited u.call); down = refl }
untaken_still above Has up down untaken is = untaken is
untaken_still above Left up down untaken is = untaken is

pub called_still : {A : Type 0} (above below : Hold) (up down : List Coming) → (above ≡ Awaits → below ≡ Has → A)
    → (given_up Entry (wire_of above below up down)).above ≡ Awaits → (given_up Entry (wire_of above below up down)).below ≡ Has → A
called_still above Awaits up down called is has_it = let never : Left ≡ Has = has_it in cc
called_still above Has up down called is has_it = called is has_it
called_still above Left up down called is has_it = called is has_it

pub asks_wait : {above below : Machine} {unread : List Sensed} {wires : List Wire} → Waits above below unread wires → is_open Entry below ≡ false → may_connect below.intake.phase ≡ true
    → Waits above below unread (map (given_up Entry) wires ++ asked_for ∷ [])
asks_wait {wires = wires} w closed may = record {
  one_above = most_given had_above (given_up Entry) asked_for (λ wire. ap has (same_above wire.above wire.below wire.up wire.down)) refl w.one_above;
  one_below = none_then_one kept_below asked_for (map (given_up Entry) wires) (none_kept wires (w.entry_open ∙ closed));
  exit_open = any_given had_above (given_up Entry) asked_for (λ wire. ap has (same_above wire.above wire.below wire.up wire.down)) refl wires ∙ w.exit_open;
  entry_open = any_given had_below (given_up Entry) asked_for (λ wire. same_had wire.above wire.below wire.up wire.down) refl wires ∙ w.entry_open;
  untaken = all_given _ _ (given_up Entry) asked_for (λ wire p. untaken_still wire.above wire.below wire.up wire.down p) (λ is. record { said = []; says = nothing_said; call = not_come; down = refl }) wires w.untaken;
  uncome = all_given _ _ (given_up Entry) asked_for (λ wire p is. absurd (awaits_not wire.above wire.below wire.up wire.down is)) (λ is. record { said = []; says = nothing_said; quiet = refl; up = refl }) wires w.uncome;
  called = all_given _ _ (given_up Entry) asked_for (λ wire p. called_still wire.above wire.below wire.up wire.down p) (λ is has_it. absurd (awaits_has has_it)) wires w.called;
  taken_first = all_given _ _ (given_up Entry) asked_for (λ wire p has_it is. absurd (awaits_not wire.above wire.below wire.up wire.down is)) (λ has_it is. absurd (awaits_has has_it)) wires w.taken_first;
  may_come = all_given _ _ (given_up Entry) asked_for (λ wire p is. absurd (awaits_not wire.above wire.below wire.up wire.down is)) (λ is. may) wires w.may_come;
  free = w.free;
} where
  awaits_has : Awaits ≡ Has → ⊥
  awaits_has is = cc

-- ---- AN END THAT AWAITS A CONNECTION LEAVES IT

abbrev IfThere : (Wire → Type 0) → Option Wire → Type 0
IfThere P None = Unit {0}
IfThere P (Some wire) = P wire

abbrev pub tested : (Wire → Bool) → Option Wire → Bool
tested test None = false
tested test (Some wire) = test wire

pub all_set : (P : Wire → Type 0) (new : Wire) → P new → (wires : List Wire) (place : ℕ) → AllByRecursion P wires → AllByRecursion P (slice_set wires place new)
all_set P new p [] place all = tt
all_set P new p (wire ∷ wires) zero all = (p, all.1)
all_set P new p (wire ∷ wires) (suc place) all = (all.0, all_set P new p wires place all.1)

pub all_at : (P : Wire → Type 0) (old : Wire) (wires : List Wire) (place : ℕ) → slice_get wires place ≡ Some old → AllByRecursion P wires → P old
all_at P old [] place is all = cc
all_at P old (wire ∷ wires) zero is all = subst (λ (o : Option Wire). IfThere P o) is all.0
all_at P old (wire ∷ wires) (suc place) is all = all_at P old wires place is all.1

pub any_set : (test : Wire → Bool) (old new : Wire) → test new ≡ test old → (wires : List Wire) (place : ℕ) → slice_get wires place ≡ Some old
    → list_any test (slice_set wires place new) ≡ list_any test wires
any_set test old new same [] place is = cc
any_set test old new same (wire ∷ wires) zero is = ap (λ (b : Bool). b || list_any test wires) (same ∙ sym (subst (λ (o : Option Wire). test wire ≡ tested test o) is refl))
any_set test old new same (wire ∷ wires) (suc place) is = ap (λ (b : Bool). test wire || b) (any_set test old new same wires place is)

pub most_set : (test : Wire → Bool) (old new : Wire) → test new ≡ test old → {wires : List Wire} (place : ℕ) → slice_get wires place ≡ Some old → AtMostOne test wires
    → AtMostOne test (slice_set wires place new)
most_set test old new same place is none_passes = none_passes
most_set test old new same zero is (passes_not {wire = wire} fails others) = passes_not (same ∙ (sym (subst (λ (o : Option Wire). test wire ≡ tested test o) is refl) ∙ fails)) others
most_set test old new same (suc place) is (passes_not fails others) = passes_not fails (most_set test old new same place is others)
most_set test old new same zero is (passes_alone none) = passes_alone none
most_set test old new same (suc place) is (passes_alone {wires = wires} none) = passes_alone (any_set test old new same wires place is ∙ none)

-- one fewer passes
pub any_fewer : (test : Wire → Bool) (new : Wire) → test new ≡ false → (wires : List Wire) (place : ℕ) → list_any test wires ≡ false → list_any test (slice_set wires place new) ≡ false
any_fewer test new fails [] place none = refl
any_fewer test new fails (wire ∷ wires) zero none = or_from _ _ fails (or_parts _ _ none).1
any_fewer test new fails (wire ∷ wires) (suc place) none = or_from _ _ (or_parts _ _ none).0 (any_fewer test new fails wires place (or_parts _ _ none).1)

none_at_all : (test : Wire → Bool) (wires : List Wire) → list_any test wires ≡ false → AtMostOne test wires
none_at_all test [] none = none_passes
none_at_all test (wire ∷ wires) none = passes_not (or_parts _ _ none).0 (none_at_all test wires (or_parts _ _ none).1)

most_fewer : (test : Wire → Bool) (new : Wire) → test new ≡ false → {wires : List Wire} (place : ℕ) → AtMostOne test wires → AtMostOne test (slice_set wires place new)
most_fewer test new fails place none_passes = none_passes
most_fewer test new fails zero (passes_not first others) = passes_not fails others
most_fewer test new fails (suc place) (passes_not first others) = passes_not first (most_fewer test new fails place others)
most_fewer test new fails zero (passes_alone {wires = wires} none) = passes_not fails (none_at_all test wires none)
most_fewer test new fails (suc place) (passes_alone {wires = wires} none) = passes_alone (any_fewer test new fails wires place none)

-- the exit leaves it: what was said up on it is for nobody
pub exit_lets_be : {above below : Machine} {unread : List Sensed} {wires : List Wire} (place : ℕ) (wire : Wire) → slice_get wires place ≡ Some wire → wire.above ≡ Awaits
    → Waits above below unread wires → Waits above below unread (slice_set wires place (let_be Exit wire))
exit_lets_be {wires = wires} place wire there is w = record {
  one_above = most_set had_above wire (let_be Exit wire) (sym (ap has is)) place there w.one_above;
  one_below = most_set kept_below wire (let_be Exit wire) refl place there w.one_below;
  exit_open = any_set had_above wire (let_be Exit wire) (sym (ap has is)) wires place there ∙ w.exit_open;
  entry_open = any_set had_below wire (let_be Exit wire) refl wires place there ∙ w.entry_open;
  untaken = all_set _ (let_be Exit wire) (λ never. absurd (left_awaits never)) wires place w.untaken;
  uncome = all_set _ (let_be Exit wire) (λ awaits. let u = all_at _ wire wires place there w.uncome awaits in record { said = u.said; says = u.says; quiet = u.quiet; up = refl }) wires place w.uncome;
  called = all_set _ (let_be Exit wire) (λ never has_it. absurd (left_awaits never)) wires place w.called;
  taken_first = all_set _ (let_be Exit wire) (λ never awaits. absurd (left_has never)) wires place w.taken_first;
  may_come = all_set _ (let_be Exit wire) (all_at _ wire wires place there w.may_come) wires place w.may_come;
  free = w.free;
} where
  left_awaits : Left ≡ Awaits → ⊥
  left_awaits never = cc

  left_has : Left ≡ Has → ⊥
  left_has never = cc

-- and the entry: what was said down on it is for nobody, and nothing was said up
pub entry_lets_be : {above below : Machine} {unread : List Sensed} {wires : List Wire} (place : ℕ) (wire : Wire) → slice_get wires place ≡ Some wire → wire.below ≡ Awaits
    → Waits above below unread wires → Waits above below unread (slice_set wires place (let_be Entry wire))
entry_lets_be {wires = wires} place wire there is w = record {
  one_above = most_set had_above wire (let_be Entry wire) refl place there w.one_above;
  one_below = most_fewer kept_below (let_be Entry wire) refl place w.one_below;
  exit_open = any_set had_above wire (let_be Entry wire) refl wires place there ∙ w.exit_open;
  entry_open = any_set had_below wire (let_be Entry wire) (sym (ap has is)) wires place there ∙ w.entry_open;
  untaken = all_set _ (let_be Entry wire) (λ awaits. let u = all_at _ wire wires place there w.untaken awaits in record { said = u.said; says = u.says; call = was_left (awaited (subst (λ (h : Hold). SaidUp h (bodies u.said)) is u.call)); down = refl }) wires place w.untaken;
  uncome = all_set _ (let_be Entry wire) (λ never. absurd (left_awaits never)) wires place w.uncome;
  called = all_set _ (let_be Entry wire) (λ awaits never. absurd (left_has never)) wires place w.called;
  taken_first = all_set _ (let_be Entry wire) (λ has_it never. absurd (left_awaits never)) wires place w.taken_first;
  may_come = all_set _ (let_be Entry wire) (λ never. absurd (left_awaits never)) wires place w.may_come;
  free = w.free;
} where
  left_awaits : Left ≡ Awaits → ⊥
  left_awaits never = cc

  left_has : Left ≡ Has → ⊥
  left_has never = cc

-- ---- as the machine below says whether it may connect

may_says : (is_open may : Bool) → no_if is_open no.Connected (no_if (not may) no.IntakeUnsettled may_do) ≡ may_do → (is_open ≡ false) × (may ≡ true)
may_says true may e = cc
may_says false true e = (refl, refl)
may_says false false e = cc

pub node_asks : {above : Machine} {unread : List Sensed} {wires : List Wire} (below : NodeState) → may_of below inputs.Connect ≡ may_do → Waits above below.lane.body unread wires
    → Waits above below.lane.body unread (map (given_up Entry) wires ++ asked_for ∷ [])
node_asks below may w =
    let says = may_says (is_open Entry below.lane.body) (may_connect below.lane.body.intake.phase) may in
    asks_wait w says.0 says.1
