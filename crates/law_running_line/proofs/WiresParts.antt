-- The connections of a link as one side stands to them: what a side says, and that it leaves, part by part.
use Rattle.std.proofs.Common.{Bool, List, [], ap, false, map, refl, ℕ, ◌&&◌, ◌++◌, ◌∷◌, ◌≡◌}
use Rattle.std.proofs.lemmas.Bool.{or_from, or_parts}
use Rattle.std.proofs.lemmas.List.{map-append}
use Rattle.std.specs.List.{AllByRecursion, list_any}
use Rattle.line_base.specs.declared.states.Side.{Side}
use Rattle.line_base.specs.declared.states.Side.TheVariants.{Entry, Exit}
use Rattle.law_running_line.specs.Waits.{AtMostOne, is_of_below, none_passes, passes_alone, passes_not}
use Rattle.law_running_line.specs.Wire.{Awaits, Coming, Has, Hold, Left, Wire, bytes_of, coming_to, end_at, end_beyond, has, left, said, text_behind, with_read}
use Rattle.law_running_line.proofs.Waiting.{wire_of}

-- ---- the two ends, and what is on its way to each

abbrev pub going_from : Side → Wire → List Coming
going_from Exit wire = wire.down
going_from Entry wire = wire.up

-- a fact of a connection: of the side's own end, of the end beyond, of what comes and of what goes
abbrev pub Of : Side → (Hold → Hold → List Coming → List Coming → Type 0) → Wire → Type 0
Of side F wire = F (end_at side wire) (end_beyond side wire) (coming_to side wire) (going_from side wire)

-- no end stands in two ways
pub awaits_has : Awaits ≡ Has → ⊥
awaits_has is = cc

pub left_has : Left ≡ Has → ⊥
left_has is = cc

pub left_awaits : Left ≡ Awaits → ⊥
left_awaits is = cc

pub has_awaits : Has ≡ Awaits → ⊥
has_awaits is = cc

pub has_left : Has ≡ Left → ⊥
has_left is = cc

pub awaits_left : Awaits ≡ Left → ⊥
awaits_left is = cc

pub has_not : (hold : Hold) → (hold ≡ Has → ⊥) → has hold ≡ false
has_not Awaits not = refl
has_not Has not = absurd (not refl)
has_not Left not = refl

-- ---- a side says something

said_exit : (G : Hold → Hold → List Coming → List Coming → Type 0) (above below : Hold) (up down c : List Coming) → (above ≡ Has → (below ≡ Left → ⊥) → G above below up (down ++ c)) → ((above ≡ Has → below ≡ Left) → G above below up down)
    → Of Exit G (said Exit c (wire_of above below up down))
said_exit G Awaits below up down c on off = off (λ is. absurd (awaits_has is))
said_exit G Has Awaits up down c on off = on refl awaits_left
said_exit G Has Has up down c on off = on refl has_left
said_exit G Has Left up down c on off = off (λ is. refl)
said_exit G Left below up down c on off = off (λ is. absurd (left_has is))

said_entry : (G : Hold → Hold → List Coming → List Coming → Type 0) (above below : Hold) (up down c : List Coming) → (below ≡ Has → (above ≡ Left → ⊥) → G below above down (up ++ c)) → ((below ≡ Has → above ≡ Left) → G below above down up)
    → Of Entry G (said Entry c (wire_of above below up down))
said_entry G above Awaits up down c on off = off (λ is. absurd (awaits_has is))
said_entry G Awaits Has up down c on off = on refl awaits_left
said_entry G Has Has up down c on off = on refl has_left
said_entry G Left Has up down c on off = off (λ is. refl)
said_entry G above Left up down c on off = off (λ is. absurd (left_has is))

pub said_of : (side : Side) (G : Hold → Hold → List Coming → List Coming → Type 0) (c : List Coming) (wire : Wire) → (end_at side wire ≡ Has → (end_beyond side wire ≡ Left → ⊥) → G (end_at side wire) (end_beyond side wire) (coming_to side wire) (going_from side wire ++ c))
    → ((end_at side wire ≡ Has → end_beyond side wire ≡ Left) → Of side G wire) → Of side G (said side c wire)
said_of Exit G c wire on off = said_exit G wire.above wire.below wire.up wire.down c on off
said_of Entry G c wire on off = said_entry G wire.above wire.below wire.up wire.down c on off

-- ---- a side leaves the connection that it has

gone_exit : (G : Hold → Hold → List Coming → List Coming → Type 0) (above below : Hold) (up down : List Coming) → (above ≡ Has → G Left below [] down) → ((above ≡ Has → ⊥) → G above below up down) → Of Exit G (left Exit (wire_of above below up down))
gone_exit G Awaits below up down from not = not awaits_has
gone_exit G Has below up down from not = from refl
gone_exit G Left below up down from not = not left_has

gone_entry : (G : Hold → Hold → List Coming → List Coming → Type 0) (above below : Hold) (up down : List Coming) → (below ≡ Has → G Left above [] up) → ((below ≡ Has → ⊥) → G below above down up) → Of Entry G (left Entry (wire_of above below up down))
gone_entry G above Awaits up down from not = not awaits_has
gone_entry G above Has up down from not = from refl
gone_entry G above Left up down from not = not left_has

pub gone_of : (side : Side) (G : Hold → Hold → List Coming → List Coming → Type 0) (wire : Wire) → (end_at side wire ≡ Has → G Left (end_beyond side wire) [] (going_from side wire)) → ((end_at side wire ≡ Has → ⊥) → Of side G wire) → Of side G (left side wire)
gone_of Exit G wire from not = gone_exit G wire.above wire.below wire.up wire.down from not
gone_of Entry G wire from not = gone_entry G wire.above wire.below wire.up wire.down from not

-- ---- the bytes

pub bytes_both : (a b : List Coming) → bytes_of (a ++ b) ≡ bytes_of a ++ bytes_of b
bytes_both a b = map-append (λ (c : Coming). c.byte) a b

pub text_bytes : (n : ℕ) (text : List ℕ) → bytes_of (text_behind n text) ≡ text
text_bytes n [] = refl
text_bytes n (byte ∷ text) = ap (λ (bytes : List ℕ). byte ∷ bytes) (text_bytes n text)

pub read_bytes : (n : ℕ) (coming : List Coming) → bytes_of (with_read n coming) ≡ bytes_of coming
read_bytes n [] = refl
read_bytes n (c ∷ coming) = ap (λ (bytes : List ℕ). c.byte ∷ bytes) (read_bytes n coming)

pub read_none : (n : ℕ) (coming : List Coming) → coming ≡ [] → with_read n coming ≡ []
read_none n coming none = ap (with_read n) none

-- ---- all connections of a link, changed alike

pub all_mapped : (P Q : Wire → Type 0) (change : Wire → Wire) → ((wire : Wire) → P wire → Q (change wire)) → (wires : List Wire) → AllByRecursion P wires → AllByRecursion Q (map change wires)
all_mapped P Q change next [] all = tt
all_mapped P Q change next (wire ∷ wires) all = (next wire all.0, all_mapped P Q change next wires all.1)

pub all_as : (P Q : Wire → Type 0) → ((wire : Wire) → P wire → Q wire) → (wires : List Wire) → AllByRecursion P wires → AllByRecursion Q wires
all_as P Q next [] all = tt
all_as P Q next (wire ∷ wires) all = (next wire all.0, all_as P Q next wires all.1)

pub all_two : (P Q R : Wire → Type 0) → ((wire : Wire) → P wire → Q wire → R wire) → (wires : List Wire) → AllByRecursion P wires → AllByRecursion Q wires → AllByRecursion R wires
all_two P Q R next [] all more = tt
all_two P Q R next (wire ∷ wires) all more = (next wire all.0 more.0, all_two P Q R next wires all.1 more.1)

pub none_mapped : (test : Wire → Bool) (change : Wire → Wire) → ((wire : Wire) → test wire ≡ false → test (change wire) ≡ false) → (wires : List Wire) → list_any test wires ≡ false → list_any test (map change wires) ≡ false
none_mapped test change fewer [] none = refl
none_mapped test change fewer (wire ∷ wires) none = or_from _ _ (fewer wire (or_parts _ _ none).0) (none_mapped test change fewer wires (or_parts _ _ none).1)

pub most_mapped : (test : Wire → Bool) (change : Wire → Wire) → ((wire : Wire) → test wire ≡ false → test (change wire) ≡ false) → {wires : List Wire} → AtMostOne test wires → AtMostOne test (map change wires)
most_mapped test change fewer none_passes = none_passes
most_mapped test change fewer (passes_not {wire = wire} fails others) = passes_not (fewer wire fails) (most_mapped test change fewer others)
most_mapped test change fewer (passes_alone {wires = wires} none) = passes_alone (none_mapped test change fewer wires none)

-- ---- which ends have one, by side

abbrev pub own_has : Side → Wire → Bool
own_has side wire = has (end_at side wire)

abbrev pub far_has : Side → Wire → Bool
far_has side wire = has (end_beyond side wire)

-- of the end above at most one is had; of the end below at most one is had or awaited
abbrev pub held_own : Side → Hold → Bool
held_own Exit hold = has hold
held_own Entry hold = is_of_below hold

abbrev pub held_far : Side → Hold → Bool
held_far Exit hold = is_of_below hold
held_far Entry hold = has hold

abbrev pub own_held : Side → Wire → Bool
own_held side wire = held_own side (end_at side wire)

abbrev pub far_held : Side → Wire → Bool
far_held side wire = held_far side (end_beyond side wire)

pub held_left : (side : Side) → held_own side Left ≡ false
held_left Exit = refl
held_left Entry = refl

abbrev pub joined_by : Side → Hold → Hold → Bool
joined_by Exit own beyond = has own && has beyond
joined_by Entry own beyond = has beyond && has own

abbrev pub both_have : Side → Wire → Bool
both_have side wire = joined_by side (end_at side wire) (end_beyond side wire)

-- ---- what is said leaves the ends as they are

pub said_test : (test : Hold → Hold → Bool) (side : Side) (c : List Coming) (wire : Wire) → test (end_at side (said side c wire)) (end_beyond side (said side c wire)) ≡ test (end_at side wire) (end_beyond side wire)
said_test test side c wire = said_of side (λ (own beyond : Hold) (to from : List Coming). test own beyond ≡ test (end_at side wire) (end_beyond side wire)) c wire (λ has_it reached. refl) (λ off. refl)

pub left_far : (test : Hold → Bool) (side : Side) (wire : Wire) → test (end_beyond side (left side wire)) ≡ test (end_beyond side wire)
left_far test side wire = gone_of side (λ (own beyond : Hold) (to from : List Coming). test beyond ≡ test (end_beyond side wire)) wire (λ has_it. refl) (λ not. refl)

pub left_own : (side : Side) (wire : Wire) → own_has side (left side wire) ≡ false
left_own side wire = gone_of side (λ (own beyond : Hold) (to from : List Coming). has own ≡ false) wire (λ has_it. refl) (λ not. has_not (end_at side wire) not)

pub left_held : (side : Side) (wire : Wire) → own_held side wire ≡ false → own_held side (left side wire) ≡ false
left_held side wire fails = gone_of side (λ (own beyond : Hold) (to from : List Coming). held_own side own ≡ false) wire (λ has_it. held_left side) (λ not. fails)

no_both : (side : Side) (own beyond : Hold) → has own ≡ false → joined_by side own beyond ≡ false
no_both Exit own beyond none = ap (λ (b : Bool). b && has beyond) none
no_both Entry own Awaits none = refl
no_both Entry own Has none = none
no_both Entry own Left none = refl

pub left_joins_none : (side : Side) (wire : Wire) → both_have side (left side wire) ≡ false
left_joins_none side wire = gone_of side (λ (own beyond : Hold) (to from : List Coming). joined_by side own beyond ≡ false) wire (λ has_it. no_both side Left (end_beyond side wire) refl) (λ not. no_both side (end_at side wire) (end_beyond side wire) (has_not (end_at side wire) not))
