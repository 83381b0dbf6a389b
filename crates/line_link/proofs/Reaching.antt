-- What of some texts has arrived.
use Rattle.std.proofs.Common.{◌≡◌, refl, sym, subst, arith, ℕ, ◌-◌, ◌<◌, ◌≤◌, Bool, true, false, List, [], ◌∷◌, Some, None, drop, length, nat_lt, option_map, slice_get, if◌then◌else◌, lt-ltb, le-ltb}
use Rattle.std.proofs.lemmas.Option.{none-some, same_Some}
use Rattle.line_link.specs.Flow.{Stream, is_begun, reached}

-- not all of the first text has arrived
pub reached_here : (count first : ℕ) (texts : List (List ℕ)) → Some first ≡ option_map length (slice_get texts 0) → count < first → reached count texts ≡ record { texts = texts; arrived = count }
reached_here count first [] is within = absurd (none-some first (sym is))
reached_here count first (text ∷ texts) is within =
    let shorter : count < length text = omega (arith, same_Some first (length text) is) in
    rw (lt-ltb count (length text) shorter) refl

-- all of the first text has arrived
pub reached_on : (count first : ℕ) (texts : List (List ℕ)) → Some first ≡ option_map length (slice_get texts 0) → first ≤ count → reached (count - first) (drop 1 texts) ≡ reached count texts
reached_on count first [] is within = absurd (none-some first (sym is))
reached_on count first (text ∷ texts) is within =
    let size : first ≡ length text = same_Some first (length text) is in
    let beyond : length text ≤ count = omega arith in
    rw (size, le-ltb count (length text) beyond) refl

-- there is no text
pub reached_none : (count : ℕ) (texts : List (List ℕ)) → None ≡ option_map length (slice_get texts 0) → reached count texts ≡ record { texts = texts; arrived = 0 }
reached_none count [] is = refl
reached_none count (text ∷ texts) is = absurd (none-some (length text) is)

begun_step : (count : ℕ) (text : List ℕ) (texts : List (List ℕ)) (within : Bool) → nat_lt count (length text) ≡ within → (later : Stream) → is_begun later.texts later.arrived ≡ true
    → is_begun (if within then record { texts = text ∷ texts; arrived = count } else later).texts (if within then record { texts = text ∷ texts; arrived = count } else later).arrived ≡ true
begun_step count text texts true is later begun = is
begun_step count text texts false is later begun = begun

-- what is reached is within the first text
reached_begun : (count : ℕ) (texts : List (List ℕ)) → is_begun (reached count texts).texts (reached count texts).arrived ≡ true
reached_begun count [] = refl
reached_begun count (text ∷ texts) = begun_step count text texts (nat_lt count (length text)) refl (reached (count - length text) texts) (reached_begun (count - length text) texts)

pub begun_by : (stream : Stream) (count : ℕ) (texts : List (List ℕ)) → stream ≡ reached count texts → is_begun stream.texts stream.arrived ≡ true
begun_by stream count texts is = let P : Stream → Type 0 = λ (s : Stream). is_begun s.texts s.arrived ≡ true in subst P (sym is) (reached_begun count texts)
