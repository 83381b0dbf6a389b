-- A number of so many bytes: the least and the greatest that bytes can go on to.
use Rattle.std.proofs.Common.{◌≡◌, ℕ, zero, suc, ◌+◌, ◌-◌, ◌*◌, ◌/◌, ◌%◌, ◌^◌, ◌<◌, ◌≤◌, Bool, true, false, cond, ◌&&◌, ◌||◌, nat_le, nat_lt, List, [], ◌∷◌, ◌++◌, Result, Ok, Err, length, get_or, take, drop, refl, sym, ap, ◌∙◌, subst, arith, append_assoc, length-append, take-append-drop, max, ◌⊎◌, ⊎_elim, inl, inr, mod-eq_of_lt, ltb-true, ltb-false, leb-true, leb-false, lt-ltb, le-ltb, le-leb, mod-lt, IfOk, ltb, leb, ℤ, pos, negsuc, FitsSigned, w64}
use native.Mathlib.Nat.{pow-le-pow_right, pow-succ'}
use lib.Arith.{mod-mul, digits_div}
use Rattle.std.specs.Int.{byte_at, bytes_high_first, cast_signed, cast_unsigned}
use Rattle.std.proofs.lemmas.Int.{ints, of_z-to_z, to_z-of_z, to_z_pos}
use Rattle.std.proofs.Math.Facts.{to_z-neg}
use Rattle.std.proofs.lemmas.Bool.{and_from, and_parts, or_cases, or_left, or_right}
use Rattle.std.proofs.lemmas.List.{take_at, take_all}
use Rattle.std.proofs.lemmas.Nat.{mul-le}
use Rattle.book_entry.specs.declared.fault.Fail.{Fail}
use Rattle.book_entry.specs.declared.fault.Fail.TheVariants as fails
use Rattle.book_entry.specs.Numbers.{front_value, first_millis, greatest_of, judged, last_millis, least_of, meets, meets_moments, millis_in, number_by, number_in}
use Rattle.line_base.specs.Moment.{IsMomentMillis}
use Rattle.book_entry.specs.Reading.{moment_in}
use Rattle.book_entry.specs.Spelling.{AreBytes, millis_bytes}
use Rattle.book_entry.proofs.Forms.{Form, GoesOn, IsMade, IsRead, mapped}

-- ---- powers

pub next_power : (w : ℕ) → 256 ^ suc w ≡ 256 * 256 ^ w
next_power w = pow-succ' 256 w

pub power_pos : (w : ℕ) → 0 < 256 ^ w
power_pos zero = omega arith
power_pos (suc w) = omega (arith, next_power w, power_pos w)

-- (high * 256 + d) * p, where p is a power
spread : (high d p q : ℕ) → q ≡ 256 * p → (high * 256 + d) * p ≡ high * q + d * p
spread high d p q e = let f : high * q ≡ high * (256 * p) = ap (λ m. high * m) e in omega (arith, f)

byte_is : (k n : ℕ) → byte_at k n ≡ n / 256 ^ k % 256
byte_is zero n = omega arith
byte_is (suc k) n = refl

-- a number below the next power in two parts
parts : (k n : ℕ) → n % 256 ^ suc k ≡ byte_at k n * 256 ^ k + n % 256 ^ k
parts k n =
    ap (λ m. n % m) (next_power k) ∙ mod-mul n {m = 256} {c = 256 ^ k} (omega arith) (power_pos k)
    ∙ ap (λ m. m * 256 ^ k + n % 256 ^ k) (sym (byte_is k n))

rest_below : (k n : ℕ) → n % 256 ^ k < 256 ^ k
rest_below k n = mod-lt n (power_pos k)

-- ---- what is left out is filled

pub filled_least : (w high : ℕ) → front_value 0 w high [] ≡ high * 256 ^ w
unfolding front_value
filled_least zero high = omega arith
filled_least (suc w) high =
    let below = filled_least w (high * 256 + 0) in
    let e = next_power w in
    let s = spread high 0 (256 ^ w) (256 ^ suc w) e in
    omega (arith, below, s)

pub filled_greatest : (w high : ℕ) → front_value 255 w high [] + 1 ≡ high * 256 ^ w + 256 ^ w
unfolding front_value
filled_greatest zero high = omega arith
filled_greatest (suc w) high =
    let below = filled_greatest w (high * 256 + 255) in
    let e = next_power w in
    let s = spread high 255 (256 ^ w) (256 ^ suc w) e in
    omega (arith, below, s, e)

-- ---- the number that is spelled

pub spelled_value : (f w high n : ℕ) (rest : List ℕ) → front_value f w high (bytes_high_first w n ++ rest) ≡ high * 256 ^ w + n % 256 ^ w
unfolding front_value
spelled_value f zero high n rest = omega arith
spelled_value f (suc w) high n rest =
    let below = spelled_value f w (high * 256 + byte_at w n) n rest in
    let s = spread high (byte_at w n) (256 ^ w) (256 ^ suc w) (next_power w) in
    omega (arith, below, s, parts w n)

cons_head : (x y : ℕ) (xs ys : List ℕ) → x ∷ xs ≡ y ∷ ys → x ≡ y
cons_head x y xs ys e = cc

cons_tail : (x y : ℕ) (xs ys : List ℕ) → x ∷ xs ≡ y ∷ ys → xs ≡ ys
cons_tail x y xs ys e = cc

-- bytes that go on to a number can go on to no less and to no more
pub not_below : (w high n : ℕ) (bytes more rest : List ℕ) → bytes ++ more ≡ bytes_high_first w n ++ rest → front_value 0 w high bytes ≤ high * 256 ^ w + n % 256 ^ w
unfolding front_value
not_below zero high n bytes more rest e = omega arith
not_below (suc w) high n [] more rest e =
    let f = filled_least (suc w) high in
    omega (arith, f)
not_below (suc w) high n (b ∷ bytes) more rest e =
    let d : b ≡ byte_at w n = cons_head b (byte_at w n) (bytes ++ more) (bytes_high_first w n ++ rest) e in
    let below = not_below w (high * 256 + b) n bytes more rest (cons_tail b (byte_at w n) (bytes ++ more) (bytes_high_first w n ++ rest) e) in
    let s = spread high b (256 ^ w) (256 ^ suc w) (next_power w) in
    let p = ap (λ m. m * 256 ^ w) d in
    omega (arith, below, s, parts w n, p)

pub not_above : (w high n : ℕ) (bytes more rest : List ℕ) → bytes ++ more ≡ bytes_high_first w n ++ rest → high * 256 ^ w + n % 256 ^ w ≤ front_value 255 w high bytes
unfolding front_value
not_above zero high n bytes more rest e = omega arith
not_above (suc w) high n [] more rest e =
    let f = filled_greatest (suc w) high in
    let r = rest_below (suc w) n in
    omega (arith, f, r)
not_above (suc w) high n (b ∷ bytes) more rest e =
    let d : b ≡ byte_at w n = cons_head b (byte_at w n) (bytes ++ more) (bytes_high_first w n ++ rest) e in
    let below = not_above w (high * 256 + b) n bytes more rest (cons_tail b (byte_at w n) (bytes ++ more) (bytes_high_first w n ++ rest) e) in
    let s = spread high b (256 ^ w) (256 ^ suc w) (next_power w) in
    let p = ap (λ m. m * 256 ^ w) d in
    omega (arith, below, s, parts w n, p)

-- ---- bytes

pub bytes_tail : (b : ℕ) (bytes : List ℕ) → AreBytes (b ∷ bytes) → AreBytes bytes
bytes_tail b bytes are = record { below = λ k. are.below (suc k) }

pub bytes_head : (b : ℕ) (bytes : List ℕ) → AreBytes (b ∷ bytes) → b < 256
bytes_head b bytes are = are.below 0

-- what bytes begin lies in the range of what stands before them
pub at_least : (f w high : ℕ) (bytes : List ℕ) → high * 256 ^ w ≤ front_value f w high bytes
unfolding front_value
at_least f zero high bytes = omega arith
at_least f (suc w) high [] =
    let below = at_least f w (high * 256 + f) [] in
    let s = spread high f (256 ^ w) (256 ^ suc w) (next_power w) in
    omega (arith, below, s)
at_least f (suc w) high (b ∷ bytes) =
    let below = at_least f w (high * 256 + b) bytes in
    let s = spread high b (256 ^ w) (256 ^ suc w) (next_power w) in
    omega (arith, below, s)

pub below_next : (w high : ℕ) (bytes : List ℕ) → AreBytes bytes → front_value 255 w high bytes < high * 256 ^ w + 256 ^ w
unfolding front_value
below_next zero high bytes are = omega arith
below_next (suc w) high [] are =
    let f = filled_greatest (suc w) high in
    omega (arith, f)
below_next (suc w) high (b ∷ bytes) are =
    let below = below_next w (high * 256 + b) bytes (bytes_tail b bytes are) in
    let e = next_power w in
    let s = spread high b (256 ^ w) (256 ^ suc w) e in
    let small : b * 256 ^ w ≤ 255 * 256 ^ w = mul-le b (256 ^ w) 255 (256 ^ w) (omega (arith, bytes_head b bytes are)) (omega arith) in
    omega (arith, below, s, e, small)

pub in_order : (w high low : ℕ) (bytes : List ℕ) → low ≤ high → front_value 0 w low bytes ≤ front_value 255 w high bytes
unfolding front_value
in_order zero high low bytes h = h
in_order (suc w) high low [] h = in_order w (high * 256 + 255) (low * 256 + 0) [] (omega arith)
in_order (suc w) high low (b ∷ bytes) h = in_order w (high * 256 + b) (low * 256 + b) bytes (omega arith)

-- nothing is left out of as many bytes
pub whole_value : (f g w high : ℕ) (bytes : List ℕ) → w ≤ length bytes → front_value f w high bytes ≡ front_value g w high bytes
unfolding front_value
whole_value f g zero high bytes h = refl
whole_value f g (suc w) high [] h = absurd (omega arith)
whole_value f g (suc w) high (b ∷ bytes) h = whole_value f g w (high * 256 + b) bytes (omega arith)

-- a number in the range of what stands before has that as its higher bytes
higher : (w high n : ℕ) → high * 256 ^ w ≤ n → n < high * 256 ^ w + 256 ^ w → n / 256 ^ w ≡ high
higher w high n low up =
    let split : n ≡ high * 256 ^ w + (n - high * 256 ^ w) = omega arith in
    ap (λ m. m / 256 ^ w) split ∙ digits_div high {m = 256 ^ w} {r = n - high * 256 ^ w} (omega arith)

byte_of : (w high b n : ℕ) → b < 256 → (high * 256 + b) * 256 ^ w ≤ n → n < (high * 256 + b) * 256 ^ w + 256 ^ w → byte_at w n ≡ b
byte_of w high b n small low up =
    byte_is w n ∙ ap (λ m. m % 256) (higher w (high * 256 + b) n low up) ∙ omega arith

-- a number that the bytes can go on to begins with them
pub begins_with : (w high n : ℕ) (bytes : List ℕ) → length bytes ≤ w → AreBytes bytes → front_value 0 w high bytes ≤ n → n ≤ front_value 255 w high bytes → take (length bytes) (bytes_high_first w n) ≡ bytes
unfolding front_value
begins_with w high n [] h are low up = refl
begins_with zero high n (b ∷ bytes) h are low up = absurd (omega arith)
begins_with (suc w) high n (b ∷ bytes) h are low up =
    let tail = bytes_tail b bytes are in
    let l = at_least 0 w (high * 256 + b) bytes in
    let u = below_next w (high * 256 + b) bytes tail in
    let one : byte_at w n ≡ b = byte_of w high b n (bytes_head b bytes are) (omega arith) (omega arith) in
    let others = begins_with w (high * 256 + b) n bytes (omega arith) tail low up in
    λ i. one i ∷ others i

-- as many bytes are the spelling of what they begin
pub spells_value : (w high : ℕ) (bytes : List ℕ) → w ≤ length bytes → AreBytes bytes → bytes_high_first w (front_value 0 w high bytes) ≡ take w bytes
unfolding front_value
spells_value zero high bytes h are = refl
spells_value (suc w) high [] h are = absurd (omega arith)
spells_value (suc w) high (b ∷ bytes) h are =
    let tail = bytes_tail b bytes are in
    let n = front_value 0 w (high * 256 + b) bytes in
    let l = at_least 0 w (high * 256 + b) bytes in
    let u = below_next w (high * 256 + b) bytes tail in
    let o = in_order w (high * 256 + b) (high * 256 + b) bytes (omega arith) in
    let one : byte_at w n ≡ b = byte_of w high b n (bytes_head b bytes are) (omega arith) (omega arith) in
    let others = spells_value w (high * 256 + b) bytes (omega arith) tail in
    λ i. one i ∷ others i

pub spelled_length : (w n : ℕ) → length (bytes_high_first w n) ≡ w
spelled_length zero n = refl
spelled_length (suc w) n = omega (arith, spelled_length w n)

-- ---- reading a number that passes a test on what the bytes can go on to

abbrev decided : Bool → Bool → ℕ → Result ℕ Fail
decided passes ends n = judged passes ends n

decided_ok : (passes ends : Bool) (n : ℕ) → passes ≡ true → ends ≡ false → decided passes ends n ≡ Ok n
decided_ok passes ends n p e = ap (λ t. decided t ends n) p ∙ ap (λ t. decided true t n) e

ok_decided : (passes ends : Bool) (n m : ℕ) → decided passes ends n ≡ Ok m → (passes ≡ true) × (ends ≡ false) × (n ≡ m)
ok_decided true true n m e = absurd (cc)
ok_decided true false n m e = (refl, refl, cc)
ok_decided false ends n m e = absurd (cc)

short_decided : (passes ends : Bool) (n : ℕ) → decided passes ends n ≡ Err fails.Short → (passes ≡ true) × (ends ≡ true)
short_decided true true n e = (refl, refl)
short_decided true false n e = absurd (cc)
short_decided false ends n e = absurd (cc)

bad_decided : (passes ends : Bool) (n : ℕ) → decided passes ends n ≡ Err fails.Bad → passes ≡ false
bad_decided true true n e = absurd (cc)
bad_decided true false n e = absurd (cc)
bad_decided false ends n e = refl

module _ (w : ℕ) (test : ℕ → ℕ → Bool) (P : ℕ → Type 0) (some : (low high : ℕ) → low ≤ high → high < 256 ^ w → test low high ≡ true → (n : ℕ) × (low ≤ n) × (n ≤ high) × P n)
    (here : (low high n : ℕ) → low ≤ n → n ≤ high → P n → test low high ≡ true) (bound : (n : ℕ) → P n → n < 256 ^ w) where
  own_value : (f n : ℕ) (rest : List ℕ) → P n → front_value f w 0 (bytes_high_first w n ++ rest) ≡ n
  own_value f n rest p = omega (arith, spelled_value f w 0 n rest, mod-eq_of_lt (bound n p))

  number_back : (n : ℕ) (rest : List ℕ) → P n → number_by test w (bytes_high_first w n ++ rest) ≡ Ok n
  number_back n rest p =
      let bytes = bytes_high_first w n ++ rest in
      let least = own_value 0 n rest p in
      let greatest = own_value 255 n rest p in
      let size : w ≤ length bytes = omega (arith, length-append (bytes_high_first w n) rest, spelled_length w n) in
      decided_ok (test (least_of w bytes) (greatest_of w bytes)) (nat_lt (length bytes) w) (least_of w bytes)
      (here (least_of w bytes) (greatest_of w bytes) n (omega (arith, least)) (omega (arith, greatest)) p) (le-ltb (length bytes) w size)
      ∙ ap Ok least

  number_only : (bytes : List ℕ) (n : ℕ) → AreBytes bytes → number_by test w bytes ≡ Ok n → IsRead (bytes_high_first w) P bytes n
  number_only bytes n are e =
      let d = ok_decided (test (least_of w bytes) (greatest_of w bytes)) (nat_lt (length bytes) w) (least_of w bytes) n e in
      let size : w ≤ length bytes = ltb-false (length bytes) w d.1 in
      let same = whole_value 0 255 w 0 bytes size in
      let s = some (least_of w bytes) (greatest_of w bytes) (in_order w 0 0 bytes (omega arith)) (omega (arith, below_next w 0 bytes are)) d.0 in
      let is : s.0 ≡ n = omega (arith, s.1, s.2, same, d.2) in
      record {
        value_fits = subst P is s.3;
        rest = drop w bytes;
        spelled = sym (take-append-drop w bytes) ∙ ap (λ (x : List ℕ). x ++ drop w bytes) (sym (spells_value w 0 bytes size are) ∙ ap (bytes_high_first w) d.2);
      }

  number_short : (bytes : List ℕ) → AreBytes bytes → number_by test w bytes ≡ Err fails.Short → GoesOn (bytes_high_first w) P bytes
  number_short bytes are e =
      let d = short_decided (test (least_of w bytes) (greatest_of w bytes)) (nat_lt (length bytes) w) (least_of w bytes) e in
      let size = ltb-true (length bytes) w d.1 in
      let s = some (least_of w bytes) (greatest_of w bytes) (in_order w 0 0 bytes (omega arith)) (omega (arith, below_next w 0 bytes are)) d.0 in
      let begins = begins_with w 0 s.0 bytes (omega (arith, size)) are s.1 s.2 in
      record {
        value = s.0;
        value_fits = s.3;
        more = drop (length bytes) (bytes_high_first w s.0);
        spelled = ap (λ (x : List ℕ). x ++ drop (length bytes) (bytes_high_first w s.0)) (sym begins) ∙ take-append-drop (length bytes) (bytes_high_first w s.0);
      }

  number_bad : (bytes more rest : List ℕ) (n : ℕ) → AreBytes bytes → number_by test w bytes ≡ Err fails.Bad → P n → bytes ++ more ≡ bytes_high_first w n ++ rest → ⊥
  number_bad bytes more rest n are e p q =
      let d = bad_decided (test (least_of w bytes) (greatest_of w bytes)) (nat_lt (length bytes) w) (least_of w bytes) e in
      let low = not_below w 0 n bytes more rest q in
      let up = not_above w 0 n bytes more rest q in
      let m = mod-eq_of_lt (bound n p) in
      let passes = here (least_of w bytes) (greatest_of w bytes) n (omega (arith, low, m)) (omega (arith, up, m)) p in
      absurd (cc (d, passes))

  pub by_form : Form (bytes_high_first w) P (number_by test w)
  by_form = record { back = number_back; only = number_only; short = number_short; bad = number_bad }

-- ---- from the lowest to the highest

abbrev pub IsIn : ℕ → ℕ → ℕ → Type 0
IsIn lowest highest n = (lowest ≤ n) × (n ≤ highest)

meets_some : (lowest highest low high : ℕ) → lowest ≤ highest → low ≤ high → meets lowest highest low high ≡ true → (n : ℕ) × (low ≤ n) × (n ≤ high) × IsIn lowest highest n
meets_some lowest highest low high order h e =
    let d = and_parts (nat_le lowest high) (nat_le low highest) e in
    let a = leb-true lowest high d.0 in
    let b = leb-true low highest d.1 in
    (max low lowest, omega arith, omega (arith, a, h), (omega arith, omega (arith, b, order)))

meets_here : (lowest highest low high n : ℕ) → low ≤ n → n ≤ high → IsIn lowest highest n → meets lowest highest low high ≡ true
meets_here lowest highest low high n a b is =
    and_from (nat_le lowest high) (nat_le low highest) (le-leb lowest high (omega (arith, is.0, b))) (le-leb low highest (omega (arith, is.1, a)))

pub number_form : (w lowest highest : ℕ) → lowest ≤ highest → highest < 256 ^ w → Form (bytes_high_first w) (IsIn lowest highest) (number_in w lowest highest)
unfolding number_in
number_form w lowest highest order bound =
    by_form w (meets lowest highest) (IsIn lowest highest) (λ low high h top. meets_some lowest highest low high order h) (meets_here lowest highest) (λ n is. omega (arith, is.1, bound))

-- ---- the two's complement of a moment

abbrev pub IsMillis : ℕ → Type 0
IsMillis n = (n < 256 ^ 8) × ((n ≤ last_millis) ⊎ (first_millis ≤ n))

moments_by : (low high : ℕ) → low ≤ high → high < 256 ^ 8 → (low ≤ last_millis) ⊎ (first_millis ≤ high) → (n : ℕ) × (low ≤ n) × (n ≤ high) × IsMillis n
moments_by low high h top (inl a) = (low, omega arith, h, (omega arith, inl a))
moments_by low high h top (inr a) = (max low first_millis, omega arith, omega (arith, a, h), (omega (arith, a, h, top), inr (omega arith)))

moments_some : (low high : ℕ) → low ≤ high → high < 256 ^ 8 → meets_moments low high ≡ true → (n : ℕ) × (low ≤ n) × (n ≤ high) × IsMillis n
moments_some low high h top e = moments_by low high h top (elim (or_cases (nat_le low last_millis) (nat_le first_millis high) e) [
  | inl a ↦ inl (leb-true low last_millis a)
  | inr a ↦ inr (leb-true first_millis high a)
])

moments_at : (low high n : ℕ) → low ≤ n → n ≤ high → (n ≤ last_millis) ⊎ (first_millis ≤ n) → meets_moments low high ≡ true
moments_at low high n a b (inl is) = or_left (nat_le low last_millis) (nat_le first_millis high) (le-leb low last_millis (omega (arith, a, is)))
moments_at low high n a b (inr is) = or_right (nat_le low last_millis) (nat_le first_millis high) (le-leb first_millis high (omega (arith, b, is)))

pub millis_form : Form (bytes_high_first 8) IsMillis millis_in
unfolding millis_in
millis_form = by_form 8 meets_moments IsMillis moments_some (λ low high n a b is. moments_at low high n a b is.1) (λ n is. is.0)

millis_bits : (z : ℤ) → IsMomentMillis z → IsMillis (cast_unsigned w64 z)
millis_bits (pos n) is = (omega (arith, ints, is.0, is.1), inl (omega (arith, ints, is.0, is.1)))
millis_bits (negsuc n) is = (omega (arith, ints, is.0, is.1), inr (omega (arith, ints, is.0, is.1)))

millis_fit : (z : ℤ) → IsMomentMillis z → FitsSigned w64 z
millis_fit z is = omega (arith, ints, is.0, is.1)

bits_millis : (n : ℕ) → n < 256 ^ 8 → (n ≤ last_millis) ⊎ (first_millis ≤ n) → IsMomentMillis (cast_signed w64 n)
bits_millis n top (inl a) =
    let half : n < 2 ^ 63 = omega (arith, a) in
    let is : cast_signed w64 n ≡ pos n = to_z_pos w64 n half in
    subst IsMomentMillis (sym is) (omega (arith, ints, a), omega (arith, ints, a))
bits_millis n top (inr a) =
    let k = 2 ^ 64 - 1 - n in
    let half : k < 2 ^ 63 = omega (arith, a) in
    let whole : n ≡ 2 ^ 64 - suc k = omega (arith, top) in
    let is : cast_signed w64 n ≡ negsuc k = ap (cast_signed w64) whole ∙ to_z-neg w64 k half in
    subst IsMomentMillis (sym is) (omega (arith, ints, a, top), omega (arith, ints, a, top))

pub bits_are_millis : (n : ℕ) → IsMillis n → IsMomentMillis (cast_signed w64 n)
bits_are_millis n is = bits_millis n is.0 is.1

bits_back : (n : ℕ) → IsMillis n → cast_unsigned w64 (cast_signed w64 n) ≡ n
bits_back n is = of_z-to_z w64 n (omega (arith, is.0))

pub moment_form : Form millis_bytes IsMomentMillis moment_in
moment_form =
    mapped (bytes_high_first 8) IsMillis millis_in (cast_signed w64) millis_bytes IsMomentMillis millis_form bits_are_millis
    (λ n is. ap (bytes_high_first 8) (bits_back n is))
    (λ z is. record { from = cast_unsigned w64 z; from_fits = millis_bits z is; made = to_z-of_z w64 z (millis_fit z is) })

-- ---- what the code needs to stay within its type

pub value_grows : (high width byte : ℕ) → 0 < width → byte < 256 → (high + 1) * 256 ^ width ≤ 2 ^ 128 → (high * 256 + byte + 1) * 256 ^ (width - 1) ≤ 2 ^ 128
value_grows high zero byte some small h = absurd (omega arith)
value_grows high (suc w) byte some small h =
    let p = 256 ^ w in
    let less : (high * 256 + byte + 1) * p ≤ ((high + 1) * 256) * p = mul-le (high * 256 + byte + 1) p ((high + 1) * 256) p (omega arith) (omega arith) in
    let e : (high + 1) * 256 ^ suc w ≡ (high + 1) * (256 * p) = ap (λ m. (high + 1) * m) (next_power w) in
    let back : suc w - 1 ≡ w = omega arith in
    let goal : (high * 256 + byte + 1) * p ≤ 2 ^ 128 = omega (arith, less, e, h) in
    subst (λ m. (high * 256 + byte + 1) * 256 ^ m ≤ 2 ^ 128) (sym back) goal

pub value_fits : (high width byte : ℕ) → 0 < width → byte < 256 → (high + 1) * 256 ^ width ≤ 2 ^ 128 → high * 256 + byte < 2 ^ 128
value_fits high width byte some small h =
    let grown = value_grows high width byte some small h in
    let one : (high * 256 + byte + 1) * 1 ≤ (high * 256 + byte + 1) * 256 ^ (width - 1) = mul-le (high * 256 + byte + 1) 1 (high * 256 + byte + 1) (256 ^ (width - 1)) (omega arith) (power_pos (width - 1)) in
    omega (arith, grown, one)

pub product_fits : (high width : ℕ) → 0 < width → (high + 1) * 256 ^ width ≤ 2 ^ 128 → high * 256 < 2 ^ 128
product_fits high width some h = omega (arith, value_fits high width 0 some (omega arith) h)

pub value_end : (filler width high : ℕ) (bytes : List ℕ) → width ≡ 0 → high ≡ front_value filler width high bytes
unfolding front_value
value_end filler zero high bytes e = refl
value_end filler (suc w) high bytes e = absurd (omega arith)

suc_less : (n : ℕ) → suc n - 1 ≡ n
suc_less n = omega arith

pub value_filled : (filler width high next : ℕ) (bytes : List ℕ) → 0 < width → length bytes ≡ 0 → next ≡ high * 256 + filler → front_value filler (width - 1) next bytes ≡ front_value filler width high bytes
unfolding front_value
value_filled filler zero high next bytes h none e = absurd (omega arith)
value_filled filler (suc w) high next [] h none e = ap (λ m. front_value filler m next []) (suc_less w) ∙ ap (λ n. front_value filler w n []) e
value_filled filler (suc w) high next (b ∷ bytes) h none e = absurd (omega arith)

pub value_more : (filler width high next : ℕ) (bytes rest : List ℕ) → 0 < width → 0 < length bytes → next ≡ high * 256 + get_or bytes 0 0 → rest ≡ drop 1 bytes → front_value filler (width - 1) next rest ≡ front_value filler width high bytes
unfolding front_value
value_more filler zero high next bytes rest h some e r = absurd (omega arith)
value_more filler (suc w) high next [] rest h some e r = absurd (omega arith)
value_more filler (suc w) high next (b ∷ bytes) rest h some e r =
    ap (λ m. front_value filler m next rest) (suc_less w) ∙ ap (λ n. front_value filler w n rest) e ∙ ap (λ (x : List ℕ). front_value filler w (high * 256 + b) x) r

pub start_fits : (width : ℕ) → width ≤ 16 → (0 + 1) * 256 ^ width ≤ 2 ^ 128
start_fits width h =
    let top : 256 ^ width ≤ 256 ^ 16 = pow-le-pow_right {n = 256} (omega arith) {i = width} {j = 16} h in
    omega (arith, top)

-- ---- what the reader of a number answers

pub number_is : (w lowest highest : ℕ) (bytes : List ℕ) (least greatest : ℕ) (passes : Bool) (result : Result ℕ Fail) → least ≡ front_value 0 w 0 bytes → greatest ≡ front_value 255 w 0 bytes → passes ≡ meets lowest highest least greatest → result ≡ judged passes (nat_lt (length bytes) w) least
    → result ≡ number_in w lowest highest bytes
unfolding number_in
number_is w lowest highest bytes least greatest passes result l g p e =
    e ∙ ap (λ t. judged t (nat_lt (length bytes) w) least) (p ∙ ap (λ n. meets lowest highest n greatest) l ∙ ap (λ n. meets lowest highest (least_of w bytes) n) g)
    ∙ ap (λ n. judged (meets lowest highest (least_of w bytes) (greatest_of w bytes)) (nat_lt (length bytes) w) n) l

within_by : (w lowest highest : ℕ) (bytes : List ℕ) (n : ℕ) → number_in w lowest highest bytes ≡ Ok n → IsIn lowest highest n
unfolding number_in
within_by w lowest highest bytes n e =
    let d = ok_decided (meets lowest highest (least_of w bytes) (greatest_of w bytes)) (nat_lt (length bytes) w) (least_of w bytes) n e in
    let same = whole_value 0 255 w 0 bytes (ltb-false (length bytes) w d.1) in
    let m = and_parts (nat_le lowest (greatest_of w bytes)) (nat_le (least_of w bytes) highest) d.0 in
    (omega (arith, leb-true lowest (greatest_of w bytes) m.0, same, d.2), omega (arith, leb-true (least_of w bytes) highest m.1, d.2))

pub number_least : (w lowest highest : ℕ) (bytes : List ℕ) (result : Result ℕ Fail) → result ≡ number_in w lowest highest bytes → IfOk result (λ n. lowest ≤ n)
number_least w lowest highest bytes (Ok n) e = (within_by w lowest highest bytes n (sym e)).0
number_least w lowest highest bytes (Err why) e = tt

pub number_most : (w lowest highest : ℕ) (bytes : List ℕ) (result : Result ℕ Fail) → result ≡ number_in w lowest highest bytes → IfOk result (λ n. n ≤ highest)
number_most w lowest highest bytes (Ok n) e = (within_by w lowest highest bytes n (sym e)).1
number_most w lowest highest bytes (Err why) e = tt

pub millis_is : (bytes : List ℕ) (least greatest : ℕ) (passes : Bool) (result : Result ℕ Fail) → least ≡ front_value 0 8 0 bytes → greatest ≡ front_value 255 8 0 bytes → passes ≡ meets_moments least greatest → result ≡ judged passes (nat_lt (length bytes) 8) least → result ≡ millis_in bytes
unfolding millis_in
millis_is bytes least greatest passes result l g p e =
    e ∙ ap (λ t. judged t (nat_lt (length bytes) 8) least) (p ∙ ap (λ n. meets_moments n greatest) l ∙ ap (λ n. meets_moments (least_of 8 bytes) n) g)
    ∙ ap (λ n. judged (meets_moments (least_of 8 bytes) (greatest_of 8 bytes)) (nat_lt (length bytes) 8) n) l

pub millis_within : (bytes : List ℕ) (result : Result ℕ Fail) → AreBytes bytes → result ≡ millis_in bytes → IfOk result (λ n. n < 2 ^ 64)
millis_within bytes (Ok n) are e = let is = (millis_form.only bytes n are (sym e)).value_fits in omega (arith, is.0)
millis_within bytes (Err why) are e = tt

pub millis_moment : (bytes : List ℕ) (result : Result ℕ Fail) → AreBytes bytes → result ≡ millis_in bytes → IfOk result (λ n. IsMomentMillis (cast_signed w64 n))
millis_moment bytes (Ok n) are e = bits_are_millis n (millis_form.only bytes n are (sym e)).value_fits
millis_moment bytes (Err why) are e = tt
