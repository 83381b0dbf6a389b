-- Digits without leading or trailing zeros are the text of the number or the decimal that they show.
use Rattle.std.proofs.Common.{◌≡◌, ◌==◌, ℕ, ◌+◌, ◌-◌, ◌*◌, ◌/◌, ◌%◌, ◌^◌, ◌<◌, ◌≤◌, true, false, List, [], ◌∷◌, ◌++◌, length, refl, sym, ap, ◌∙◌, arith, decimal, append-nil}
use Rattle.std.proofs.lemmas.Bool.{and_parts, ne_eqb}
use Rattle.std.proofs.lemmas.Fmt.{decimal-digits_value}
use Rattle.std.proofs.lemmas.Nat.{pow-add, mul-add-lt}
use Rattle.std.proofs.Math.Nat.{pow-le-pow_right}
use Rattle.std.specs.Char.{is_ascii_digit}
use Rattle.line_base.specs.Number.{are_digits, value_of, digit, fraction_text}
use Rattle.line_base.specs.Decimal.{six_digits, without_trailing_zeros, decimal_text}
use Rattle.line_base.proofs.Digits.{digit_range, value_of-few}
use Rattle.line_base.proofs.Written.{own_numerals}
use Rattle.canonical_frames.specs.Values.{IsWhole, IsFraction}

-- ---- whole numbers

pub decimal-value_of : (most : ℕ) (digits : List ℕ) → are_digits digits ≡ true → IsWhole most digits → value_of digits < 2 ^ 64 → decimal (value_of digits) ≡ digits
decimal-value_of most digits are h small = decimal-digits_value own_numerals digits are h.some h.leads small

-- ---- fractions

record AreSix (a b c d e f : ℕ) : Type 0 where
  first : is_ascii_digit a ≡ true
  second : is_ascii_digit b ≡ true
  third : is_ascii_digit c ≡ true
  fourth : is_ascii_digit d ≡ true
  fifth : is_ascii_digit e ≡ true
  sixth : is_ascii_digit f ≡ true

-- six digits of what six digits show
six : (n a b c d e f : ℕ) → AreSix a b c d e f → n ≡ value_of (a ∷ b ∷ c ∷ d ∷ e ∷ f ∷ []) → six_digits n ≡ a ∷ b ∷ c ∷ d ∷ e ∷ f ∷ []
six n a b c d e f h is =
    let p = digit_range a h.first in let q = digit_range b h.second in let r = digit_range c h.third in
    let s = digit_range d h.fourth in let t = digit_range e h.fifth in let u = digit_range f h.sixth in
    let at_a : digit (n / 100_000) ≡ a = omega arith in
    let at_b : digit (n / 10_000) ≡ b = omega arith in
    let at_c : digit (n / 1_000) ≡ c = omega arith in
    let at_d : digit (n / 100) ≡ d = omega arith in
    let at_e : digit (n / 10) ≡ e = omega arith in
    let at_f : digit n ≡ f = omega arith in
    λ i. at_a i ∷ at_b i ∷ at_c i ∷ at_d i ∷ at_e i ∷ at_f i ∷ []

-- the millionths of a fraction
abbrev pub millionths : List ℕ → ℕ
millionths digits = value_of digits * 10 ^ (6 - length digits)

abbrev Returns : List ℕ → Type 0
Returns digits = without_trailing_zeros (six_digits (millionths digits)) ≡ digits

fraction_again : (digits : List ℕ) → are_digits digits ≡ true → IsFraction digits → Returns digits
fraction_again [] are h = absurd (let some = h.some in omega arith)
fraction_again (a ∷ []) are h =
    let p = and_parts (is_ascii_digit a) true are in
    let end : (a == 48) ≡ false = ne_eqb a 48 h.ends in
    ap without_trailing_zeros (six (millionths (a ∷ [])) a 48 48 48 48 48 (record { first = p.0; second = refl; third = refl; fourth = refl; fifth = refl; sixth = refl }) (omega arith)) ∙ (let last : without_trailing_zeros (a ∷ 48 ∷ 48 ∷ 48 ∷ 48 ∷ 48 ∷ []) ≡ a ∷ [] = rw end refl in last)
fraction_again (a ∷ b ∷ []) are h =
    let p = and_parts (is_ascii_digit a) _ are in
    let q = and_parts (is_ascii_digit b) true p.1 in
    let end : (b == 48) ≡ false = ne_eqb b 48 h.ends in
    ap without_trailing_zeros (six (millionths (a ∷ b ∷ [])) a b 48 48 48 48 (record { first = p.0; second = q.0; third = refl; fourth = refl; fifth = refl; sixth = refl }) (omega arith)) ∙ (let last : without_trailing_zeros (a ∷ b ∷ 48 ∷ 48 ∷ 48 ∷ 48 ∷ []) ≡ a ∷ b ∷ [] = rw end refl in last)
fraction_again (a ∷ b ∷ c ∷ []) are h =
    let p = and_parts (is_ascii_digit a) _ are in
    let q = and_parts (is_ascii_digit b) _ p.1 in
    let r = and_parts (is_ascii_digit c) true q.1 in
    let end : (c == 48) ≡ false = ne_eqb c 48 h.ends in
    ap without_trailing_zeros (six (millionths (a ∷ b ∷ c ∷ [])) a b c 48 48 48 (record { first = p.0; second = q.0; third = r.0; fourth = refl; fifth = refl; sixth = refl }) (omega arith)) ∙ (let last : without_trailing_zeros (a ∷ b ∷ c ∷ 48 ∷ 48 ∷ 48 ∷ []) ≡ a ∷ b ∷ c ∷ [] = rw end refl in last)
fraction_again (a ∷ b ∷ c ∷ d ∷ []) are h =
    let p = and_parts (is_ascii_digit a) _ are in
    let q = and_parts (is_ascii_digit b) _ p.1 in
    let r = and_parts (is_ascii_digit c) _ q.1 in
    let s = and_parts (is_ascii_digit d) true r.1 in
    let end : (d == 48) ≡ false = ne_eqb d 48 h.ends in
    ap without_trailing_zeros (six (millionths (a ∷ b ∷ c ∷ d ∷ [])) a b c d 48 48 (record { first = p.0; second = q.0; third = r.0; fourth = s.0; fifth = refl; sixth = refl }) (omega arith)) ∙ (let last : without_trailing_zeros (a ∷ b ∷ c ∷ d ∷ 48 ∷ 48 ∷ []) ≡ a ∷ b ∷ c ∷ d ∷ [] = rw end refl in last)
fraction_again (a ∷ b ∷ c ∷ d ∷ e ∷ []) are h =
    let p = and_parts (is_ascii_digit a) _ are in
    let q = and_parts (is_ascii_digit b) _ p.1 in
    let r = and_parts (is_ascii_digit c) _ q.1 in
    let s = and_parts (is_ascii_digit d) _ r.1 in
    let t = and_parts (is_ascii_digit e) true s.1 in
    let end : (e == 48) ≡ false = ne_eqb e 48 h.ends in
    ap without_trailing_zeros (six (millionths (a ∷ b ∷ c ∷ d ∷ e ∷ [])) a b c d e 48 (record { first = p.0; second = q.0; third = r.0; fourth = s.0; fifth = t.0; sixth = refl }) (omega arith)) ∙ (let last : without_trailing_zeros (a ∷ b ∷ c ∷ d ∷ e ∷ 48 ∷ []) ≡ a ∷ b ∷ c ∷ d ∷ e ∷ [] = rw end refl in last)
fraction_again (a ∷ b ∷ c ∷ d ∷ e ∷ f ∷ []) are h =
    let p = and_parts (is_ascii_digit a) _ are in
    let q = and_parts (is_ascii_digit b) _ p.1 in
    let r = and_parts (is_ascii_digit c) _ q.1 in
    let s = and_parts (is_ascii_digit d) _ r.1 in
    let t = and_parts (is_ascii_digit e) _ s.1 in
    let u = and_parts (is_ascii_digit f) true t.1 in
    let end : (f == 48) ≡ false = ne_eqb f 48 h.ends in
    ap without_trailing_zeros (six (millionths (a ∷ b ∷ c ∷ d ∷ e ∷ f ∷ [])) a b c d e f (record { first = p.0; second = q.0; third = r.0; fourth = s.0; fifth = t.0; sixth = u.0 }) (omega arith)) ∙ (let last : without_trailing_zeros (a ∷ b ∷ c ∷ d ∷ e ∷ f ∷ []) ≡ a ∷ b ∷ c ∷ d ∷ e ∷ f ∷ [] = rw end refl in last)
fraction_again (a ∷ b ∷ c ∷ d ∷ e ∷ f ∷ g ∷ rest) are h = absurd (let few = h.few in omega arith)

-- ---- decimals

fraction_millionths : (v k : ℕ) → v < 10 ^ k → k ≤ 6 → v * 10 ^ (6 - k) < 1_000_000
fraction_millionths v k small few =
    let six_in_all : k + (6 - k) ≡ 6 = omega arith in
    let whole : 10 ^ k * 10 ^ (6 - k) ≡ 10 ^ 6 = sym (pow-add 10 k (6 - k)) ∙ ap (λ (n : ℕ). 10 ^ n) six_in_all in
    let some : 10 ^ 0 ≤ 10 ^ (6 - k) = pow-le-pow_right {n = 10} (omega arith) {i = 0} {j = 6 - k} (omega arith) in
    let less = mul-add-lt v (10 ^ (6 - k)) 0 (10 ^ k) small (omega arith) in
    omega (arith, whole, less)

-- the millionths of a whole part and a fraction
abbrev pub all_millionths : List ℕ → List ℕ → ℕ
all_millionths whole fraction = value_of whole * 1_000_000 + millionths fraction

text_from : (n w m : ℕ) (whole fraction : List ℕ) → n ≡ w * 1_000_000 + m → m < 1_000_000 → decimal w ≡ whole → without_trailing_zeros (six_digits m) ≡ fraction → decimal_text n ≡ whole ++ fraction_text fraction
unfolding decimal_text
text_from n w m whole fraction is small front back =
    let high : n / 1_000_000 ≡ w = omega arith in
    let low : n % 1_000_000 ≡ m = omega arith in
    ap (λ (k : ℕ). decimal k ++ fraction_text (without_trailing_zeros (six_digits (n % 1_000_000)))) high
    ∙ ap (λ (k : ℕ). decimal w ++ fraction_text (without_trailing_zeros (six_digits k))) low
    ∙ ap (λ (text : List ℕ). text ++ fraction_text (without_trailing_zeros (six_digits m))) front
    ∙ ap (λ (text : List ℕ). whole ++ fraction_text text) back

-- a number of millionths with this text
pub record HasDecimalText (text : List ℕ) : Type 0 where
  pub millionths : ℕ
  pub small : millionths < 1_000_000_000_000
  pub is : decimal_text millionths ≡ text

whole_small : (whole : List ℕ) → are_digits whole ≡ true → IsWhole 6 whole → value_of whole < 1_000_000
whole_small whole are h = value_of-few whole 6 are h.few

pub whole_text : (whole : List ℕ) → are_digits whole ≡ true → IsWhole 6 whole → HasDecimalText whole
whole_text whole are h =
    let below = whole_small whole are h in
    record {
      millionths = value_of whole * 1_000_000;
      small = omega arith;
      is = text_from (value_of whole * 1_000_000) (value_of whole) 0 whole [] (omega arith) (omega arith) (decimal-value_of 6 whole are h (omega arith)) refl ∙ append-nil whole;
    }

fraction_shown : (fraction : List ℕ) → IsFraction fraction → fraction_text fraction ≡ 46 ∷ fraction
fraction_shown [] h = absurd (let some = h.some in omega arith)
fraction_shown (c ∷ cs) h = refl

pub fraction_text_back : (whole fraction : List ℕ) → are_digits whole ≡ true → are_digits fraction ≡ true → IsWhole 6 whole → IsFraction fraction → HasDecimalText (whole ++ (46 ∷ fraction))
fraction_text_back whole fraction are behind h k =
    let below = whole_small whole are h in
    let rest = fraction_millionths (value_of fraction) (length fraction) (value_of-few fraction (length fraction) behind (omega arith)) k.few in
    record {
      millionths = value_of whole * 1_000_000 + millionths fraction;
      small = omega (arith, below, rest);
      is = text_from (value_of whole * 1_000_000 + millionths fraction) (value_of whole) (millionths fraction) whole fraction refl rest (decimal-value_of 6 whole are h (omega arith)) (fraction_again fraction behind k)
          ∙ ap (λ (text : List ℕ). whole ++ text) (fraction_shown fraction k);
    }
