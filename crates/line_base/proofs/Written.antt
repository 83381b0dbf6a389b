-- How numbers are written: `decimal` digit by digit.
use Rattle.std.proofs.Common.{Bool, false, cond, None, ◌≡◌, ℕ, ◌^◌, true, rules, Some, ◌*◌, ◌/◌, ◌%◌, ◌<◌, ◌≤◌, List, [], ◌∷◌, ◌++◌, refl, arith, decimal}
use Rattle.std.proofs.lemmas.Fmt.{decimal_digit, decimal_step, decimal_nonempty, length-decimal-le, digits_decimal, digits_value-decimal}
use Rattle.std.proofs.lemmas.Str.Parse.{IsNumeralModel, numerals_by_weight}
use Rattle.std.proofs.Math.Nat.{div-div-eq-div-mul}
use Rattle.line_base.specs.Number.{digit, are_digits, is_digits, value_of, number_of}
use Rattle.line_base.proofs.Digits.{is_digits-true, is_digits-IsDigits, value_of-few}
use Rattle.line_base.specs.Decimal.{six_digits}

pub decimal_of_1 : (n : ℕ) → n < 10 → decimal n ≡ digit n ∷ []
decimal_of_1 n h = let same : n % 10 ≡ n = omega arith in rw (decimal_digit n h, same) refl

-- one digit more behind those of the tenth part
step : (n : ℕ) (front : List ℕ) → 10 ≤ n → n < 1_000_000 → decimal (n / 10) ≡ front → decimal n ≡ front ++ digit n ∷ []
step n front low high e = rw (decimal_step n low (omega arith), e) refl

tenths : (n k : ℕ) → n / 10 / k ≡ n / (10 * k)
tenths n k = div-div-eq-div-mul n 10 k

pub decimal_of_2 : (n : ℕ) → 10 ≤ n → n < 100 → decimal n ≡ digit (n / 10) ∷ digit n ∷ []
decimal_of_2 n low high = step n _ low (omega arith) (decimal_of_1 (n / 10) (omega arith))

pub decimal_of_3 : (n : ℕ) → 100 ≤ n → n < 1_000 → decimal n ≡ digit (n / 100) ∷ digit (n / 10) ∷ digit n ∷ []
decimal_of_3 n low high =
    rw (← tenths n 10) (step n _ (omega arith) (omega arith) (decimal_of_2 (n / 10) (omega arith) (omega arith)))

pub decimal_of_4 : (n : ℕ) → 1_000 ≤ n → n < 10_000 → decimal n ≡ digit (n / 1_000) ∷ digit (n / 100) ∷ digit (n / 10) ∷ digit n ∷ []
decimal_of_4 n low high =
    rw (← tenths n 10, ← tenths n 100) (step n _ (omega arith) (omega arith) (decimal_of_3 (n / 10) (omega arith) (omega arith)))

pub decimal_of_5 : (n : ℕ) → 10_000 ≤ n → n < 100_000 → decimal n ≡ digit (n / 10_000) ∷ digit (n / 1_000) ∷ digit (n / 100) ∷ digit (n / 10) ∷ digit n ∷ []
decimal_of_5 n low high =
    rw (← tenths n 10, ← tenths n 100, ← tenths n 1_000) (step n _ (omega arith) (omega arith) (decimal_of_4 (n / 10) (omega arith) (omega arith)))

pub decimal_of_6 : (n : ℕ) → 100_000 ≤ n → n < 1_000_000 → decimal n ≡ six_digits n
decimal_of_6 n low high =
    rw (← tenths n 10, ← tenths n 100, ← tenths n 1_000, ← tenths n 10_000) (step n _ (omega arith) (omega arith) (decimal_of_5 (n / 10) (omega arith) (omega arith)))

-- `are_digits` and `value_of` are what std knows of digits
pub own_numerals : IsNumeralModel (λ ds. are_digits ds ≡ true) value_of
own_numerals = numerals_by_weight (λ ds. are_digits ds ≡ true) (search rules) value_of (search rules)

-- a number of at most nine digits is read as itself
pub number_of-decimal : (n : ℕ) → n < 1_000_000_000 → number_of (decimal n) ≡ Some n
number_of-decimal n small =
    let fits : n < 2 ^ 64 = omega arith in
    let below : n < 10 ^ 9 = small in
    let some = decimal_nonempty n fits in
    let few = length-decimal-le 9 n (omega arith) below fits in
    let form : is_digits 1 9 (decimal n) ≡ true = is_digits-true 1 9 (decimal n) (record { digits = digits_decimal own_numerals n fits; enough = omega arith; few = few }) in
    rw (form, digits_value-decimal own_numerals n fits) refl

-- and what is read as a number is below 10^9
pub number_of-lt : (bytes : List ℕ) (n : ℕ) → number_of bytes ≡ Some n → n < 1_000_000_000
number_of-lt bytes n h =
    let step : (b : Bool) → is_digits 1 9 bytes ≡ b → cond b (Some (value_of bytes)) None ≡ Some n → n < 1_000_000_000 = λ b. elim b as (λ b. is_digits 1 9 bytes ≡ b → cond b (Some (value_of bytes)) None ≡ Some n → n < 1_000_000_000) [
      | true ↦ λ e k.
          let form = is_digits-IsDigits 1 9 bytes e in
          let same : value_of bytes ≡ n = cc in
          let below = value_of-few bytes 9 form.digits form.few in
          omega arith
      | false ↦ λ e k. cc
    ] in
    step _ refl h
