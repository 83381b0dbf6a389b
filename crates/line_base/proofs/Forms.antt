-- A text that has a form has a digit wherever the form has a `d`.
use Rattle.std.proofs.Common.{◌≡◌, ◌==◌, ℕ, zero, suc, true, List, [], ◌∷◌, length, take, drop, zip, refl, arith}
use Rattle.std.proofs.lemmas.Bool.{and_parts, and_from, eqb-true}
use Rattle.std.specs.Char.{is_ascii_digit}
use Rattle.std.specs.List.{list_all}
use Rattle.line_base.specs.Number.{are_digits}
use Rattle.line_base.specs.Moment.{fits, has_form, seconds_form}

digit_fits : (form byte : ℕ) → (form == 100) ≡ true → fits form byte ≡ true → is_ascii_digit byte ≡ true
digit_fits form byte marked fit = let digit = rw marked at fit in digit

-- the induction, over any form
digits_at : (place count : ℕ) (form bytes : List ℕ) → length form ≡ length bytes → list_all (λ pair. fits pair.0 pair.1) (zip form bytes) ≡ true → list_all (λ mark. mark == 100) (take count (drop place form)) ≡ true → are_digits (take count (drop place bytes)) ≡ true
digits_at zero zero form bytes long all marked = refl
digits_at zero (suc count) form [] long all marked = refl
digits_at zero (suc count) [] (byte ∷ bytes) long all marked = absurd (omega (arith, long))
digits_at zero (suc count) (mark ∷ form) (byte ∷ bytes) long all marked =
    let fit = and_parts _ _ all in
    let marks = and_parts _ _ marked in
    and_from _ _ (digit_fits mark byte marks.0 fit.0) (digits_at zero count form bytes (omega (arith, long)) fit.1 marks.1)
digits_at (suc place) zero form bytes long all marked = refl
digits_at (suc place) (suc count) form [] long all marked = refl
digits_at (suc place) (suc count) [] (byte ∷ bytes) long all marked = absurd (omega (arith, long))
digits_at (suc place) (suc count) (mark ∷ form) (byte ∷ bytes) long all marked =
    digits_at place (suc count) form bytes (omega (arith, long)) (and_parts _ _ all).1 marked

-- the digits at one place of a date and a time of day
pub seconds_digits : (place count : ℕ) (bytes : List ℕ) → has_form seconds_form bytes ≡ true → list_all (λ mark. mark == 100) (take count (drop place seconds_form)) ≡ true → are_digits (take count (drop place bytes)) ≡ true
seconds_digits place count bytes form marked =
    let parts = and_parts _ _ form in
    digits_at place count seconds_form bytes (eqb-true _ _ parts.0) parts.1 marked
