-- A long number is read from its text.
use Rattle.std.proofs.Common.{◌≡◌, ℕ, ◌<◌, ◌^◌, Bool, true, leb, cond, Some, None, ap, ◌∙◌, arith, decimal}
use Rattle.std.proofs.lemmas.Bool.{le-leb}
use Rattle.std.proofs.lemmas.Fmt.{digits_value-decimal, decimal_nonempty}
use Rattle.line_base.proofs.Written.{own_numerals}
use Rattle.line_base.specs.Number.{is_digits, value_of}
use Rattle.line_base.proofs.Digits.{is_digits-true}
use Rattle.line_base.proofs.Printable.{decimal_digits, length-decimal}
use Rattle.hermes_horizontal.specs.Values.{long_number_of}

within : (n v : ℕ) → v ≡ n → n < 2 ^ 64 → leb v 18446744073709551615 ≡ true
within n v e fits = le-leb v 18446744073709551615 (omega arith)

pub long_number_of-decimal : (n : ℕ) → n < 2 ^ 64 → long_number_of (decimal n) ≡ Some n
long_number_of-decimal n fits =
    let some = decimal_nonempty n fits in
    let few = length-decimal n fits in
    let same : value_of (decimal n) ≡ n = digits_value-decimal own_numerals n fits in
    let digits : is_digits 1 20 (decimal n) ≡ true = is_digits-true 1 20 (decimal n) (record { digits = decimal_digits n fits; enough = omega arith; few = few }) in
    ap (λ (b : Bool). cond b (cond (leb (value_of (decimal n)) 18446744073709551615) (Some (value_of (decimal n))) None) None) digits
    ∙ ap (λ (b : Bool). cond b (Some (value_of (decimal n))) None) (within n (value_of (decimal n)) same fits) ∙ ap Some same
