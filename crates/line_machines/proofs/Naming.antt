-- A machine's id text is a plain text.
use Rattle.std.proofs.Common.{◌≡◌, ◌&&◌, ◌<◌, ◌≤◌, ◌^◌, ◌++◌, ℕ, Bool, true, false, List, [], ◌∷◌, length, refl, arith, le-leb}
use Rattle.std.specs.Prelude.{codes, decimal, nat_le}
use Rattle.std.proofs.lemmas.Fmt.{digits_decimal, length-decimal-le}
use Rattle.std.specs.Char.{is_ascii_digit}
use Rattle.std.specs.List.{list_all}
use Rattle.line_base.proofs.Printable.{printable_digit}
use Rattle.line_base.proofs.Written.{own_numerals}
use Rattle.line_base.specs.PlainText.{is_plain_byte, is_plain_text}

digits_plain_by : (t : Bool) (b : ℕ) (bs : List ℕ) → is_ascii_digit b ≡ t → (t && list_all is_ascii_digit bs) ≡ true → (list_all is_ascii_digit bs ≡ true → list_all is_plain_byte bs ≡ true) → list_all is_plain_byte (b ∷ bs) ≡ true
digits_plain_by true b bs test all later = rw (printable_digit b test) (later all)
digits_plain_by false b bs test all later = absurd (cc)

digits_plain : (bytes : List ℕ) → list_all is_ascii_digit bytes ≡ true → list_all is_plain_byte bytes ≡ true
digits_plain [] all = refl
digits_plain (b ∷ bs) all = digits_plain_by (is_ascii_digit b) b bs refl all (digits_plain bs)

pub name_is_plain : (number : ℕ) (name : List ℕ) → number < 2 ^ 32 → name ≡ codes "M" ++ decimal number → is_plain_text name ≡ true
name_is_plain number name small is =
    let fits : number < 2 ^ 64 = omega arith in
    let digits : list_all is_ascii_digit (decimal number) ≡ true = digits_decimal own_numerals number fits in
    let plain = digits_plain (decimal number) digits in
    let few : length (decimal number) ≤ 10 = length-decimal-le 10 number (omega arith) (omega arith) fits in
    let short : nat_le (length (codes "M" ++ decimal number)) 1024 ≡ true = le-leb _ _ (omega (arith, few)) in
    rw is (rw plain short)
