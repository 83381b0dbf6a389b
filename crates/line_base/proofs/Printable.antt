-- The texts of values are texts: they are short, and of printable characters.
use Rattle.std.proofs.Common.{◌≡◌, ◌^◌, ◌/◌, ◌%◌, ◌<◌, ◌≤◌, ◌+◌, ℕ, ℤ, Bool, true, cond, leb, List, [], ◌∷◌, ◌++◌, Some, None, length, refl, ap, ◌∙◌, sym, arith, decimal, length-append, lit≤}
use Rattle.std.proofs.lemmas.Bool.{and_from, and_parts}
use Rattle.std.proofs.lemmas.Bool.Decides.{nat_tests}
use Rattle.std.proofs.lemmas.Fmt.{digits_decimal, digits_value-decimal, decimal_nonempty, length-decimal-le}
use Rattle.std.proofs.lemmas.List.Folds.{list_all-append}
use Rattle.std.proofs.lemmas.Str.{chars-encodes, encode_ascii}
use Rattle.std.specs.Char.{is_ascii_digit}
use Rattle.std.specs.List.{list_all}
use Rattle.std.specs.Str.{chars}
use Rattle.line_base.proofs.Written.{own_numerals}
use Rattle.line_base.specs.Text.{is_allowed_char, IsText}
use Rattle.line_base.specs.PlainText.{is_plain_byte, is_plain_text}
use Rattle.line_base.specs.Number.{are_digits, value_of, is_digits, number_of, fraction_text}
use Rattle.line_base.specs.Decimal.{six_digits, without_trailing_zeros, decimal_text}
use Rattle.line_base.specs.Moment.{fields_of, fields_text, moment_text}
use Rattle.line_base.specs.declared.civil.Fields.{Fields}
use Rattle.line_base.proofs.Digits.{digit_is, is_digits-true}
use Rattle.line_base.proofs.DecimalTexts.{without_trailing_zeros-IsCut, six_are_digits}
use lib.Utf8.{scalar, scalars, encodes, encode}

record IsPlainByte (b : ℕ) : Type 0 where
  scalar_value : scalar b ≡ true
  one_byte : encode b ≡ b ∷ []
  allowed : is_allowed_char b ≡ true

plain_byte : (b : ℕ) → is_plain_byte b ≡ true → IsPlainByte b
plain_byte b printable = record {
  scalar_value = grind (arith, nat_tests);
  one_byte = encode_ascii b (grind (arith, nat_tests));
  allowed = grind (arith, nat_tests);
}

record ArePlain (bytes : List ℕ) : Type 0 where
  scalar_values : scalars bytes ≡ true
  encoded : encodes bytes ≡ bytes
  allowed : list_all is_allowed_char bytes ≡ true

plain_bytes : (bytes : List ℕ) → list_all is_plain_byte bytes ≡ true → ArePlain bytes
plain_bytes [] printable = record { scalar_values = refl; encoded = refl; allowed = refl }
plain_bytes (b ∷ bs) printable =
    let parts = and_parts (is_plain_byte b) (list_all is_plain_byte bs) printable in
    let first = plain_byte b parts.0 in
    let others = plain_bytes bs parts.1 in
    record {
      scalar_values = rw first.scalar_value others.scalar_values;
      encoded = rw first.one_byte (ap (λ (t : List ℕ). b ∷ t) others.encoded);
      allowed = rw first.allowed others.allowed;
    }

pub IsText-from_printable : (bytes : List ℕ) → list_all is_plain_byte bytes ≡ true → length bytes ≤ 1024 → IsText bytes
IsText-from_printable bytes printable short =
    let plain = plain_bytes bytes printable in
    let same : chars bytes ≡ bytes = ap chars (sym plain.encoded) ∙ chars-encodes bytes plain.scalar_values in
    record { short = short; allowed = record { utf8 = (bytes, (plain.scalar_values, plain.encoded)); allowed = ap (list_all is_allowed_char) same ∙ plain.allowed } }

short_from : (n : ℕ) → leb n 1024 ≡ true → n ≤ 1024
short_from n short = grind (arith, nat_tests)

pub plain_is_text : (bytes : List ℕ) → is_plain_text bytes ≡ true → IsText bytes
plain_is_text bytes plain =
    let parts = and_parts (list_all is_plain_byte bytes) (leb (length bytes) 1024) plain in
    IsText-from_printable bytes parts.0 (short_from (length bytes) parts.1)

pub plain-append : (front back : List ℕ) → list_all is_plain_byte front ≡ true → list_all is_plain_byte back ≡ true → list_all is_plain_byte (front ++ back) ≡ true
plain-append front back first last =
    list_all-append is_plain_byte front back ∙ and_from (list_all is_plain_byte front) (list_all is_plain_byte back) first last

-- ---- digits

pub printable_digit : (c : ℕ) → is_ascii_digit c ≡ true → is_plain_byte c ≡ true
printable_digit c digit = grind (arith, nat_tests)

pub printable_digits : (bytes : List ℕ) → are_digits bytes ≡ true → list_all is_plain_byte bytes ≡ true
printable_digits [] digits = refl
printable_digits (b ∷ bs) digits =
    let parts = and_parts (is_ascii_digit b) (are_digits bs) digits in
    and_from (is_plain_byte b) (list_all is_plain_byte bs) (printable_digit b parts.0) (printable_digits bs parts.1)

pub decimal_digits : (n : ℕ) → n < 2 ^ 64 → are_digits (decimal n) ≡ true
decimal_digits n fits = digits_decimal own_numerals n fits

-- a number of at most nine digits is read from its text
pub number_of-decimal : (n : ℕ) → n ≤ 999_999_999 → number_of (decimal n) ≡ Some n
number_of-decimal n small =
    let fits : n < 2 ^ 64 = omega arith in
    let some = decimal_nonempty n fits in
    let few = length-decimal-le 9 n (omega arith) (omega arith) fits in
    let digits : is_digits 1 9 (decimal n) ≡ true = is_digits-true 1 9 (decimal n) (record { digits = decimal_digits n fits; enough = omega arith; few = few }) in
    ap (λ (b : Bool). cond b (Some (value_of (decimal n))) None) digits ∙ ap Some (digits_value-decimal own_numerals n fits)

pub plain-decimal : (n : ℕ) → n < 2 ^ 64 → list_all is_plain_byte (decimal n) ≡ true
plain-decimal n fits = printable_digits (decimal n) (decimal_digits n fits)

pub length-decimal : (n : ℕ) → n < 2 ^ 64 → length (decimal n) ≤ 20
length-decimal n fits = length-decimal-le 20 n (omega arith) (omega arith) fits

pub number_is_text : (n : ℕ) → n < 2 ^ 64 → IsText (decimal n)
number_is_text n fits =
    let few = length-decimal n fits in
    IsText-from_printable (decimal n) (plain-decimal n fits) (omega (arith, few))

pub IsText-decimal : (n : ℕ) → n ≤ 999_999_999 → IsText (decimal n)
IsText-decimal n small = number_is_text n (omega arith)

-- ---- decimals

point_before : (digits : List ℕ) → list_all is_plain_byte digits ≡ true → list_all is_plain_byte (fraction_text digits) ≡ true
point_before [] h = refl
point_before (c ∷ cs) h = h

pub point_length : (digits : List ℕ) → length (fraction_text digits) ≤ length digits + 1
point_length [] = omega arith
point_length (c ∷ cs) = omega arith

pub IsText-millionths : (n : ℕ) → n < 1_000_000_000_000 → IsText (decimal_text n)
unfolding decimal_text
IsText-millionths n small =
    let fits : n / 1_000_000 < 2 ^ 64 = omega arith in
    let few = length-decimal-le 6 (n / 1_000_000) (omega arith) (omega arith) fits in
    let fraction = without_trailing_zeros (six_digits (n % 1_000_000)) in
    let cut = without_trailing_zeros-IsCut (six_digits (n % 1_000_000)) in
    let front = printable_digits (decimal (n / 1_000_000)) (decimal_digits (n / 1_000_000) fits) in
    let back = point_before fraction (printable_digits fraction (cut.kept (six_are_digits (n % 1_000_000)))) in
    let shorter = cut.shorter in
    IsText-from_printable (decimal (n / 1_000_000) ++ fraction_text fraction)
    (list_all-append is_plain_byte (decimal (n / 1_000_000)) (fraction_text fraction) ∙ and_from (list_all is_plain_byte (decimal (n / 1_000_000))) (list_all is_plain_byte (fraction_text fraction)) front back)
    (omega (arith, length-append (decimal (n / 1_000_000)) (fraction_text fraction), point_length fraction, few, shorter))

-- ---- moments

record ArePrintable (bytes : List ℕ) : Type 0 where
  all : list_all is_plain_byte bytes ≡ true

digit_more : (n : ℕ) {rest : List ℕ} → ArePrintable rest → ArePrintable ((48 + n % 10) ∷ rest)
digit_more n {rest} h = record { all = and_from (is_plain_byte (48 + n % 10)) (list_all is_plain_byte rest) (printable_digit (48 + n % 10) (digit_is n)) h.all }

mark_more : (c : ℕ) {rest : List ℕ} → is_plain_byte c ≡ true → ArePrintable rest → ArePrintable (c ∷ rest)
mark_more c {rest} e h = record { all = and_from (is_plain_byte c) (list_all is_plain_byte rest) e h.all }

none_more : ArePrintable []
none_more = record { all = refl }

moment_printable : (f : Fields) → IsText (fields_text f)
moment_printable f =
    let printable : ArePrintable (fields_text f) =
    digit_more (f.year / 1_000) (digit_more (f.year / 100) (digit_more (f.year / 10) (digit_more f.year (mark_more 45 refl
    (digit_more (f.month / 10) (digit_more f.month (mark_more 45 refl (digit_more (f.day / 10) (digit_more f.day (mark_more 84 refl
    (digit_more (f.hour / 10) (digit_more f.hour (mark_more 58 refl (digit_more (f.minute / 10) (digit_more f.minute (mark_more 58 refl
    (digit_more (f.second / 10) (digit_more f.second (mark_more 46 refl
    (digit_more (f.milli / 100) (digit_more (f.milli / 10) (digit_more f.milli none_more)))))))))))))))))))))) in
    IsText-from_printable (fields_text f) printable.all (lit≤ tt)

pub IsText-moment : (millis : ℤ) → IsText (moment_text millis)
unfolding moment_text
IsText-moment millis = moment_printable (fields_of millis)
