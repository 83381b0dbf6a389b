-- The texts of numbers, ids, decimals and moments are written as they are.
use Rattle.std.proofs.Common.{◌≡◌, ◌^◌, ◌/◌, ◌%◌, ◌<◌, ◌+◌, ℕ, ℤ, true, List, [], ◌∷◌, ◌++◌, refl, ap, sym, ◌∙◌, arith, decimal, append_assoc}
use Rattle.std.proofs.lemmas.Bool.{and_from, and_parts}
use Rattle.std.proofs.lemmas.Bool.Decides.{nat_tests}
use Rattle.std.proofs.lemmas.List.Folds.{list_all-append}
use Rattle.std.specs.Char.{is_ascii_digit}
use Rattle.std.specs.List.{list_all}
use Rattle.line_base.specs.Number.{are_digits, fraction_text}
use Rattle.line_base.specs.Decimal.{six_digits, without_trailing_zeros, decimal_text}
use Rattle.line_base.specs.Moment.{fields_of, fields_text, moment_text}
use Rattle.line_base.specs.declared.civil.Fields.{Fields}
use Rattle.line_base.proofs.Digits.{digit_is}
use Rattle.line_base.proofs.DecimalTexts.{without_trailing_zeros-IsCut, six_are_digits}
use Rattle.line_base.proofs.Printable.{decimal_digits}
use Rattle.board_record.specs.BoardId.{id_text}
use Rattle.board_record.proofs.IdTexts.{is_id_byte, id_bytes}
use Rattle.hermes_element.specs.Canonical.{is_unescaped}
use Rattle.hermes_element.proofs.Unescaped.{unescaped_test, unescaped}
use Rattle.hermes_horizontal.specs.declared.attr.Attr.{Attr}
use Rattle.hermes_horizontal.specs.Attrs.{attr_text}
use Rattle.hermes_horizontal.specs.Values.{Value, value_text}
use Rattle.hermes_horizontal.specs.Canonical.{assignment}

-- nothing in them is escaped
pub record ArePlain (bytes : List ℕ) : Type 0 where
  pub all : list_all is_unescaped bytes ≡ true

plain_digit : (c : ℕ) → is_ascii_digit c ≡ true → is_unescaped c ≡ true
plain_digit c digit = unescaped_test c ∙ grind (arith, nat_tests)

plain_digits : (bytes : List ℕ) → are_digits bytes ≡ true → list_all is_unescaped bytes ≡ true
plain_digits [] digits = refl
plain_digits (b ∷ bs) digits =
    let parts = and_parts (is_ascii_digit b) (are_digits bs) digits in
    and_from (is_unescaped b) (list_all is_unescaped bs) (plain_digit b parts.0) (plain_digits bs parts.1)

pub plain_number : (n : ℕ) → n < 2 ^ 64 → ArePlain (decimal n)
plain_number n fits = record { all = plain_digits (decimal n) (decimal_digits n fits) }

-- ---- decimals

point_before : (digits : List ℕ) → list_all is_unescaped digits ≡ true → list_all is_unescaped (fraction_text digits) ≡ true
point_before [] h = refl
point_before (c ∷ cs) h = h

pub plain_decimal : (n : ℕ) → n < 1_000_000_000_000 → ArePlain (decimal_text n)
unfolding decimal_text
plain_decimal n small =
    let whole = decimal (n / 1_000_000) in
    let fraction = without_trailing_zeros (six_digits (n % 1_000_000)) in
    let cut = without_trailing_zeros-IsCut (six_digits (n % 1_000_000)) in
    let front = plain_digits whole (decimal_digits (n / 1_000_000) (omega arith)) in
    let back = point_before fraction (plain_digits fraction (cut.kept (six_are_digits (n % 1_000_000)))) in
    record { all = list_all-append is_unescaped whole (fraction_text fraction) ∙ and_from (list_all is_unescaped whole) (list_all is_unescaped (fraction_text fraction)) front back }

-- ---- moments

digit_more : (n : ℕ) {rest : List ℕ} → ArePlain rest → ArePlain ((48 + n % 10) ∷ rest)
digit_more n {rest} h = record { all = and_from (is_unescaped (48 + n % 10)) (list_all is_unescaped rest) (plain_digit (48 + n % 10) (digit_is n)) h.all }

mark_more : (c : ℕ) {rest : List ℕ} → is_unescaped c ≡ true → ArePlain rest → ArePlain (c ∷ rest)
mark_more c {rest} e h = record { all = and_from (is_unescaped c) (list_all is_unescaped rest) e h.all }

none_more : ArePlain []
none_more = record { all = refl }

plain_fields : (f : Fields) → ArePlain (fields_text f)
plain_fields f =
    digit_more (f.year / 1_000) (digit_more (f.year / 100) (digit_more (f.year / 10) (digit_more f.year (mark_more 45 refl
    (digit_more (f.month / 10) (digit_more f.month (mark_more 45 refl (digit_more (f.day / 10) (digit_more f.day (mark_more 84 refl
    (digit_more (f.hour / 10) (digit_more f.hour (mark_more 58 refl (digit_more (f.minute / 10) (digit_more f.minute (mark_more 58 refl
    (digit_more (f.second / 10) (digit_more f.second (mark_more 46 refl
    (digit_more (f.milli / 100) (digit_more (f.milli / 10) (digit_more f.milli none_more))))))))))))))))))))))

pub plain_moment : (millis : ℤ) → ArePlain (moment_text millis)
unfolding moment_text
plain_moment millis = plain_fields (fields_of millis)

-- ---- ids

plain_id_byte : (b : ℕ) → is_id_byte b ≡ true → is_unescaped b ≡ true
plain_id_byte b h = unescaped_test b ∙ grind (arith, nat_tests)

plain_id_bytes : (bytes : List ℕ) → list_all is_id_byte bytes ≡ true → list_all is_unescaped bytes ≡ true
plain_id_bytes [] h = refl
plain_id_bytes (b ∷ bs) h =
    let parts = and_parts (is_id_byte b) (list_all is_id_byte bs) h in
    and_from (is_unescaped b) (list_all is_unescaped bs) (plain_id_byte b parts.0) (plain_id_bytes bs parts.1)

pub plain_id : (id : ℕ) → ArePlain (id_text id)
plain_id id = record { all = plain_id_bytes (id_text id) (id_bytes id) }

-- ---- an attribute in three pieces

grouped : (t name text : List ℕ) → ((t ++ ((32 ∷ name) ++ (61 ∷ 34 ∷ []))) ++ text) ++ (34 ∷ []) ≡ t ++ (((32 ∷ name) ++ (61 ∷ 34 ∷ [])) ++ text ++ (34 ∷ []))
grouped t name text = simp append_assoc

pub spelled_plainly : (attr : Attr) (value : Value) (t0 t1 t2 t3 : List ℕ) → ArePlain (value_text value)
    → t1 ≡ t0 ++ ((32 ∷ attr_text attr) ++ (61 ∷ 34 ∷ [])) → t2 ≡ t1 ++ value_text value → t3 ≡ t2 ++ (34 ∷ [])
    → t3 ≡ t0 ++ assignment attr value
spelled_plainly attr value t0 t1 t2 t3 plain e1 e2 e3 =
    e3 ∙ ap (λ (x : List ℕ). x ++ (34 ∷ [])) (e2 ∙ ap (λ (x : List ℕ). x ++ value_text value) e1) ∙ grouped t0 (attr_text attr) (value_text value)
    ∙ ap (λ (x : List ℕ). t0 ++ (((32 ∷ attr_text attr) ++ (61 ∷ 34 ∷ [])) ++ x ++ (34 ∷ []))) (sym (unescaped (value_text value) plain.all))
