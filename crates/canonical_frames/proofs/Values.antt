-- What stands at the front of some bytes is a value as it is written.
use Rattle.std.proofs.Common.{◌≡◌, ℕ, ◌-◌, ◌<◌, ◌≤◌, ◌==◌, ◌≢◌, not, IsTrue, true, false, List, [], ◌∷◌, ◌++◌, length, Some, None, refl, sym, ap, ◌∙◌, arith, append_assoc}
use Rattle.std.specs.List.{list_all, flat_map}
use Rattle.std.proofs.lemmas.Bool.Decides.{nat_tests}
use Rattle.line_base.specs.Number.{are_digits, value_of, digit}
use Rattle.line_base.specs.Moment.{two_digits, four_digits, fields_text, millis_at, IsCivil}
use Rattle.line_base.specs.PlainText.{is_plain_byte}
use Rattle.line_base.specs.declared.civil.Fields.{Fields}
use Rattle.line_base.proofs.Digits.{value_of-few}
use Rattle.line_base.proofs.Printable.{IsText-from_printable}
use Rattle.line_base.proofs.Written.{decimal_of_1}
use Rattle.hermes_element.specs.Canonical.{escaped_byte, is_unescaped}
use Rattle.hermes_element.proofs.Unescaped.{unescaped, unescaped_test}
use Rattle.hermes_horizontal.specs.Attrs.{opening_of}
use Rattle.hermes_horizontal.specs.Values.{ValueKind, Value, text, number, choice, identity, decimal as measure, moment, worded, numbered, identified, measured, timed, value_text}
use Rattle.hermes_horizontal.specs.Rows.{Column}
use Rattle.hermes_horizontal.specs.Canonical.{IsProper}
use Rattle.hermes_horizontal.proofs.Fitting.{IsOfKind}
use Rattle.hermes_horizontal.proofs.Plain.{ArePlain, plain_number, plain_decimal, plain_moment, plain_id}
use Rattle.canonical_frames.specs.Pieces.{IsValue, IsAssigned}
use Rattle.canonical_frames.specs.Values.{IsClean, IsChoice, IsFraction, IsWhole, IsIdText, IsDate, IsTime}
use Rattle.canonical_frames.proofs.Decimals.{decimal-value_of, fraction_text_back, HasDecimalText}
use Rattle.canonical_frames.proofs.Moments.{millis_range, moment_text-millis_at}

pub clean_byte : (b : ℕ) → 32 ≤ b → b ≤ 126 → b ≢ 38 → b ≢ 60 → b ≢ 62 → IsTrue (not (b == 34)) → IsClean b
clean_byte b low high ampersand less more quote = record {
  plain = grind (arith, nat_tests);
  unescaped = unescaped_test b ∙ grind (arith, nat_tests);
}

-- a value whose text has no escapes
plainly : (kind : ValueKind) (value : Value) (bytes front rest : List ℕ) → IsOfKind kind value → IsProper value → ArePlain (value_text value)
    → value_text value ≡ front → bytes ≡ front ++ (34 ∷ rest) → IsValue kind bytes rest
plainly kind value bytes front rest fit proper plain same e = record {
  value = value;
  fit = fit;
  proper = proper;
  spelled = e ∙ ap (λ (t : List ℕ). t ++ (34 ∷ rest)) (sym same ∙ sym (unescaped (value_text value) plain.all));
}

pub text_value : (front bytes rest : List ℕ) → list_all is_plain_byte front ≡ true → list_all is_unescaped front ≡ true → length front ≤ 1024 → bytes ≡ front ++ (34 ∷ rest) → IsValue text bytes rest
text_value front bytes rest plain clean short e =
    plainly text (worded front) bytes front rest tt (IsText-from_printable front plain short) (record { all = clean }) refl e

pub number_value : (digits bytes rest : List ℕ) → are_digits digits ≡ true → IsWhole 9 digits → bytes ≡ digits ++ (34 ∷ rest) → IsValue number bytes rest
number_value digits bytes rest are h e =
    let small : value_of digits < 1_000_000_000 = value_of-few digits 9 are h.few in
    plainly number (numbered (value_of digits)) bytes digits rest (omega arith) tt (plain_number (value_of digits) (omega arith)) (decimal-value_of 9 digits are h (omega arith)) e

pub choice_value : (low high c : ℕ) (bytes rest : List ℕ) → IsChoice low high c → bytes ≡ c ∷ 34 ∷ rest → IsValue (choice low high) bytes rest
choice_value low high c bytes rest h e =
    let from = h.from in
    let upto = h.upto in
    let same : digit (c - 48) ≡ c = omega arith in
    plainly (choice low high) (numbered (c - 48)) bytes (c ∷ []) rest (record { low_end = h.above; high_end = h.below; short = omega arith }) tt (plain_number (c - 48) (omega arith))
    (decimal_of_1 (c - 48) (omega arith) ∙ ap (λ (d : ℕ). d ∷ []) same) e

pub id_value : (front bytes rest : List ℕ) → IsIdText front → bytes ≡ front ++ (34 ∷ rest) → IsValue identity bytes rest
id_value front bytes rest h e = plainly identity (identified h.id) bytes front rest tt h.small (plain_id h.id) (sym h.is) e

pub decimal_value : (front bytes rest : List ℕ) → HasDecimalText front → bytes ≡ front ++ (34 ∷ rest) → IsValue measure bytes rest
decimal_value front bytes rest h e = plainly measure (measured h.millionths) bytes front rest tt h.small (plain_decimal h.millionths h.small) h.is e

pub pointed_value : (whole fraction bytes at_point behind_point quote rest : List ℕ) → are_digits whole ≡ true → are_digits fraction ≡ true → IsWhole 6 whole → IsFraction fraction
    → bytes ≡ whole ++ at_point → at_point ≡ 46 ∷ behind_point → behind_point ≡ fraction ++ quote → quote ≡ 34 ∷ rest → IsValue measure bytes rest
pointed_value whole fraction bytes at_point behind_point quote rest are behind h k e1 e2 e3 e4 =
    decimal_value (whole ++ (46 ∷ fraction)) bytes rest (fraction_text_back whole fraction are behind h k)
    (e1 ∙ ap (λ (t : List ℕ). whole ++ t) (e2 ∙ ap (λ (t : List ℕ). 46 ∷ t) (e3 ∙ ap (λ (t : List ℕ). fraction ++ t) e4)) ∙ sym (append_assoc whole (46 ∷ fraction) (34 ∷ rest)))

pub moment_value : (bytes middle rest : List ℕ) → IsDate bytes middle → IsTime middle rest → IsValue moment bytes rest
moment_value bytes middle rest date time =
    let fields : Fields = record { year = date.year; month = date.month; day = date.day; hour = time.hour; minute = time.minute; second = time.second; milli = time.milli } in
    let civil : IsCivil fields = record { year = date.fits.year_in; month = date.fits.month_in; day = date.fits.day_in; hour = time.hour_in; minute = time.minute_in; second = time.second_in; milli = time.milli_in } in
    plainly moment (timed (millis_at fields)) bytes (fields_text fields) rest tt (millis_range fields civil) (plain_moment (millis_at fields)) (moment_text-millis_at fields civil)
    (date.spelled ∙ ap (λ (t : List ℕ). four_digits date.year ++ (45 ∷ (two_digits date.month ++ (45 ∷ (two_digits date.day ++ (84 ∷ t)))))) time.spelled)

-- ---- attributes

grouped : (opening value rest : List ℕ) → opening ++ (value ++ (34 ∷ rest)) ≡ (opening ++ value ++ (34 ∷ [])) ++ rest
grouped opening value rest = simp append_assoc

pub assigned_value : (column : Column) (bytes value rest : List ℕ) → bytes ≡ opening_of column.attr ++ value → IsValue column.kind value rest → IsAssigned column bytes rest
assigned_value column bytes value rest opened h = record {
  value = Some h.value;
  fit = h.fit;
  proper = h.proper;
  spelled =
      opened ∙ ap (λ (t : List ℕ). opening_of column.attr ++ t) h.spelled
      ∙ grouped (opening_of column.attr) (flat_map escaped_byte (value_text h.value)) rest;
}

pub assigned_none : (column : Column) (bytes : List ℕ) → column.required ≡ false → IsAssigned column bytes bytes
assigned_none column bytes optional = record { value = None; fit = optional; proper = tt; spelled = refl }
