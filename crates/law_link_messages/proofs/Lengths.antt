-- How many bytes are written of a message at most.
use Rattle.std.proofs.Common.{◌≡◌, ◌/◌, ◌%◌, ◌*◌, ◌<◌, ◌≤◌, ◌+◌, ℕ, ℤ, Bool, true, false, cond, List, [], ◌∷◌, ◌++◌, Option, Some, None, codes, length, refl, sym, ap, subst, ◌∙◌, arith, length-append, decimal, lit≤}
use Rattle.std.specs.Prelude.{◌==◌}
use Rattle.std.specs.List.{flat_map, AllByRecursion}
use Rattle.std.proofs.lemmas.Fmt.{length-decimal-le}
use Rattle.std.proofs.lemmas.List.Concat.{flat_map-cons}
use Rattle.line_base.specs.Number.{fraction_text}
use Rattle.line_base.specs.Decimal.{six_digits, without_trailing_zeros, decimal_text}
use Rattle.line_base.specs.Moment.{moment_text}
use Rattle.line_base.proofs.DecimalTexts.{without_trailing_zeros-IsCut}
use Rattle.line_base.proofs.Printable.{IsText-moment, length-decimal, point_length}
use Rattle.board_record.proofs.IdTexts.{length-id}
use Rattle.hermes_element.specs.declared.attribute.Attribute.{Attribute}
use Rattle.hermes_element.specs.Canonical.{escaped_byte, canonical_attribute}
use Rattle.hermes_element.proofs.Unescaped.{unescaped}
use Rattle.hermes_horizontal.specs.declared.attr.Attr.{Attr}
use Rattle.hermes_horizontal.specs.declared.attr.Attr.TheVariants as attrs
use Rattle.hermes_horizontal.specs.Attrs.{attr_text}
use Rattle.hermes_horizontal.specs.Values.{ValueKind, Value, worded, numbered, identified, measured, timed, value_text}
use Rattle.hermes_horizontal.specs.Values as values
use Rattle.hermes_horizontal.specs.Rows.{Column}
use Rattle.hermes_horizontal.specs.Canonical.{attribute_of, attributes_of, assignment, IsProper, IsProperIf}
use Rattle.hermes_horizontal.proofs.Fitting.{IsOfKind, AreFit}
use Rattle.hermes_horizontal.proofs.Plain.{plain_moment}
use Rattle.hermes_horizontal.proofs.Refusals.{attr_length}

-- ---- escapes

either : (t : Bool) (a b : List ℕ) → length a ≤ 6 → length b ≤ 6 → length (cond t a b) ≤ 6
either true a b x y = x
either false a b x y = y

length-escaped_byte : (b : ℕ) → length (escaped_byte b) ≤ 6
length-escaped_byte b =
    either (b == 38) (codes "&amp;") _ (lit≤ tt) (either (b == 60) (codes "&lt;") _ (lit≤ tt) (either (b == 62) (codes "&gt;") _ (lit≤ tt) (either (b == 34) (codes "&quot;") _ (lit≤ tt)
    (either (b == 10) (codes "&#10;") _ (lit≤ tt) (either (b == 13) (codes "&#13;") _ (lit≤ tt) (either (b == 9) (codes "&#9;") (b ∷ []) (lit≤ tt) (omega arith)))))))

length-escaped : (bytes : List ℕ) → length (flat_map escaped_byte bytes) ≤ 6 * length bytes
length-escaped [] = omega arith
length-escaped (b ∷ bytes) =
    let one = length-escaped_byte b in
    let others = length-escaped bytes in
    let l = length-append (escaped_byte b) (flat_map escaped_byte bytes) in
    rw (flat_map-cons escaped_byte b bytes) (omega (arith, l, one, others))

pub length-attribute : (a : Attribute) → length (canonical_attribute a) ≡ length a.name + length (flat_map escaped_byte a.value) + 4
length-attribute a =
    let value = flat_map escaped_byte a.value in
    let k = length-append (32 ∷ a.name) (61 ∷ 34 ∷ []) in
    let l = length-append ((32 ∷ a.name) ++ (61 ∷ 34 ∷ [])) value in
    let m = length-append (((32 ∷ a.name) ++ (61 ∷ 34 ∷ [])) ++ value) (34 ∷ []) in
    omega (arith, k, l, m)

-- ---- values, by their kinds

length-decimal_text : (n : ℕ) → n < 1_000_000_000_000 → length (decimal_text n) ≤ 13
unfolding decimal_text
length-decimal_text n small =
    let few = length-decimal-le 6 (n / 1_000_000) (omega arith) (omega arith) (omega arith) in
    let cut = without_trailing_zeros-IsCut (six_digits (n % 1_000_000)) in
    let shorter = cut.shorter in
    let dot = point_length (without_trailing_zeros (six_digits (n % 1_000_000))) in
    let l = length-append (decimal (n / 1_000_000)) (fraction_text (without_trailing_zeros (six_digits (n % 1_000_000)))) in
    omega (arith, few, shorter, dot, l)

length-number : (n : ℕ) → n ≤ 999_999_999 → length (decimal n) ≤ 9
length-number n short = length-decimal-le 9 n (omega arith) (omega arith) (omega arith)

-- the most bytes of an attribute of a kind
abbrev pub room_of : ValueKind → ℕ
room_of values.text = 6200
room_of values.number = 200
room_of values.long_number = 200
room_of (values.choice low high) = 200
room_of values.identity = 260
room_of values.decimal = 200
room_of values.moment = 6200

abbrev pub room : List Column → ℕ
room [] = 0
room (column ∷ columns) = room_of column.kind + room columns

value_room : (kind : ValueKind) (value : Value) → IsOfKind kind value → IsProper value → 6 * length (value_text value) + 34 ≤ room_of kind
value_room values.text (worded bytes) fit proper = let h = proper.short in omega (arith, h)
value_room values.number (numbered n) fit proper = let h = length-number n fit in omega (arith, h)
value_room values.long_number (numbered n) fit proper = let h = length-decimal n fit in omega (arith, h)
value_room (values.choice low high) (numbered n) fit proper = let h = length-number n fit.short in omega (arith, h)
value_room values.identity (identified id) fit proper = let h = length-id id in omega (arith, h)
value_room values.decimal (measured millionths) fit proper = let h = length-decimal_text millionths proper in omega (arith, h)
value_room values.moment (timed millis) fit proper = let h = (IsText-moment millis).short in omega (arith, h)
value_room _ _ fit proper = absurd fit

assignment_room : (attr : Attr) (kind : ValueKind) (value : Value) → IsOfKind kind value → IsProper value → length (assignment attr value) ≤ room_of kind
assignment_room attr kind value fit proper =
    let a = length-attribute (attribute_of attr value) in
    let n = attr_length attr in
    let e = length-escaped (value_text value) in
    let r = value_room kind value fit proper in
    omega (arith, a, n, e, r)

pub attributes_room : (columns : List Column) (said : List (Option Value)) → AreFit columns said → AllByRecursion IsProperIf said → length (flat_map canonical_attribute (attributes_of columns said)) ≤ room columns
attributes_room [] said fit proper = omega arith
attributes_room (column ∷ columns) [] fit proper = omega arith
attributes_room (column ∷ columns) (None ∷ said) fit proper = let h = attributes_room columns said fit.1 proper.1 in omega (arith, h)
attributes_room (column ∷ columns) (Some value ∷ said) fit proper =
    let one = assignment_room column.attr column.kind value fit.0 proper.0 in
    let others = attributes_room columns said fit.1 proper.1 in
    let l = length-append (assignment column.attr value) (flat_map canonical_attribute (attributes_of columns said)) in
    let e = flat_map-cons canonical_attribute (attribute_of column.attr value) (attributes_of columns said) in
    subst (λ (text : List ℕ). length text ≤ room (column ∷ columns)) (sym e) (omega (arith, one, others, l))

-- ---- a Timestamp

length-moment_text : (millis : ℤ) → length (moment_text millis) ≡ 23
unfolding moment_text
length-moment_text millis = refl

pub stamp_length : (millis : ℤ) → length (assignment attrs.Timestamp (timed millis)) ≡ 36
stamp_length millis =
    let a = length-attribute (attribute_of attrs.Timestamp (timed millis)) in
    let m = length-moment_text millis in
    let plain : flat_map escaped_byte (moment_text millis) ≡ moment_text millis = unescaped (moment_text millis) (plain_moment millis).all in
    a ∙ ap (λ (t : List ℕ). length (attr_text attrs.Timestamp) + length t + 4) plain ∙ ap (λ k. 9 + k + 4) m
