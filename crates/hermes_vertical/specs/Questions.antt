-- What a question is asked by, and what is refused of it.
use Rattle.std.specs.Prelude.{ℕ, Bool, true, false, List, [], ◌∷◌, Option, Some, None, Result, Err, is_some}
use Rattle.hermes_element.specs.declared.attribute.Attribute.{Attribute}
use Rattle.hermes_horizontal.specs.declared.attr.Attr.{Attr}
use Rattle.hermes_horizontal.specs.declared.attr.Attr.TheVariants as attrs
use Rattle.hermes_horizontal.specs.declared.fault.Fault.TheVariants as faults
use Rattle.hermes_horizontal.specs.declared.fault.Refusal.{Refusal}
use Rattle.hermes_horizontal.specs.declared.field.Field.{Field}
use Rattle.hermes_horizontal.specs.Attrs.{attr_text}
use Rattle.hermes_horizontal.specs.Fields.{said_by}
use Rattle.hermes_horizontal.specs.Values.{Value, text, number}
use Rattle.hermes_horizontal.specs.Rows.{Column, optional}
use Rattle.hermes_horizontal.specs.Said.{first_named, then_ok, mapped_ok, value_at, values_of}
use Rattle.hermes_vertical.specs.Rows.{query_column, question_columns}

-- asked by exactly a barcode, or exactly an order, or exactly a magazine and a slot
abbrev pub is_question : Bool → Bool → Bool → Bool → Bool
is_question true false false false = true
is_question false true false false = true
is_question false false true true = true
is_question _ _ _ _ = false

abbrev pub has_attribute : Attr → List Attribute → Bool
has_attribute attr attributes = is_some (first_named (attr_text attr) attributes)

-- so the attributes of an element ask
abbrev pub asks : List Attribute → Bool
asks attributes =
    is_question (has_attribute attrs.Barcode attributes)
    (has_attribute attrs.WorkOrderId attributes) (has_attribute attrs.MagazineId attributes)
    (has_attribute attrs.SlotId attributes)

abbrev pub place_of : ℕ → Option Attribute → ℕ
place_of at None = at
place_of at (Some attribute) = attribute.at

-- what is said of a question that is asked so, or not: it is refused as a bad number of a
-- question, at that number
abbrev pub said_if : Bool → ℕ → Option Attribute → Result (List (Option Value)) Refusal
    → Result (List (Option Value)) Refusal
said_if true at query said = said
said_if false at query said =
    Err (record { at = place_of at query; why = faults.BadValue attrs.QueryId })

-- the values of a question: its number, then how it is asked, and then what it is asked by
abbrev pub query_values : ℕ → List Attribute → Result (List (Option Value)) Refusal
query_values at attributes =
    then_ok (value_at at query_column (first_named (attr_text attrs.QueryId) attributes))
    (λ query.
    mapped_ok (λ values.
    query ∷ values)
    (said_if (asks attributes) at (first_named (attr_text attrs.QueryId) attributes)
    (values_of at attributes question_columns)))

-- ---- the same of fields that were found

abbrev pub fields_ask : Field → Field → Field → Field → Bool
fields_ask barcode order magazine slot =
    is_question (is_some barcode.found) (is_some order.found) (is_some magazine.found)
    (is_some slot.found)

abbrev pub field_columns : Field → Field → Field → Field → List Column
field_columns barcode order magazine slot =
    optional barcode.attr text ∷ optional order.attr text ∷ optional magazine.attr text ∷ optional
    slot.attr number ∷ []

abbrev pub question_said : ℕ → Field → Field → Field → Field → Field
    → Result (List (Option Value)) Refusal
question_said at query barcode order magazine slot =
    said_if (fields_ask barcode order magazine slot) at query.found
    (said_by at (field_columns barcode order magazine slot)
    (barcode ∷ order ∷ magazine ∷ slot ∷ []))
