-- The attributes that a row of the table asks for, each with the first of its name in an element.
use Rattle.std.specs.Prelude.{◌≡◌, ◌&&◌, ℕ, Bool, true, false, not, if◌then◌else◌, List, [], ◌∷◌, Option, Some, None, is_none, Result, Ok, Err, map, option_map}
use Rattle.std.specs.List.{list_any, list_all}
use Rattle.std.specs.Str.{bytes_eq}
use Rattle.hermes_element.specs.declared.attribute.Attribute.{Attribute}
use Rattle.hermes_horizontal.specs.declared.attr.Attr.{Attr}
use Rattle.hermes_horizontal.specs.declared.attr.Attr.TheVariants as attrs
use Rattle.hermes_horizontal.specs.declared.fault.Fault.TheVariants as faults
use Rattle.hermes_horizontal.specs.declared.fault.Refusal.{Refusal}
use Rattle.hermes_horizontal.specs.declared.field.Field.{Field}
use Rattle.hermes_horizontal.specs.Attrs.{attr_text}
use Rattle.hermes_horizontal.specs.declared.rows.Head.{Head}
use Rattle.hermes_horizontal.specs.declared.rows.Sizes.{Sizes}
use Rattle.hermes_horizontal.specs.declared.rows.Clearances.{Clearances}
use Rattle.hermes_horizontal.specs.Values.{Value, worded, identified, measured, text, identity, decimal}
use Rattle.hermes_horizontal.specs.Rows.{Column, optional, required_if, quality, flip, board_columns}
use Rattle.hermes_horizontal.specs.Parts.{of_quality, of_flip}
use Rattle.hermes_horizontal.specs.Spelling.{first_named, then_ok, mapped_ok, value_at}

-- what a function returned, seen by view, is what the table says
abbrev pub Gives : {X Y : Type 0} → (X → Y) → Result X Refusal → Result Y Refusal → Type 0
Gives view (Ok x) said = said ≡ Ok (view x)
Gives view (Err refusal) said = said ≡ Err refusal

abbrev pub is_of : Attribute → Field → Bool
is_of attribute field = bytes_eq attribute.name (attr_text field.attr)

-- with an attribute put to the first field of its name
abbrev pub placed : Attribute → List Field → List Field
placed attribute [] = []
placed attribute (field ∷ fields) =
    if is_of attribute field then record field { found = Some attribute } ∷ fields else field ∷
    placed attribute fields

-- with the first attribute of its name
abbrev pub found_in : List Attribute → Field → Field
found_in attributes field = record field { found = first_named (attr_text field.attr) attributes }

-- nothing found yet
abbrev pub fresh : Attr → Field
fresh attr = record { attr = attr; found = None }

-- the first attribute of this name
abbrev pub found_of : List Attribute → Attr → Field
found_of attributes attr = found_in attributes (fresh attr)

-- no two fields have one name, and nothing was found yet
abbrev pub are_apart : List Field → Bool
are_apart [] = true
are_apart (field ∷ fields) =
    not (list_any (λ other. bytes_eq (attr_text field.attr) (attr_text other.attr)) fields)
    && are_apart fields

abbrev pub are_fresh : List Field → Bool
are_fresh fields = list_all (λ field. is_none field.found) fields

-- no value, or a refusal where one is required
abbrev pub LeftOut : {X : Type 0} → Result (Option X) Refusal → ℕ → Attr → Bool → Type 0
LeftOut result at attr true = result ≡ Err (record { at = at; why = faults.Missing attr })
LeftOut result at attr false = result ≡ Ok None

-- ---- what fields say by their own columns

abbrev pub said_by : ℕ → List Column → List Field → Result (List (Option Value)) Refusal
said_by at [] fields = Ok []
said_by at (column ∷ columns) [] = Ok []
said_by at (column ∷ columns) (field ∷ fields) =
    then_ok (value_at at column field.found) (λ value.
    mapped_ok (λ values. value ∷ values) (said_by at columns fields))

abbrev pub decimal_column : Field → Column
decimal_column field = optional field.attr decimal

abbrev pub head_columns : Bool → Field → Field → Field → Field → List Column
head_columns whole id created_by quality_field flip_field =
    required_if whole id.attr identity ∷ required_if whole created_by.attr text ∷ required_if whole
    quality_field.attr quality ∷ required_if whole flip_field.attr flip ∷ []

-- a text that may be left out
abbrev pub text_in : Field → Option Value
text_in field = option_map (λ attribute. worded attribute.value) field.found

-- a text that was read, or None where it is left out
abbrev pub SaysText : ℕ → Field → Option (List ℕ) → Type 0
SaysText at field words =
    value_at at (optional field.attr text) field.found ≡ Ok (option_map worded words)

-- beside the board's maker
abbrev pub head_parts : Field → Head → List (Option Value)
head_parts created_by head =
    option_map identified head.id ∷ text_in created_by ∷ option_map of_quality head.quality ∷
    option_map of_flip head.flip ∷ []

abbrev pub sizes_parts : Sizes → List (Option Value)
sizes_parts sizes =
    option_map measured sizes.length ∷ option_map measured sizes.width ∷ option_map measured
    sizes.thickness ∷ option_map measured sizes.speed ∷ []

abbrev pub clearances_parts : Clearances → List (Option Value)
clearances_parts clearances =
    option_map measured clearances.top ∷ option_map measured clearances.bottom ∷ option_map
    measured clearances.weight ∷ []

-- a field for each column of a board's row, with nothing found
abbrev pub board_fields : List Field
board_fields = map (λ column. fresh column.attr) (board_columns true)

-- a field for each, with the first attribute of its name
abbrev pub board_found : List Attribute → List Field
board_found attributes = map (found_in attributes) board_fields

-- the fields of a service description, each with the first attribute of its name
abbrev pub service_found : List Attribute → List Field
service_found attributes =
    found_of attributes attrs.MachineId ∷ found_of attributes attrs.LaneId ∷ found_of attributes
    attrs.InterfaceId ∷ found_of attributes attrs.Version ∷ []
