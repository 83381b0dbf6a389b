-- What the attributes and the children of an element say, by the columns of a row of the table.
use Rattle.std.specs.Prelude.{ℕ, ◌==◌, Bool, true, false, cond, if◌then◌else◌, List, [], ◌∷◌, Option, Some, None, Result, Ok, Err, codes, length, nat_lt}
use Rattle.std.specs.List.{list_any}
use Rattle.std.specs.Str.{bytes_eq}
use Rattle.line_base.specs.declared.states.Quality.{Quality}
use Rattle.line_base.specs.declared.states.Quality.TheVariants as qualities
use Rattle.board_record.specs.declared.sub_board.SubBoard.{SubBoard}
use Rattle.board_record.specs.SubBoards.{size_of}
use Rattle.hermes_element.specs.Element.{Tree, trees_of}
use Rattle.hermes_element.specs.declared.attribute.Attribute.{Attribute}
use Rattle.hermes_horizontal.specs.declared.attr.Attr.{Attr}
use Rattle.hermes_horizontal.specs.declared.attr.Attr.TheVariants as attrs
use Rattle.hermes_horizontal.specs.declared.fault.Fault.TheVariants as faults
use Rattle.hermes_horizontal.specs.declared.fault.Refusal.{Refusal}
use Rattle.hermes_horizontal.specs.declared.message.Features.{Features}
use Rattle.hermes_horizontal.specs.Attrs.{attr_text}
use Rattle.hermes_horizontal.specs.Values.{Value, worded, numbered, read_as}
use Rattle.hermes_horizontal.specs.Rows.{Column, sub_columns}

-- ---- the values of an element's attributes

abbrev pub then_ok : {A B : Type 0} → Result A Refusal → (A → Result B Refusal) → Result B Refusal
then_ok (Ok value) next = next value
then_ok (Err refusal) next = Err refusal

abbrev pub mapped_ok : {A B : Type 0} → (A → B) → Result A Refusal → Result B Refusal
mapped_ok f (Ok value) = Ok (f value)
mapped_ok f (Err refusal) = Err refusal

-- the first attribute of a name
abbrev pub first_named : List ℕ → List Attribute → Option Attribute
first_named name [] = None
first_named name (attribute ∷ rest) =
    if bytes_eq attribute.name name then Some attribute else first_named name rest

abbrev pub value_or_bad : ℕ → Attr → Option Value → Result (Option Value) Refusal
value_or_bad at attr None = Err (record { at = at; why = faults.BadValue attr })
value_or_bad at attr (Some value) = Ok (Some value)

abbrev pub left_out : ℕ → Attr → Bool → Result (Option Value) Refusal
left_out at attr true = Err (record { at = at; why = faults.Missing attr })
left_out at attr false = Ok None

-- what an attribute of the table says in an element at this place: its value, or None where it may
-- be left out. It is refused at the element where it must not be, and at its first byte where it
-- is no value of its kind
abbrev pub value_at : ℕ → Column → Option Attribute → Result (Option Value) Refusal
value_at at column None = left_out at column.attr column.required
value_at at column (Some attribute) =
    value_or_bad attribute.at column.attr (read_as column.kind attribute.value)

-- what the attributes of a row of the table say, or the first refusal; other attributes are passed
-- over
abbrev pub values_of : ℕ → List Attribute → List Column → Result (List (Option Value)) Refusal
values_of at attributes [] = Ok []
values_of at attributes (column ∷ columns) =
    then_ok (value_at at column (first_named (attr_text column.attr) attributes)) (λ value.
    mapped_ok (λ values. value ∷ values) (values_of at attributes columns))

-- ---- the features of a service description: the names of the children of its first
-- SupportedFeatures

abbrev pub has_child : List ℕ → List Tree → Bool
has_child name trees = list_any (λ tree. bytes_eq tree.name name) trees

abbrev pub features_listed : List Tree → Features
features_listed trees = record {
  check_alive = has_child (codes "FeatureCheckAliveResponse") trees;
  forecast = has_child (codes "FeatureBoardForecast") trees;
  query = has_child (codes "FeatureQueryBoardInfo") trees;
  send = has_child (codes "FeatureSendBoardInfo") trees;
}

abbrev pub features_in : List Tree → Features
features_in [] = features_listed []
features_in (tree ∷ trees) =
    if bytes_eq tree.name (codes "SupportedFeatures") then features_listed
    (trees_of tree.children) else features_in trees

-- ---- the sub boards of a board: the children SB of its first SubBoards

abbrev pub number_told : Option Value → ℕ
number_told (Some (numbered n)) = n
number_told _ = 0

abbrev pub words_told : Option Value → Option (List ℕ)
words_told (Some (worded bytes)) = Some bytes
words_told _ = None

-- 0 unknown, 1 good, 2 failed
abbrev pub quality_told : Option Value → Quality
quality_told value =
    cond (number_told value == 0) qualities.Unknown
    (cond (number_told value == 1) qualities.Good qualities.Failed)

-- the sub board of these values of its columns
abbrev pub sub_of : List (Option Value) → SubBoard
sub_of (pos ∷ barcode ∷ state ∷ []) = record {
  pos = number_told pos;
  barcode = words_told barcode;
  state = quality_told state;
}
sub_of _ = record { pos = 0; barcode = None; state = qualities.Unknown }

-- what an SB says, or the first refusal
abbrev pub sub_said : Tree → Result SubBoard Refusal
sub_said tree = mapped_ok sub_of (values_of tree.at tree.attributes sub_columns)

abbrev pub each_said : List Tree → Result (List SubBoard) Refusal
each_said [] = Ok []
each_said (tree ∷ trees) =
    then_ok (sub_said tree) (λ sub. mapped_ok (λ subs. sub ∷ subs) (each_said trees))

-- those that are called SB; others are passed over
abbrev pub sbs_among : List Tree → List Tree
sbs_among [] = []
sbs_among (tree ∷ trees) =
    if bytes_eq tree.name (codes "SB") then tree ∷ sbs_among trees else sbs_among trees

abbrev pub bad_subs : ℕ → Refusal
bad_subs at = record { at = at; why = faults.BadValue attrs.SubBoards }

-- a list that would take more than 24,576 bytes is refused
abbrev pub if_small : ℕ → List SubBoard → Result (List SubBoard) Refusal
if_small at subs = if nat_lt 24576 (size_of subs) then Err (bad_subs at) else Ok subs

-- what these SB in a SubBoards at this place say: refused where there are more than 256, then each
-- in order, then their size
abbrev pub subs_listed : ℕ → List Tree → Result (List SubBoard) Refusal
subs_listed at sbs =
    if nat_lt 256 (length sbs) then Err (bad_subs at) else then_ok (each_said sbs) (if_small at)

abbrev pub subs_in : List Tree → Result (List SubBoard) Refusal
subs_in [] = Ok []
subs_in (tree ∷ trees) =
    if bytes_eq tree.name (codes "SubBoards") then subs_listed tree.at
    (sbs_among (trees_of tree.children)) else subs_in trees
