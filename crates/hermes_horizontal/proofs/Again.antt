-- What was written of the values of a row is what is read of them, wherever it stands.
use Rattle.std.proofs.Common.{◌≡◌, ℕ, ◌&&◌, ◌||◌, not, Bool, true, false, cond, List, [], ◌∷◌, ◌++◌, map, Option, Some, None, Result, Ok, Err, option_map, codes, refl, sym, ap, subst, ◌∙◌, append_assoc}
use Rattle.std.specs.List.{list_any}
use Rattle.std.specs.Str.{bytes_eq}
use Rattle.std.proofs.lemmas.Bool.{and_parts, and_from, or_parts, or_from, not-true, not_from_false}
use Rattle.hermes_element.proofs.Back.{other_way, bytes_eq_same}
use Rattle.hermes_element.specs.Element.{Forest, none, more, trees_of}
use Rattle.hermes_element.specs.Canonical.{unplaced_attribute, unplaced_forest}
use Rattle.hermes_element.specs.declared.attribute.Attribute.{Attribute}
use Rattle.hermes_horizontal.specs.declared.attr.Attr.{Attr}
use Rattle.hermes_horizontal.specs.declared.fault.Refusal.{Refusal}
use Rattle.hermes_horizontal.specs.declared.message.Features.{Features}
use Rattle.hermes_horizontal.specs.Attrs.{attr_text}
use Rattle.hermes_horizontal.specs.Values.{Value, read_as, value_text}
use Rattle.hermes_horizontal.specs.Rows.{Column}
use Rattle.hermes_horizontal.specs.Spelling.{values_of, value_at, value_or_bad, left_out, first_named, then_ok, mapped_ok, has_child, features_listed, features_in}
use Rattle.hermes_horizontal.specs.Canonical.{attribute_of, attribute_if, attributes_of, feature_children}

-- ---- places change nothing that is read

pub unplaced_first : (name : List ℕ) (attributes : List Attribute) → first_named name (map unplaced_attribute attributes) ≡ option_map unplaced_attribute (first_named name attributes)
unplaced_first name [] = refl
unplaced_first name (attribute ∷ rest) =
    elim (bytes_eq attribute.name name) as (λ b. cond b (Some (unplaced_attribute attribute)) (first_named name (map unplaced_attribute rest)) ≡ option_map unplaced_attribute (cond b (Some attribute) (first_named name rest))) [
      | true ↦ refl
      | false ↦ unplaced_first name rest
    ]

abbrev HasValue : ℕ → Column → Option Attribute → Option Value → Type 0
HasValue at column found value = value_at at column found ≡ Ok value

read_moved : (at at' : ℕ) (attr : Attr) (read : Option Value) (value : Option Value) → value_or_bad at attr read ≡ Ok value → value_or_bad at' attr read ≡ Ok value
read_moved at at' attr None value e = absurd cc
read_moved at at' attr (Some x) value e = let same : Some x ≡ value = cc in ap Ok same

left_moved : (at at' : ℕ) (attr : Attr) (required : Bool) (value : Option Value) → left_out at attr required ≡ Ok value → left_out at' attr required ≡ Ok value
left_moved at at' attr true value e = absurd cc
left_moved at at' attr false value e = e

value_moved : (at at' : ℕ) (column : Column) (found found' : Option Attribute) (value : Option Value) → option_map unplaced_attribute found ≡ option_map unplaced_attribute found' → HasValue at column found value → HasValue at' column found' value
value_moved at at' column None None value e h = left_moved at at' column.attr column.required value h
value_moved at at' column None (Some b) value e h = absurd cc
value_moved at at' column (Some a) None value e h = absurd cc
value_moved at at' column (Some a) (Some b) value e h =
    let same : unplaced_attribute a ≡ unplaced_attribute b = cc in
    let text : a.value ≡ b.value = ap (λ (x : Attribute). x.value) same in
    read_moved a.at b.at column.attr (read_as column.kind b.value) value (subst (λ (t : List ℕ). value_or_bad a.at column.attr (read_as column.kind t) ≡ Ok value) text h)

pub named_moved : (at at' : ℕ) (column : Column) (attributes attributes' : List Attribute) (value : Option Value) → map unplaced_attribute attributes ≡ map unplaced_attribute attributes'
    → value_at at column (first_named (attr_text column.attr) attributes) ≡ Ok value → value_at at' column (first_named (attr_text column.attr) attributes') ≡ Ok value
named_moved at at' column attributes attributes' value e h =
    let name = attr_text column.attr in
    value_moved at at' column (first_named name attributes) (first_named name attributes') value
    (sym (unplaced_first name attributes) ∙ ap (first_named name) e ∙ unplaced_first name attributes') h

ok_parts : (first : Result (Option Value) Refusal) (behind : Result (List (Option Value)) Refusal) (values : List (Option Value))
    → then_ok first (λ value. mapped_ok (λ xs. value ∷ xs) behind) ≡ Ok values → (value : Option Value) × (rest : List (Option Value)) × (first ≡ Ok value) × (behind ≡ Ok rest) × (values ≡ value ∷ rest)
ok_parts (Ok value) (Ok rest) values e = (value, rest, refl, refl, cc)
ok_parts (Ok value) (Err refusal) values e = absurd cc
ok_parts (Err refusal) behind values e = absurd cc

pub then_said : (first : Result (Option Value) Refusal) (behind : Result (List (Option Value)) Refusal) (value : Option Value) (rest : List (Option Value))
    → first ≡ Ok value → behind ≡ Ok rest → then_ok first (λ x. mapped_ok (λ xs. x ∷ xs) behind) ≡ Ok (value ∷ rest)
then_said first behind value rest e d = rw (e, d) refl

pub values_moved : (at at' : ℕ) (attributes attributes' : List Attribute) (columns : List Column) (values : List (Option Value)) → map unplaced_attribute attributes ≡ map unplaced_attribute attributes'
    → values_of at attributes columns ≡ Ok values → values_of at' attributes' columns ≡ Ok values
values_moved at at' attributes attributes' [] values e h = h
values_moved at at' attributes attributes' (column ∷ columns) values e h =
    let p = ok_parts (value_at at column (first_named (attr_text column.attr) attributes)) (values_of at attributes columns) values h in
    then_said (value_at at' column (first_named (attr_text column.attr) attributes')) (values_of at' attributes' columns) p.0 p.1
    (named_moved at at' column attributes attributes' p.0 e p.2) (values_moved at at' attributes attributes' columns p.1 e p.3)
    ∙ ap Ok (sym p.4)

-- ---- a row that was written is read again

abbrev pub is_named : List ℕ → Column → Bool
is_named name column = bytes_eq (attr_text column.attr) name

-- the columns have different names
abbrev pub columns_apart : List Column → Bool
columns_apart [] = true
columns_apart (column ∷ columns) = not (list_any (is_named (attr_text column.attr)) columns) && columns_apart columns

-- no attribute has the name of a column
abbrev are_new : List Attribute → List Column → Bool
are_new before [] = true
are_new before (column ∷ columns) = not (list_any (λ attribute. bytes_eq attribute.name (attr_text column.attr)) before) && are_new before columns

-- what is written of a value is read as it, and only what may be left out is
abbrev pub Suits : Column → Option Value → Type 0
Suits column None = column.required ≡ false
Suits column (Some value) = read_as column.kind (value_text value) ≡ Some value

abbrev pub AreSuited : List Column → List (Option Value) → Type 0
AreSuited [] [] = Unit {0}
AreSuited [] (value ∷ values) = ⊥
AreSuited (column ∷ columns) [] = ⊥
AreSuited (column ∷ columns) (value ∷ values) = Suits column value × AreSuited columns values

skip : (name : List ℕ) (before rest : List Attribute) → list_any (λ attribute. bytes_eq attribute.name name) before ≡ false → first_named name (before ++ rest) ≡ first_named name rest
skip name [] rest e = refl
skip name (attribute ∷ before) rest e =
    let p = or_parts (bytes_eq attribute.name name) (list_any (λ a. bytes_eq a.name name) before) e in
    ap (λ (b : Bool). cond b (Some attribute) (first_named name (before ++ rest))) p.0 ∙ skip name before rest p.1

none_of_row : (name : List ℕ) (columns : List Column) (values : List (Option Value)) → list_any (is_named name) columns ≡ false → first_named name (attributes_of columns values) ≡ None
none_of_row name [] values e = refl
none_of_row name (column ∷ columns) [] e = refl
none_of_row name (column ∷ columns) (None ∷ values) e = none_of_row name columns values ((or_parts (is_named name column) (list_any (is_named name) columns) e).1)
none_of_row name (column ∷ columns) (Some value ∷ values) e =
    let p = or_parts (is_named name column) (list_any (is_named name) columns) e in
    ap (λ (b : Bool). cond b (Some (attribute_of column.attr value)) (first_named name (attributes_of columns values))) p.0 ∙ none_of_row name columns values p.1

first_of_row : (column : Column) (columns : List Column) (value : Option Value) (values : List (Option Value)) → list_any (is_named (attr_text column.attr)) columns ≡ false
    → first_named (attr_text column.attr) (attribute_if column.attr value ++ attributes_of columns values) ≡ option_map (attribute_of column.attr) value
first_of_row column columns None values e = none_of_row (attr_text column.attr) columns values e
first_of_row column columns (Some value) values e = ap (λ (b : Bool). cond b (Some (attribute_of column.attr value)) (first_named (attr_text column.attr) (attributes_of columns values))) (bytes_eq_same (attr_text column.attr))

suits_at : (at : ℕ) (column : Column) (value : Option Value) → Suits column value → value_at at column (option_map (attribute_of column.attr) value) ≡ Ok value
suits_at at column None h = ap (left_out at column.attr) h
suits_at at column (Some value) h = ap (value_or_bad 0 column.attr) h

not_any_more : (attr : Attr) (value : Option Value) (column : Column) (before : List Attribute) → list_any (λ a. bytes_eq a.name (attr_text column.attr)) before ≡ false → is_named (attr_text attr) column ≡ false
    → list_any (λ a. bytes_eq a.name (attr_text column.attr)) (before ++ attribute_if attr value) ≡ false
not_any_more attr None column [] h e = refl
not_any_more attr (Some value) column [] h e = or_from (bytes_eq (attr_text attr) (attr_text column.attr)) false (other_way (attr_text column.attr) (attr_text attr) e) refl
not_any_more attr value column (attribute ∷ before) h e =
    let p = or_parts (bytes_eq attribute.name (attr_text column.attr)) (list_any (λ a. bytes_eq a.name (attr_text column.attr)) before) h in
    or_from (bytes_eq attribute.name (attr_text column.attr)) (list_any (λ a. bytes_eq a.name (attr_text column.attr)) (before ++ attribute_if attr value)) p.0 (not_any_more attr value column before p.1 e)

new_behind : (attr : Attr) (value : Option Value) (before : List Attribute) (columns : List Column) → are_new before columns ≡ true → list_any (is_named (attr_text attr)) columns ≡ false → are_new (before ++ attribute_if attr value) columns ≡ true
new_behind attr value before [] h e = refl
new_behind attr value before (column ∷ columns) h e =
    let p = and_parts (not (list_any (λ a. bytes_eq a.name (attr_text column.attr)) before)) (are_new before columns) h in
    let q = or_parts (is_named (attr_text attr) column) (list_any (is_named (attr_text attr)) columns) e in
    let still : list_any (λ a. bytes_eq a.name (attr_text column.attr)) (before ++ attribute_if attr value) ≡ false = not_any_more attr value column before (not-true (list_any (λ a. bytes_eq a.name (attr_text column.attr)) before) p.0) q.0 in
    and_from (not (list_any (λ a. bytes_eq a.name (attr_text column.attr)) (before ++ attribute_if attr value))) (are_new (before ++ attribute_if attr value) columns) (not_from_false (list_any (λ a. bytes_eq a.name (attr_text column.attr)) (before ++ attribute_if attr value)) still) (new_behind attr value before columns p.1 q.1)

pub row_again : (at : ℕ) (before : List Attribute) (columns : List Column) (values : List (Option Value)) → columns_apart columns ≡ true → are_new before columns ≡ true → AreSuited columns values
    → values_of at (before ++ attributes_of columns values) columns ≡ Ok values
row_again at before [] [] apart new suited = refl
row_again at before [] (value ∷ values) apart new suited = absurd suited
row_again at before (column ∷ columns) [] apart new suited = absurd suited
row_again at before (column ∷ columns) (value ∷ values) apart new suited =
    let p = and_parts (not (list_any (is_named (attr_text column.attr)) columns)) (columns_apart columns) apart in
    let alone = not-true (list_any (is_named (attr_text column.attr)) columns) p.0 in
    let q = and_parts (not (list_any (λ a. bytes_eq a.name (attr_text column.attr)) before)) (are_new before columns) new in
    let all = before ++ (attribute_if column.attr value ++ attributes_of columns values) in
    let found : first_named (attr_text column.attr) all ≡ option_map (attribute_of column.attr) value =
    skip (attr_text column.attr) before (attribute_if column.attr value ++ attributes_of columns values) (not-true (list_any (λ a. bytes_eq a.name (attr_text column.attr)) before) q.0)
    ∙ first_of_row column columns value values alone in
    let first : value_at at column (first_named (attr_text column.attr) all) ≡ Ok value = ap (value_at at column) found ∙ suits_at at column value suited.0 in
    let behind : values_of at all columns ≡ Ok values =
    ap (λ (x : List Attribute). values_of at x columns) (sym (append_assoc before (attribute_if column.attr value) (attributes_of columns values)))
    ∙ row_again at (before ++ attribute_if column.attr value) columns values p.1 (new_behind column.attr value before columns q.1 alone) suited.1 in
    then_said (value_at at column (first_named (attr_text column.attr) all)) (values_of at all columns) value values first behind

none_new : (columns : List Column) → are_new [] columns ≡ true
none_new [] = refl
none_new (column ∷ columns) = none_new columns

-- the attributes of a row, read at any places
pub row_read : (at : ℕ) (attributes : List Attribute) (columns : List Column) (values : List (Option Value)) → columns_apart columns ≡ true → AreSuited columns values
    → map unplaced_attribute (attributes_of columns values) ≡ map unplaced_attribute attributes → values_of at attributes columns ≡ Ok values
row_read at attributes columns values apart suited e =
    values_moved at at (attributes_of columns values) attributes columns values e (row_again at [] columns values apart (none_new columns) suited)

-- ---- features

pub has_child_moved : (name : List ℕ) (forest : Forest) → has_child name (trees_of (unplaced_forest forest)) ≡ has_child name (trees_of forest)
has_child_moved name none = refl
has_child_moved name (more n at attributes children rest) = ap (λ (b : Bool). bytes_eq n name || b) (has_child_moved name rest)

listed_moved : (forest : Forest) → features_listed (trees_of (unplaced_forest forest)) ≡ features_listed (trees_of forest)
listed_moved forest = rw (has_child_moved (codes "FeatureCheckAliveResponse") forest, has_child_moved (codes "FeatureBoardForecast") forest, has_child_moved (codes "FeatureQueryBoardInfo") forest, has_child_moved (codes "FeatureSendBoardInfo") forest) refl

features_moved : (forest : Forest) → features_in (trees_of (unplaced_forest forest)) ≡ features_in (trees_of forest)
features_moved none = refl
features_moved (more n at attributes children rest) =
    ap (λ (f : Features). cond (bytes_eq n (codes "SupportedFeatures")) f (features_in (trees_of (unplaced_forest rest)))) (listed_moved children)
    ∙ ap (cond (bytes_eq n (codes "SupportedFeatures")) (features_listed (trees_of children))) (features_moved rest)

abbrev features_with : Bool → Bool → Bool → Bool → Features
features_with a b c d = record { check_alive = a; forecast = b; query = c; send = d }

listed_again : (a b c d : Bool) → features_listed (trees_of (feature_children (features_with a b c d))) ≡ features_with a b c d
listed_again true true true true = refl
listed_again true true true false = refl
listed_again true true false true = refl
listed_again true true false false = refl
listed_again true false true true = refl
listed_again true false true false = refl
listed_again true false false true = refl
listed_again true false false false = refl
listed_again false true true true = refl
listed_again false true true false = refl
listed_again false true false true = refl
listed_again false true false false = refl
listed_again false false true true = refl
listed_again false false true false = refl
listed_again false false false true = refl
listed_again false false false false = refl

-- the features of a forest that is the written one but for its places
pub features_again : (features : Features) (forest : Forest) → unplaced_forest forest ≡ unplaced_forest (more (codes "SupportedFeatures") 0 [] (feature_children features) none) → features_in (trees_of forest) ≡ features
features_again features forest e =
    sym (features_moved forest) ∙ ap (λ (f : Forest). features_in (trees_of f)) e
    ∙ features_moved (more (codes "SupportedFeatures") 0 [] (feature_children features) none)
    ∙ listed_again features.check_alive features.forecast features.query features.send
