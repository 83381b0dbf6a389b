-- What two parts of a row of the table say, one after the other.
use Rattle.std.proofs.Common.{◌≡◌, ℕ, Bool, List, [], ◌∷◌, ◌++◌, Option, Some, None, Result, Ok, Err, option_map, refl, ap, ◌∙◌}
use Rattle.hermes_element.specs.declared.attribute.Attribute.{Attribute}
use Rattle.hermes_horizontal.specs.declared.attr.Attr.{Attr}
use Rattle.hermes_horizontal.specs.declared.attr.Attr.TheVariants as attrs
use Rattle.hermes_horizontal.specs.declared.fault.Refusal.{Refusal}
use Rattle.hermes_horizontal.specs.declared.fault.MessageError.{MessageError}
use Rattle.hermes_horizontal.specs.declared.fault.MessageError.TheVariants as errors
use Rattle.hermes_horizontal.specs.declared.message.Info.{Info}
use Rattle.hermes_horizontal.specs.declared.rows.Head.{Head}
use Rattle.hermes_horizontal.specs.Attrs.{attr_text}
use Rattle.hermes_horizontal.specs.Values.{Value, worded, identified, text, identity, decimal}
use Rattle.hermes_horizontal.specs.Rows.{Column, required_if, optional, quality, flip, board_columns}
use Rattle.hermes_horizontal.specs.Spelling.{values_of, value_at, first_named, then_ok, mapped_ok}
use Rattle.hermes_horizontal.specs.Parts.{of_quality, of_flip}
use Rattle.hermes_horizontal.specs.Fields.{found_of, head_parts}
use Rattle.hermes_horizontal.specs.Reading.{ReadsInfo}

abbrev pub Said : Type 0
Said = Result (List (Option Value)) Refusal

abbrev pub joined : Said → Said → Said
joined first second = then_ok first (λ xs. mapped_ok (λ ys. xs ++ ys) second)

regroup : (first : Result (Option Value) Refusal) (second third : Said)
    → then_ok first (λ value. mapped_ok (λ values. value ∷ values) (joined second third)) ≡ joined (then_ok first (λ value. mapped_ok (λ values. value ∷ values) second)) third
regroup (Ok value) (Ok xs) (Ok ys) = refl
regroup (Ok value) (Ok xs) (Err refusal) = refl
regroup (Ok value) (Err refusal) third = refl
regroup (Err refusal) second third = refl

alone : (third : Said) → third ≡ joined (Ok []) third
alone (Ok ys) = refl
alone (Err refusal) = refl

pub values_of-append : (at : ℕ) (attributes : List Attribute) (front back : List Column)
    → values_of at attributes (front ++ back) ≡ joined (values_of at attributes front) (values_of at attributes back)
values_of-append at attributes [] back = alone (values_of at attributes back)
values_of-append at attributes (column ∷ front) back =
    ap (λ (behind : Said). then_ok (value_at at column (first_named (attr_text column.attr) attributes)) (λ value. mapped_ok (λ values. value ∷ values) behind)) (values_of-append at attributes front back)
    ∙ regroup (value_at at column (first_named (attr_text column.attr) attributes)) (values_of at attributes front) (values_of at attributes back)

pub both_ok : (at : ℕ) (attributes : List Attribute) (front back : List Column) (xs ys : List (Option Value)) → values_of at attributes front ≡ Ok xs → values_of at attributes back ≡ Ok ys → values_of at attributes (front ++ back) ≡ Ok (xs ++ ys)
both_ok at attributes front back xs ys e d = values_of-append at attributes front back ∙ ap (λ (r : Said). joined r (values_of at attributes back)) e ∙ ap (joined (Ok xs)) d

pub first_err : (at : ℕ) (attributes : List Attribute) (front back : List Column) (refusal : Refusal) → values_of at attributes front ≡ Err refusal → values_of at attributes (front ++ back) ≡ Err refusal
first_err at attributes front back refusal e = values_of-append at attributes front back ∙ ap (λ (r : Said). joined r (values_of at attributes back)) e

pub second_err : (at : ℕ) (attributes : List Attribute) (front back : List Column) (xs : List (Option Value)) (refusal : Refusal) → values_of at attributes front ≡ Ok xs → values_of at attributes back ≡ Err refusal → values_of at attributes (front ++ back) ≡ Err refusal
second_err at attributes front back xs refusal e d = values_of-append at attributes front back ∙ ap (λ (r : Said). joined r (values_of at attributes back)) e ∙ ap (joined (Ok xs)) d

-- ---- the row of a board in five parts

abbrev pub head_row : Bool → List Column
head_row whole = required_if whole attrs.BoardId identity ∷ required_if whole attrs.BoardIdCreatedBy text ∷ required_if whole attrs.FailedBoard quality ∷ required_if whole attrs.FlippedBoard flip ∷ []

abbrev pub text_row : List Column
text_row = optional attrs.ProductTypeId text ∷ optional attrs.TopBarcode text ∷ optional attrs.BottomBarcode text ∷ []

abbrev pub size_row : List Column
size_row = optional attrs.Length decimal ∷ optional attrs.Width decimal ∷ optional attrs.Thickness decimal ∷ optional attrs.ConveyorSpeed decimal ∷ []

abbrev pub clearance_row : List Column
clearance_row = optional attrs.TopClearanceHeight decimal ∷ optional attrs.BottomClearanceHeight decimal ∷ optional attrs.Weight decimal ∷ []

abbrev pub order_row : List Column
order_row = optional attrs.WorkOrderId text ∷ optional attrs.BatchId text ∷ []

pub two_ok : (at : ℕ) (attributes : List Attribute) (a b : Column) (x y : Option Value)
    → value_at at a (first_named (attr_text a.attr) attributes) ≡ Ok x → value_at at b (first_named (attr_text b.attr) attributes) ≡ Ok y
    → values_of at attributes (a ∷ b ∷ []) ≡ Ok (x ∷ y ∷ [])
two_ok at attributes a b x y e d = rw (e, d) refl

pub three_ok : (at : ℕ) (attributes : List Attribute) (a b c : Column) (x y z : Option Value)
    → value_at at a (first_named (attr_text a.attr) attributes) ≡ Ok x → value_at at b (first_named (attr_text b.attr) attributes) ≡ Ok y → value_at at c (first_named (attr_text c.attr) attributes) ≡ Ok z
    → values_of at attributes (a ∷ b ∷ c ∷ []) ≡ Ok (x ∷ y ∷ z ∷ [])
three_ok at attributes a b c x y z e d f = rw (e, d, f) refl

-- ---- a text that may be left out is never refused

abbrev pub said_text : Option Attribute → Option Value
said_text found = option_map (λ attribute. worded attribute.value) found

text_said : (at : ℕ) (column : Attr) (found : Option Attribute) → value_at at (optional column text) found ≡ Ok (said_text found)
text_said at column None = refl
text_said at column (Some attribute) = refl

abbrev pub texts_said : List Attribute → List (Option Value)
texts_said attributes = said_text (first_named (attr_text attrs.ProductTypeId) attributes) ∷ said_text (first_named (attr_text attrs.TopBarcode) attributes) ∷ said_text (first_named (attr_text attrs.BottomBarcode) attributes) ∷ []

pub texts_ok : (at : ℕ) (attributes : List Attribute) → values_of at attributes text_row ≡ Ok (texts_said attributes)
texts_ok at attributes =
    three_ok at attributes (optional attrs.ProductTypeId text) (optional attrs.TopBarcode text) (optional attrs.BottomBarcode text)
    (said_text (first_named (attr_text attrs.ProductTypeId) attributes)) (said_text (first_named (attr_text attrs.TopBarcode) attributes)) (said_text (first_named (attr_text attrs.BottomBarcode) attributes))
    (text_said at attrs.ProductTypeId (first_named (attr_text attrs.ProductTypeId) attributes)) (text_said at attrs.TopBarcode (first_named (attr_text attrs.TopBarcode) attributes)) (text_said at attrs.BottomBarcode (first_named (attr_text attrs.BottomBarcode) attributes))

told_text : (at : ℕ) (column : Attr) (found : Option Attribute) (o : Option (List ℕ)) → value_at at (optional column text) found ≡ Ok (option_map worded o) → said_text found ≡ option_map worded o
told_text at column None o e = cc
told_text at column (Some attribute) o e = cc

-- the head of a board's row, with the text of the board's maker
pub head_told : (at : ℕ) (attributes : List Attribute) (whole : Bool) (head : Head) (created_by : Option (List ℕ))
    → values_of at attributes (head_row whole) ≡ Ok (head_parts (found_of attributes attrs.BoardIdCreatedBy) head)
    → value_at at (optional attrs.BoardIdCreatedBy text) (first_named (attr_text attrs.BoardIdCreatedBy) attributes) ≡ Ok (option_map worded created_by)
    → values_of at attributes (head_row whole) ≡ Ok (option_map identified head.id ∷ option_map worded created_by ∷ option_map of_quality head.quality ∷ option_map of_flip head.flip ∷ [])
head_told at attributes whole head created_by e d =
    e ∙ ap (λ (o : Option Value). Ok (option_map identified head.id ∷ o ∷ option_map of_quality head.quality ∷ option_map of_flip head.flip ∷ []))
    (told_text at attrs.BoardIdCreatedBy (first_named (attr_text attrs.BoardIdCreatedBy) attributes) created_by d)

-- ---- a refusal as an error

pub info_refused : (said : Said) (refusal : Refusal) (error : MessageError) (result : Result Info MessageError) → result ≡ Err error → error ≡ errors.Refused refusal.at refusal.why → said ≡ Err refusal → ReadsInfo result said
info_refused said refusal error result e d f = rw (e, d, f) refl

-- ---- the whole row of a board

abbrev after_sizes : List Column
after_sizes = clearance_row ++ order_row

abbrev after_texts : List Column
after_texts = size_row ++ after_sizes

abbrev after_head : List Column
after_head = text_row ++ after_texts

pub head_refused : (at : ℕ) (attributes : List Attribute) (whole : Bool) (refusal : Refusal) → values_of at attributes (head_row whole) ≡ Err refusal → values_of at attributes (board_columns whole) ≡ Err refusal
head_refused at attributes whole refusal e = first_err at attributes (head_row whole) after_head refusal e

pub sizes_refused : (at : ℕ) (attributes : List Attribute) (whole : Bool) (head : List (Option Value)) (refusal : Refusal)
    → values_of at attributes (head_row whole) ≡ Ok head → values_of at attributes size_row ≡ Err refusal → values_of at attributes (board_columns whole) ≡ Err refusal
sizes_refused at attributes whole head refusal e d =
    second_err at attributes (head_row whole) after_head head refusal e
    (second_err at attributes text_row after_texts (texts_said attributes) refusal (texts_ok at attributes) (first_err at attributes size_row after_sizes refusal d))

pub clearances_refused : (at : ℕ) (attributes : List Attribute) (whole : Bool) (head sizes : List (Option Value)) (refusal : Refusal)
    → values_of at attributes (head_row whole) ≡ Ok head → values_of at attributes size_row ≡ Ok sizes → values_of at attributes clearance_row ≡ Err refusal → values_of at attributes (board_columns whole) ≡ Err refusal
clearances_refused at attributes whole head sizes refusal e d f =
    second_err at attributes (head_row whole) after_head head refusal e
    (second_err at attributes text_row after_texts (texts_said attributes) refusal (texts_ok at attributes)
    (second_err at attributes size_row after_sizes sizes refusal d (first_err at attributes clearance_row order_row refusal f)))

pub board_said : (at : ℕ) (attributes : List Attribute) (whole : Bool) (head texts sizes clearances orders : List (Option Value))
    → values_of at attributes (head_row whole) ≡ Ok head → values_of at attributes text_row ≡ Ok texts → values_of at attributes size_row ≡ Ok sizes
    → values_of at attributes clearance_row ≡ Ok clearances → values_of at attributes order_row ≡ Ok orders
    → values_of at attributes (board_columns whole) ≡ Ok (head ++ (texts ++ (sizes ++ (clearances ++ orders))))
board_said at attributes whole head texts sizes clearances orders e d f g h =
    both_ok at attributes (head_row whole) after_head head (texts ++ (sizes ++ (clearances ++ orders))) e
    (both_ok at attributes text_row after_texts texts (sizes ++ (clearances ++ orders)) d
    (both_ok at attributes size_row after_sizes sizes (clearances ++ orders) f
    (both_ok at attributes clearance_row order_row clearances orders g h)))
