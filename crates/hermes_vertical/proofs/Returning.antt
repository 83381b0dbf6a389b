-- An element that is a supervisory message's own but for its places says that message.
use Rattle.std.proofs.Common.{◌≡◌, ℕ, Bool, true, List, ◌∷◌, map, Option, Some, None, Ok, is_some, option_map, refl, sym, ap, ◌∙◌}
use Rattle.hermes_element.specs.Element.{Tree, Forest}
use Rattle.hermes_element.specs.Canonical as form
use Rattle.hermes_element.specs.Canonical.{unplaced_attribute, unplaced_forest, unplaced}
use Rattle.hermes_element.specs.declared.attribute.Attribute.{Attribute}
use Rattle.hermes_horizontal.specs.declared.attr.Attr.{Attr}
use Rattle.hermes_horizontal.specs.declared.attr.Attr.TheVariants as attrs
use Rattle.hermes_horizontal.specs.Attrs.{attr_text}
use Rattle.hermes_horizontal.specs.Parts.{of_features}
use Rattle.hermes_horizontal.specs.Values.{Value}
use Rattle.hermes_horizontal.specs.Canonical.{attributes_of, children_of}
use Rattle.hermes_horizontal.specs.Said.{first_named, then_ok, mapped_ok, value_at, values_of}
use Rattle.hermes_horizontal.proofs.Again.{unplaced_first, features_again}
use Rattle.hermes_horizontal.proofs.Returning.{row_back, root_back}
use Rattle.hermes_horizontal.proofs.Writable.{no_subs, row_writable, row_proper}
use Rattle.hermes_vertical.specs.declared.kind.VerticalKind.TheVariants as kinds
use Rattle.hermes_vertical.specs.declared.message.Question.{Question}
use Rattle.hermes_vertical.specs.declared.message.Question.TheVariants as questions
use Rattle.hermes_vertical.specs.declared.message.Vertical.{Vertical}
use Rattle.hermes_vertical.specs.declared.message.Vertical.TheVariants as bodies
use Rattle.hermes_vertical.specs.declared.message.VerticalMessage.{VerticalMessage}
use Rattle.hermes_vertical.specs.Rows.{columns_of, kind_named, query_column, question_columns}
use Rattle.hermes_vertical.specs.Parts.{parts, features_of, kind_of, name_of}
use Rattle.hermes_vertical.specs.Questions.{asks, has_attribute, query_values, said_if}
use Rattle.hermes_vertical.specs.Spelling.{row_values, features_said, SaysBody, Says}
use Rattle.hermes_vertical.specs.Canonical.{body_tree, tree_of, IsWritable, IsProperMessage}
use Rattle.hermes_vertical.proofs.Fitting.{fit_parts, rows_apart, short_rows}

features_back : (body : Vertical) (forest : Forest) → unplaced_forest forest ≡ unplaced_forest (children_of (of_features (features_of body))) → features_said (kind_of body) forest ≡ features_of body
features_back (bodies.SupervisoryServiceDescription system) forest e = ap Some (features_again system.features forest e)
features_back (bodies.BoardArrived passage) forest e = refl
features_back (bodies.BoardDeparted passage) forest e = refl
features_back (bodies.QueryWorkOrderInfo query question) forest e = refl
features_back (bodies.SendWorkOrderInfo query order batch product) forest e = refl
features_back (bodies.CheckAlive ping id) forest e = refl
features_back (bodies.Notification code severity text) forest e = refl
features_back (bodies.Other name) forest e = refl

-- ---- a question is asked by what was written of it

is_some-unplaced : (found : Option Attribute) → is_some (option_map unplaced_attribute found) ≡ is_some found
is_some-unplaced None = refl
is_some-unplaced (Some attribute) = refl

has_moved : (attr : Attr) (written told : List Attribute) → map unplaced_attribute written ≡ map unplaced_attribute told → has_attribute attr told ≡ has_attribute attr written
has_moved attr written told e =
    let name = attr_text attr in
    sym (is_some-unplaced (first_named name told))
    ∙ ap is_some (sym (unplaced_first name told) ∙ sym (ap (first_named name) e) ∙ unplaced_first name written)
    ∙ is_some-unplaced (first_named name written)

asks_moved : (written told : List Attribute) → map unplaced_attribute written ≡ map unplaced_attribute told → asks told ≡ asks written
asks_moved written told e = rw (has_moved attrs.Barcode written told e, has_moved attrs.WorkOrderId written told e, has_moved attrs.MagazineId written told e, has_moved attrs.SlotId written told e) refl

asks_written : (query : ℕ) (question : Question) → asks (attributes_of (columns_of kinds.QueryWorkOrderInfo) (parts (bodies.QueryWorkOrderInfo query question))) ≡ true
asks_written query (questions.Barcode barcode) = refl
asks_written query (questions.Order order) = refl
asks_written query (questions.Place magazine slot) = refl

asked_values : (at : ℕ) (attributes : List Attribute) (values : List (Option Value)) → asks attributes ≡ true → values_of at attributes (columns_of kinds.QueryWorkOrderInfo) ≡ Ok values → query_values at attributes ≡ Ok values
asked_values at attributes values e d =
    let number = first_named (attr_text attrs.QueryId) attributes in
    ap (λ (b : Bool). then_ok (value_at at query_column number) (λ query. mapped_ok (λ vs. query ∷ vs) (said_if b at number (values_of at attributes question_columns)))) e ∙ d

-- ---- the values of a row, and the body

row_again : (body : Vertical) (at : ℕ) (attributes : List Attribute) → map unplaced_attribute (attributes_of (columns_of (kind_of body)) (parts body)) ≡ map unplaced_attribute attributes
    → values_of at attributes (columns_of (kind_of body)) ≡ Ok (parts body) → row_values at attributes (kind_of body) ≡ Ok (parts body)
row_again (bodies.QueryWorkOrderInfo query question) at attributes written e =
    let values = parts (bodies.QueryWorkOrderInfo query question) in
    asked_values at attributes values (asks_moved (attributes_of (columns_of kinds.QueryWorkOrderInfo) values) attributes written ∙ asks_written query question) e
row_again (bodies.SupervisoryServiceDescription system) at attributes written e = e
row_again (bodies.BoardArrived passage) at attributes written e = e
row_again (bodies.BoardDeparted passage) at attributes written e = e
row_again (bodies.SendWorkOrderInfo query order batch product) at attributes written e = e
row_again (bodies.CheckAlive ping id) at attributes written e = e
row_again (bodies.Notification code severity text) at attributes written e = e
row_again (bodies.Other name) at attributes written e = e

body_back : (message : VerticalMessage) → IsProperMessage message → IsWritable message → (child : Tree) → unplaced child ≡ unplaced (body_tree message.body) → SaysBody child message.body
body_back message proper writable child e =
    let body = message.body in
    let back = row_back child (name_of body) (columns_of (kind_of body)) (parts body) (of_features (features_of body)) (rows_apart (kind_of body)) (fit_parts body writable.numbers proper.query) proper.values e in
    record {
      kind = ap kind_named back.named ∙ writable.named;
      name = back.named;
      values = row_again body child.at child.attributes back.written back.values_again;
      features = features_back body child.children back.below;
    }

pub message_back : (message : VerticalMessage) (tree : Tree) → IsProperMessage message → IsWritable message → unplaced tree ≡ unplaced (tree_of message) → Says tree message
message_back message tree proper writable e = root_back SaysBody message.stamp message.body (body_tree message.body) tree proper.stamp (body_back message proper writable) e

-- ---- the element of a message

pub tree_writable : (message : VerticalMessage) → form.IsWritable (tree_of message)
tree_writable message =
    row_writable message.stamp (name_of message.body) (columns_of (kind_of message.body)) (parts message.body) (of_features (features_of message.body)) (short_rows (kind_of message.body)) (rows_apart (kind_of message.body))

pub tree_proper : (message : VerticalMessage) → IsProperMessage message → IsWritable message → form.IsProper (tree_of message)
tree_proper message proper writable =
    row_proper message.stamp (name_of message.body) (columns_of (kind_of message.body)) (parts message.body) (of_features (features_of message.body)) proper.name
    (fit_parts message.body writable.numbers proper.query) proper.values (no_subs (features_of message.body)).0 (no_subs (features_of message.body)).1
