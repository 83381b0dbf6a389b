-- An element that is a message's own but for its places says that message.
use Rattle.std.proofs.Common.{◌≡◌, ℕ, ℤ, true, List, [], ◌∷◌, map, Option, Some, None, Ok, option_map, refl, sym, ap, ◌∙◌}
use Rattle.line_base.proofs.MomentTexts.{moment_of-moment_text}
use Rattle.hermes_element.specs.Element.{Tree, Forest, none, more, trees_of}
use Rattle.hermes_element.specs.Canonical.{unplaced_attribute, unplaced_forest, unplaced}
use Rattle.hermes_element.specs.declared.attribute.Attribute.{Attribute}
use Rattle.hermes_horizontal.specs.declared.message.Horizontal.{Horizontal}
use Rattle.hermes_horizontal.specs.declared.message.Horizontal.TheVariants as bodies
use Rattle.hermes_horizontal.specs.declared.message.Message.{Message}
use Rattle.hermes_horizontal.specs.Attrs.{attr_text}
use Rattle.hermes_horizontal.specs.Values.{Value, timed, value_in}
use Rattle.hermes_horizontal.specs.Rows.{Column, columns_of, stamp_column, kind_named}
use Rattle.hermes_horizontal.specs.Parts.{parts, Inner, featured, subbed, untold, inner_of, kind_of, name_of}
use Rattle.hermes_horizontal.specs.Spelling.{value_at, value_or_bad, values_of, first_named, mapped_ok, inner_said, SaysBody, Says}
use Rattle.hermes_horizontal.specs.Roots.{SaysRoot}
use Rattle.hermes_horizontal.specs.declared.message.Features.{Features}
use Rattle.std.specs.List.{AllByRecursion}
use Rattle.hermes_horizontal.specs.Canonical.{attribute_if, attributes_of, children_of, row_tree, stamped, body_tree, tree_of, IsProperIf, HasWritableSubs, HasProperSubs, IsWritable, IsProperMessage}
use Rattle.hermes_horizontal.proofs.Again.{named_moved, row_read, features_again, columns_apart}
use Rattle.hermes_horizontal.proofs.Fitting.{AreFit, fit_parts, suited, rows_apart}
use Rattle.hermes_horizontal.proofs.SubsBack.{none_left, subs_again}
use Rattle.board_record.specs.declared.sub_board.SubBoard.{SubBoard}

inner_back : (body : Horizontal) → HasWritableSubs (inner_of body) → HasProperSubs (inner_of body) → (forest : Forest) → unplaced_forest forest ≡ unplaced_forest (children_of (inner_of body)) → inner_said (kind_of body) forest ≡ Ok (inner_of body)
inner_back (bodies.ServiceDescription service) writable proper forest e = ap (λ (f : Features). Ok (featured f)) (features_again service.features forest e)
inner_back (bodies.BoardAvailable board) writable proper forest e = ap (mapped_ok subbed) (subs_again board.subs writable proper forest e)
inner_back (bodies.SendBoardInfo info) writable proper forest e = ap (mapped_ok subbed) (subs_again info.subs writable proper forest e)
inner_back (bodies.BoardForecast info) writable proper forest e = ap (λ (subs : List SubBoard). Ok (untold subs)) (sym writable)
inner_back (bodies.CheckAlive ping id) writable proper forest e = refl
inner_back (bodies.Notification code severity text) writable proper forest e = refl
inner_back bodies.RevokeBoardAvailable writable proper forest e = refl
inner_back (bodies.MachineReady quality) writable proper forest e = refl
inner_back bodies.RevokeMachineReady writable proper forest e = refl
inner_back (bodies.StartTransport id) writable proper forest e = refl
inner_back (bodies.StopTransport state id) writable proper forest e = refl
inner_back (bodies.TransportFinished state id) writable proper forest e = refl
inner_back (bodies.QueryBoardInfo top bottom) writable proper forest e = refl
inner_back (bodies.Other name) writable proper forest e = refl

stamp_written_back : (stamp : Option ℤ) → IsProperIf (option_map timed stamp) → value_at 0 stamp_column (first_named (attr_text stamp_column.attr) (attribute_if stamp_column.attr (option_map timed stamp))) ≡ Ok (option_map timed stamp)
stamp_written_back None proper = refl
stamp_written_back (Some millis) proper = ap (value_or_bad 0 stamp_column.attr) (ap (value_in timed) (moment_of-moment_text millis proper))

-- the one element of a forest that is one element but for its places
pub record HasOne (forest : Forest) (tree : Tree) : Type 0 where
  pub child : Tree
  pub only : trees_of forest ≡ child ∷ []
  pub same : unplaced child ≡ unplaced tree

one_back : (forest : Forest) (tree : Tree) → unplaced_forest forest ≡ unplaced_forest (more tree.name tree.at tree.attributes tree.children none) → HasOne forest tree
one_back none tree e = absurd cc
one_back (more name at attributes children rest) tree e =
    let names : name ≡ tree.name = cc in
    let told : map unplaced_attribute attributes ≡ map unplaced_attribute tree.attributes = cc in
    let inside : unplaced_forest children ≡ unplaced_forest tree.children = cc in
    let behind : unplaced_forest rest ≡ none = cc in
    let child : Tree = record { name = name; at = at; attributes = attributes; children = children } in
    record {
      child = child;
      only = ap (λ (f : Forest). child ∷ trees_of f) (none_left rest behind);
      same = ap (λ (n : List ℕ). let t : Tree = record { name = n; at = 0; attributes = map unplaced_attribute attributes; children = unplaced_forest children } in t) names
          ∙ ap (λ (a : List Attribute). let t : Tree = record { name = tree.name; at = 0; attributes = a; children = unplaced_forest children } in t) told
          ∙ ap (λ (f : Forest). let t : Tree = record { name = tree.name; at = 0; attributes = map unplaced_attribute tree.attributes; children = f } in t) inside;
    }

-- an element that is a row's own but for its places says the row's values, and holds its children
pub record IsRowAgain (child : Tree) (name : List ℕ) (columns : List Column) (values : List (Option Value)) (inner : Inner) : Type 0 where
  pub named : child.name ≡ name
  pub values_again : values_of child.at child.attributes columns ≡ Ok values
  pub written : map unplaced_attribute (attributes_of columns values) ≡ map unplaced_attribute child.attributes
  pub below : unplaced_forest child.children ≡ unplaced_forest (children_of inner)

pub row_back : (child : Tree) (name : List ℕ) (columns : List Column) (values : List (Option Value)) (inner : Inner) → columns_apart columns ≡ true → AreFit columns values → AllByRecursion IsProperIf values
    → unplaced child ≡ unplaced (row_tree name columns values inner) → IsRowAgain child name columns values inner
row_back child name columns values inner apart fit proper e = record {
  named = ap (λ (t : Tree). t.name) e;
  values_again = row_read child.at child.attributes columns values apart (suited columns values fit proper) (sym (ap (λ (t : Tree). t.attributes) e));
  written = sym (ap (λ (t : Tree). t.attributes) e);
  below = ap (λ (t : Tree). t.children) e;
}

-- a root that is a message's own but for its places says it, if an element that is its body's own does
pub root_back : {Body : Type 0} (SaysBody : Tree → Body → Type 0) (moment : Option ℤ) (said : Body) (row tree : Tree) → IsProperIf (option_map timed moment)
    → ((child : Tree) → unplaced child ≡ unplaced row → SaysBody child said) → unplaced tree ≡ unplaced (stamped moment row) → SaysRoot SaysBody tree moment said
root_back SaysBody moment said row tree proper says e =
    let one = one_back tree.children row (ap (λ (t : Tree). t.children) e) in
    record {
      root = ap (λ (t : Tree). t.name) e;
      stamp = named_moved 0 tree.at stamp_column (attribute_if stamp_column.attr (option_map timed moment)) tree.attributes (option_map timed moment) (sym (ap (λ (t : Tree). t.attributes) e)) (stamp_written_back moment proper);
      child = one.child;
      only = one.only;
      body = says one.child one.same;
    }

body_back : (message : Message) → IsProperMessage message → IsWritable message → (child : Tree) → unplaced child ≡ unplaced (body_tree message.body) → SaysBody child message.body
body_back message proper writable child e =
    let body = message.body in
    let back = row_back child (name_of body) (columns_of (kind_of body)) (parts body) (inner_of body) (rows_apart (kind_of body)) (fit_parts body writable.numbers) proper.values e in
    record {
      kind = ap kind_named back.named ∙ writable.named;
      name = back.named;
      values = back.values_again;
      inner = inner_back body writable.subs proper.subs child.children back.below;
    }

pub message_back : (message : Message) (tree : Tree) → IsProperMessage message → IsWritable message → unplaced tree ≡ unplaced (tree_of message) → Says tree message
message_back message tree proper writable e = root_back SaysBody message.stamp message.body (body_tree message.body) tree proper.stamp (body_back message proper writable) e
