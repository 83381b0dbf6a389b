-- EACH FRAME IS SPELLED OR REFUSED: bytes that spell an element say a message, or the first refusal of the table stands
-- against them.
use Rattle.std.proofs.Common.{◌≡◌, ℕ, ℤ, Bool, true, false, cond, List, [], ◌∷◌, Option, Some, Result, Ok, inr, option_map, codes, refl, ap, ◌∙◌}
use Rattle.std.specs.Str.{bytes_eq}
use Rattle.std.proofs.lemmas.Slice.Eq.{bytes_eq-Decides}
use Rattle.hermes_element.specs.Element.{Tree, trees_of}
use Rattle.hermes_element.specs.Spelling as form
use Rattle.hermes_element.proofs.Back.{spelled_once}
use Rattle.hermes_element.proofs.Exact.{never_both}
use Rattle.hermes_horizontal.specs.Attrs.{attr_text}
use Rattle.hermes_horizontal.specs.Roots.{children_refusal_by, first_of, refusal_of_result, stamp_in}
use Rattle.hermes_horizontal.specs.Rows.{kind_named}
use Rattle.hermes_horizontal.specs.Said.{first_named}
use Rattle.hermes_horizontal.specs.Spelling.{IsRefused, Says, SaysBody, Spells, body_refusal, refusal_of, row_refusal}
use Rattle.hermes_horizontal.specs.Values.{Value, moment, timed}
use Rattle.hermes_horizontal.specs.declared.attr.Attr.TheVariants as attrs
use Rattle.hermes_horizontal.specs.declared.fault.Fault.{Fault}
use Rattle.hermes_horizontal.specs.declared.fault.Fault.TheVariants as faults
use Rattle.hermes_horizontal.specs.declared.fault.Refusal.{Refusal}
use Rattle.hermes_horizontal.specs.declared.kind.Kind.{Kind}
use Rattle.hermes_horizontal.specs.declared.kind.Kind.TheVariants as kinds
use Rattle.hermes_horizontal.specs.declared.message.Horizontal.{Horizontal}
use Rattle.hermes_horizontal.specs.declared.message.Horizontal.TheVariants as bodies
use Rattle.hermes_horizontal.specs.declared.message.Message.{Message}
use Rattle.hermes_horizontal.proofs.Answering as answering
use Rattle.hermes_horizontal.proofs.Answering.{formless_so}
use Rattle.hermes_horizontal.proofs.Bodies.{row_reads}
use Rattle.hermes_horizontal.proofs.Messages.{horizontal}
use Rattle.hermes_horizontal.proofs.Rooted.{at_hermes, behind_count, behind_stamp}
use Rattle.law_one_report.specs.Frames.{IsSpelledOrRefused, refused, spelled}
use Rattle.law_one_report.proofs.Columns.{Tells, may, may_say, moment_read, refuses, tells}
use Rattle.law_one_report.proofs.Elements.{IsElementOrRefused, each_element, element, unspelled}
use Rattle.law_one_report.proofs.Rows.{IsRow, each_row, said, unsaid}

-- ---- the element of a message

data IsBody (child : Tree) : Type 0 where
  body_said : (body : Horizontal) → SaysBody child body → IsBody child
  body_unsaid : (refusal : Refusal) → body_refusal child ≡ Some refusal → IsBody child

-- a row of another name is that of Other alone
row_body : (child : Tree) (kind : Kind) → (kind ≡ kinds.Other → ⊥) → kind_named child.name ≡ kind → IsRow kind child.at child.attributes child.children → IsBody child
row_body child kind other is (said body fits) = body_said body (row_reads child kind (Ok body) other is fits)
row_body child kind other is (unsaid refusal fails) =
    body_unsaid refusal (ap (λ (k : Kind). row_refusal k child.at child.attributes child.children) is ∙ fails)

each_body : (child : Tree) (kind : Kind) → kind_named child.name ≡ kind → IsBody child
each_body child kinds.Other is = body_said (bodies.Other child.name) (record { kind = is; name = refl; values = refl; inner = refl })
each_body child kind is = row_body child kind (λ other. cc) is (each_row kind child.at child.attributes child.children)

-- ---- the root

data IsRoot (tree : Tree) : Type 0 where
  root_said : (message : Message) → Says tree message → IsRoot tree
  root_unsaid : (refusal : Refusal) → refusal_of tree ≡ Some refusal → IsRoot tree

with_body : (tree child : Tree) (stamped : Option ℤ) → tree.name ≡ codes "Hermes" → stamp_in tree ≡ Ok (option_map timed stamped) → trees_of tree.children ≡ child ∷ [] → IsBody child → IsRoot tree
with_body tree child stamped hermes stamp only (body_said body says) = root_said (record { stamp = stamped; body = body }) (record { root = hermes; stamp = stamp; child = child; only = only; body = says })
with_body tree child stamped hermes stamp only (body_unsaid refusal fails) =
    root_unsaid refusal (behind_count body_refusal tree child (option_map timed stamped) hermes stamp only ∙ fails)

is_hermes : (tree : Tree) → bytes_eq tree.name (codes "Hermes") ≡ true → tree.name ≡ codes "Hermes"
is_hermes tree is = (bytes_eq-Decides tree.name (codes "Hermes")).0 is

with_count : (tree : Tree) (stamped : Option ℤ) (trees : List Tree) → bytes_eq tree.name (codes "Hermes") ≡ true → stamp_in tree ≡ Ok (option_map timed stamped) → trees_of tree.children ≡ trees → IsRoot tree
with_count tree stamped (child ∷ []) hermes stamp is = with_body tree child stamped (is_hermes tree hermes) stamp is (each_body child (kind_named child.name) refl)
with_count tree stamped [] hermes stamp is =
    root_unsaid (record { at = tree.at; why = faults.Count }) (behind_stamp body_refusal tree (option_map timed stamped) hermes stamp ∙ ap (children_refusal_by body_refusal tree.at) is)
with_count tree stamped (child ∷ other ∷ others) hermes stamp is =
    root_unsaid (record { at = tree.at; why = faults.Count }) (behind_stamp body_refusal tree (option_map timed stamped) hermes stamp ∙ ap (children_refusal_by body_refusal tree.at) is)

with_stamp : (tree : Tree) → bytes_eq tree.name (codes "Hermes") ≡ true → Tells (may timed) (stamp_in tree) → IsRoot tree
with_stamp tree hermes (tells stamped is) = with_count tree stamped (trees_of tree.children) hermes is refl
with_stamp tree hermes (refuses refusal is) =
    root_unsaid refusal (at_hermes body_refusal tree hermes ∙ ap (λ (r : Result (Option Value) Refusal). first_of (refusal_of_result r) (children_refusal_by body_refusal tree.at (trees_of tree.children))) is)

with_name : (tree : Tree) (test : Bool) → bytes_eq tree.name (codes "Hermes") ≡ test → IsRoot tree
with_name tree true is = with_stamp tree is (may_say timed moment moment_read tree.at attrs.Timestamp (first_named (attr_text attrs.Timestamp) tree.attributes))
with_name tree false is =
    root_unsaid (record { at = tree.at; why = faults.Root })
    (ap (λ (b : Bool). cond b (first_of (refusal_of_result (stamp_in tree)) (children_refusal_by body_refusal tree.at (trees_of tree.children))) (Some (record { at = tree.at; why = faults.Root }))) is)

-- ---- the bytes

root_frame : (bytes : List ℕ) (tree : Tree) → form.Spells bytes tree → IsRoot tree → IsSpelledOrRefused bytes
root_frame bytes tree spells (root_said message says) = spelled message (record { tree = tree; element = spells; says = says })
root_frame bytes tree spells (root_unsaid refusal fails) = refused refusal.at refusal.why (inr (record { tree = tree; element = spells; refused = fails }))

frame_of : (bytes : List ℕ) → IsElementOrRefused bytes → IsSpelledOrRefused bytes
frame_of bytes (element tree spells) = root_frame bytes tree spells (with_name tree (bytes_eq tree.name (codes "Hermes")) refl)
frame_of bytes (unspelled at why fails) = refused at (faults.Form why) (formless_so refusal_of bytes at why fails)

pub each_frame : (bytes : List ℕ) → IsSpelledOrRefused bytes
each_frame bytes = frame_of bytes (each_element bytes)

-- and none is both
pub apart : (bytes : List ℕ) (at : ℕ) (why : Fault) (message : Message) → IsRefused bytes at why → Spells bytes message → ⊥
apart bytes = answering.never_both horizontal bytes (spelled_once bytes) (never_both bytes)
