-- Each frame of the supervisor's channel, and of the configuration way, spells a message or is refused.
use Rattle.std.proofs.Common.{◌≡◌, ◌∙◌, ℕ, ℤ, Bool, true, false, cond, List, [], ◌∷◌, Option, Some, Result, Ok, Err, inr, option_map, codes, refl, ap}
use Rattle.std.specs.Str.{bytes_eq}
use Rattle.std.proofs.lemmas.Slice.Eq.{bytes_eq-Decides}
use Rattle.hermes_element.specs.Element.{Tree, trees_of}
use Rattle.hermes_element.specs.Spelling as form
use Rattle.hermes_element.proofs.Back.{spelled_once}
use Rattle.hermes_element.proofs.Exact.{never_both}
use Rattle.hermes_horizontal.specs.Attrs.{attr_text}
use Rattle.hermes_horizontal.specs.Roots.{children_refusal_by, first_of, refusal_of_result, stamp_in}
use Rattle.hermes_horizontal.specs.Said.{first_named}
use Rattle.hermes_horizontal.specs.Texts.{message_refusal_text}
use Rattle.hermes_horizontal.specs.Values.{Value, moment, timed}
use Rattle.hermes_horizontal.specs.declared.attr.Attr.TheVariants as attrs
use Rattle.hermes_horizontal.specs.declared.fault.Fault.{Fault}
use Rattle.hermes_horizontal.specs.declared.fault.Fault.TheVariants as faults
use Rattle.hermes_horizontal.specs.declared.fault.Refusal.{Refusal}
use Rattle.hermes_horizontal.proofs.Answering as answering
use Rattle.hermes_horizontal.proofs.Answering.{formless_so}
use Rattle.hermes_horizontal.proofs.Rooted.{at_hermes, behind_count, behind_stamp}
use Rattle.hermes_vertical.specs.Rows.{kind_named}
use Rattle.hermes_vertical.specs.Spelling.{IsRefused, Says, SaysBody, Spells, body_refusal, refusal_of, row_values}
use Rattle.hermes_vertical.specs.declared.kind.VerticalKind.{VerticalKind}
use Rattle.hermes_vertical.specs.declared.kind.VerticalKind.TheVariants as kinds
use Rattle.hermes_vertical.specs.declared.message.Vertical.{Vertical}
use Rattle.hermes_vertical.specs.declared.message.Vertical.TheVariants as bodies
use Rattle.hermes_vertical.specs.declared.message.VerticalMessage.{VerticalMessage}
use Rattle.hermes_vertical.proofs.Bodies.{row_reads}
use Rattle.hermes_vertical.proofs.Messages.{vertical}
use Rattle.config_service.specs.Said.{message_of}
use Rattle.config_service.specs.Spelling as config
use Rattle.config_service.specs.Texts as config_texts
use Rattle.config_service.specs.declared.fault.ConfigFault.{ConfigFault}
use Rattle.config_service.specs.declared.fault.ConfigFault.TheVariants as config_faults
use Rattle.config_service.specs.declared.fault.ConfigRefusal.{ConfigRefusal}
use Rattle.config_service.specs.declared.message.ConfigMessage.{ConfigMessage}
use Rattle.config_service.proofs.Answering as configuring
use Rattle.supervised_end.specs.Channel.{Means}
use Rattle.node_run.specs.Configuring.{MeansConfig}
use Rattle.node_run.specs.declared.channel.ConfigWord.{ConfigWord}
use Rattle.node_run.specs.declared.channel.ConfigWord.TheVariants as config_words
use Rattle.supervised_end.specs.declared.channel.Word.{Word}
use Rattle.supervised_end.specs.declared.channel.Word.TheVariants as words
use Rattle.law_one_report.proofs.Columns.{Tells, may, may_say, moment_read, refuses, tells}
use Rattle.law_one_report.proofs.Elements.{IsElementOrRefused, each_element, element, unspelled}
use Rattle.law_node_runs.proofs.Rows.{IsRow, each_row, said, unsaid}

-- ---- the element of a message

data IsBody (child : Tree) : Type 0 where
  body_said : (body : Vertical) → SaysBody child body → IsBody child
  body_unsaid : (refusal : Refusal) → body_refusal child ≡ Some refusal → IsBody child

row_body : (child : Tree) (kind : VerticalKind) → (kind ≡ kinds.Other → ⊥) → kind_named child.name ≡ kind → IsRow kind child.at child.attributes child.children → IsBody child
row_body child kind other is (said body fits) = body_said body (row_reads child kind (Ok body) other is fits)
row_body child kind other is (unsaid refusal fails) =
    body_unsaid refusal (ap (λ (k : VerticalKind). refusal_of_result (row_values child.at child.attributes k)) is ∙ fails)

each_body : (child : Tree) (kind : VerticalKind) → kind_named child.name ≡ kind → IsBody child
each_body child kinds.Other is = body_said (bodies.Other child.name) (record { kind = is; name = refl; values = refl; features = refl })
each_body child kind is = row_body child kind (λ other. cc) is (each_row kind child.at child.attributes child.children)

-- ---- the root

data IsRoot (tree : Tree) : Type 0 where
  root_said : (message : VerticalMessage) → Says tree message → IsRoot tree
  root_unsaid : (refusal : Refusal) → refusal_of tree ≡ Some refusal → IsRoot tree

with_body : (tree child : Tree) (stamped : Option ℤ) → tree.name ≡ codes "Hermes" → stamp_in tree ≡ Ok (option_map timed stamped) → trees_of tree.children ≡ child ∷ [] → IsBody child → IsRoot tree
with_body tree child stamped hermes stamp only (body_said body says) = root_said (record { stamp = stamped; body = body }) (record { root = hermes; stamp = stamp; child = child; only = only; body = says })
with_body tree child stamped hermes stamp only (body_unsaid refusal fails) =
    root_unsaid refusal (behind_count body_refusal tree child (option_map timed stamped) hermes stamp only ∙ fails)

is_hermes : (tree : Tree) → bytes_eq tree.name (codes "Hermes") ≡ true → tree.name ≡ codes "Hermes"
is_hermes tree is = (bytes_eq-Decides tree.name (codes "Hermes")).0 is

with_count : (tree : Tree) (stamped : Option ℤ) (trees : List Tree) → bytes_eq tree.name (codes "Hermes") ≡ true → stamp_in tree ≡ Ok (option_map timed stamped) → trees_of tree.children ≡ trees → IsRoot tree
with_count tree stamped (child ∷ []) hermes stamp is = with_body tree child stamped (is_hermes tree hermes) stamp is (each_body child (kind_named child.name) refl)
with_count tree stamped [] hermes stamp is =
    root_unsaid (record { at = tree.at; why = faults.Count }) (behind_stamp body_refusal tree (option_map timed stamped) hermes stamp ∙ ap (children_refusal_by body_refusal tree.at) is)
with_count tree stamped (child ∷ other ∷ others) hermes stamp is =
    root_unsaid (record { at = tree.at; why = faults.Count }) (behind_stamp body_refusal tree (option_map timed stamped) hermes stamp ∙ ap (children_refusal_by body_refusal tree.at) is)

with_stamp : (tree : Tree) → bytes_eq tree.name (codes "Hermes") ≡ true → Tells (may timed) (stamp_in tree) → IsRoot tree
with_stamp tree hermes (tells stamped is) = with_count tree stamped (trees_of tree.children) hermes is refl
with_stamp tree hermes (refuses refusal is) =
    root_unsaid refusal (at_hermes body_refusal tree hermes ∙ ap (λ (r : Result (Option Value) Refusal). first_of (refusal_of_result r) (children_refusal_by body_refusal tree.at (trees_of tree.children))) is)

with_name : (tree : Tree) (test : Bool) → bytes_eq tree.name (codes "Hermes") ≡ test → IsRoot tree
with_name tree true is = with_stamp tree is (may_say timed moment moment_read tree.at attrs.Timestamp (first_named (attr_text attrs.Timestamp) tree.attributes))
with_name tree false is =
    root_unsaid (record { at = tree.at; why = faults.Root })
    (ap (λ (b : Bool). cond b (first_of (refusal_of_result (stamp_in tree)) (children_refusal_by body_refusal tree.at (trees_of tree.children))) (Some (record { at = tree.at; why = faults.Root }))) is)

-- ---- what a frame of the supervisor means

-- none is both
apart : (bytes : List ℕ) (at : ℕ) (why : Fault) (message : VerticalMessage) → IsRefused bytes at why → Spells bytes message → ⊥
apart bytes = answering.never_both vertical bytes (spelled_once bytes) (never_both bytes)

pub record HasWord (frame : List ℕ) : Type 0 where
  pub word : Word
  pub means : Means frame word

wrong : (frame : List ℕ) (at : ℕ) (why : Fault) → IsRefused frame at why → HasWord frame
wrong frame at why fails = record {
  word = words.Wrong (message_refusal_text why at);
  means = record { at = at; why = why; refused = fails; told = refl; spells_none = λ message spells. apart frame at why message fails spells };
}

root_word : (frame : List ℕ) (tree : Tree) → form.Spells frame tree → IsRoot tree → HasWord frame
root_word frame tree spells (root_said message says) = record { word = words.Says message; means = record { tree = tree; element = spells; says = says } }
root_word frame tree spells (root_unsaid refusal fails) = wrong frame refusal.at refusal.why (inr (record { tree = tree; element = spells; refused = fails }))

word_by : (frame : List ℕ) → IsElementOrRefused frame → HasWord frame
word_by frame (element tree spells) = root_word frame tree spells (with_name tree (bytes_eq tree.name (codes "Hermes")) refl)
word_by frame (unspelled at why fails) = wrong frame at (faults.Form why) (formless_so refusal_of frame at why fails)

pub each_word : (frame : List ℕ) → HasWord frame
each_word frame = word_by frame (each_element frame)

-- ---- what a frame of the configuration way means

config_apart : (bytes : List ℕ) (at : ℕ) (why : ConfigFault) (message : ConfigMessage) → config.IsRefused bytes at why → config.Spells bytes message → ⊥
config_apart bytes = configuring.never_said bytes (spelled_once bytes) (never_both bytes)

pub record HasConfigWord (frame : List ℕ) : Type 0 where
  pub word : ConfigWord
  pub means : MeansConfig frame word

config_wrong : (frame : List ℕ) (at : ℕ) (why : ConfigFault) → config.IsRefused frame at why → HasConfigWord frame
config_wrong frame at why fails = record {
  word = config_words.Wrong (config_texts.refusal_text why at);
  means = record { at = at; why = why; refused = fails; told = refl; spells_none = λ message spells. config_apart frame at why message fails spells };
}

config_root : (frame : List ℕ) (tree : Tree) (told : Result ConfigMessage ConfigRefusal) → form.Spells frame tree → message_of tree ≡ told → HasConfigWord frame
config_root frame tree (Ok message) spells is = record { word = config_words.Says message; means = record { tree = tree; element = spells; says = is } }
config_root frame tree (Err fault) spells is = config_wrong frame fault.at fault.why (inr (record { tree = tree; element = spells; refused = is }))

config_by : (frame : List ℕ) → IsElementOrRefused frame → HasConfigWord frame
config_by frame (element tree spells) = config_root frame tree (message_of tree) spells refl
config_by frame (unspelled at why fails) = config_wrong frame at (config_faults.Form why) (configuring.formless_so frame at why fails)

pub each_config_word : (frame : List ℕ) → HasConfigWord frame
each_config_word frame = config_by frame (each_element frame)
