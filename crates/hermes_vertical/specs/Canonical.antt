-- The one written spelling of a supervisory message, and which messages are writable.
use Rattle.std.specs.Prelude.{◌≡◌, ℕ, ◌≤◌, ◌<◌, ◌^◌, List, option_map}
use Rattle.std.specs.List.{AllByRecursion}
use Rattle.line_base.specs.Name.{IsName}
use Rattle.hermes_element.specs.Element.{Tree}
use Rattle.hermes_element.specs.Canonical as form
use Rattle.hermes_horizontal.specs.Parts.{of_features}
use Rattle.hermes_horizontal.specs.Values.{timed}
use Rattle.hermes_horizontal.specs.Canonical.{row_tree, stamped, rest_spelling, IsProperIf}
use Rattle.hermes_vertical.specs.declared.message.Question.{Question}
use Rattle.hermes_vertical.specs.declared.message.Question.TheVariants as questions
use Rattle.hermes_vertical.specs.declared.message.Vertical.{Vertical}
use Rattle.hermes_vertical.specs.declared.message.Vertical.TheVariants as bodies
use Rattle.hermes_vertical.specs.declared.message.VerticalMessage.{VerticalMessage}
use Rattle.hermes_vertical.specs.Rows.{columns_of, kind_named}
use Rattle.hermes_vertical.specs.Parts.{parts, features_of, kind_of, name_of}

-- a message as an element; its places are all 0
abbrev pub body_tree : Vertical → Tree
body_tree body =
    row_tree (name_of body) (columns_of (kind_of body)) (parts body)
    (of_features (features_of body))

abbrev pub tree_of : VerticalMessage → Tree
tree_of message = stamped message.stamp (body_tree message.body)

abbrev pub canonical : VerticalMessage → List ℕ
canonical message = form.canonical (tree_of message)

-- ---- the same piece by piece

-- the end of a message's start tag, and what follows it
abbrev pub children_spelling : Vertical → List ℕ
children_spelling body = rest_spelling (name_of body) (of_features (features_of body))

abbrev pub body_spelling : Vertical → List ℕ
body_spelling body = form.canonical (body_tree body)

-- ---- writable messages

abbrev pub HasShortSlot : Question → Type 0
HasShortSlot (questions.Place magazine slot) = slot ≤ 999_999_999
HasShortSlot _ = Unit {0}

-- the lane, the code and the slot are numbers of at most 9 digits
abbrev pub HasShortNumbers : Vertical → Type 0
HasShortNumbers (bodies.BoardArrived passage) = passage.lane ≤ 999_999_999
HasShortNumbers (bodies.BoardDeparted passage) = passage.lane ≤ 999_999_999
HasShortNumbers (bodies.QueryWorkOrderInfo query question) = HasShortSlot question
HasShortNumbers (bodies.Notification code severity text) = code.number ≤ 999_999_999
HasShortNumbers _ = Unit {0}

-- and the name in Other is none of the seven
pub record IsWritable (message : VerticalMessage) : Type 0 where
  pub numbers : HasShortNumbers message.body
  pub named : kind_named (name_of message.body) ≡ kind_of message.body

-- ---- what holds of every message of a program, by the types of its parts

-- the number of a question has 64 bits
abbrev pub HasLongQuery : Vertical → Type 0
HasLongQuery (bodies.QueryWorkOrderInfo query question) = query < 2 ^ 64
HasLongQuery (bodies.SendWorkOrderInfo query order batch product) = query < 2 ^ 64
HasLongQuery _ = Unit {0}

pub record IsProperMessage (message : VerticalMessage) : Type 0 where
  pub stamp : IsProperIf (option_map timed message.stamp)
  pub name : IsName (name_of message.body)
  pub query : HasLongQuery message.body
  pub values : AllByRecursion IsProperIf (parts message.body)
