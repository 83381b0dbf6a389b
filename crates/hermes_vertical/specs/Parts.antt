-- What messages are made of: their kind, their name, and the values of their attributes in the
-- order of the table.
use Rattle.std.specs.Prelude.{ℕ, List, [], ◌∷◌, Option, Some, None, option_map}
use Rattle.hermes_horizontal.specs.declared.message.Features.{Features}
use Rattle.hermes_horizontal.specs.Parts.{alive_parts, notice_parts}
use Rattle.hermes_horizontal.specs.Values.{Value, worded, numbered, identified}
use Rattle.hermes_vertical.specs.declared.message.Passing.{Passing}
use Rattle.hermes_vertical.specs.declared.message.Passing.TheVariants as passings
use Rattle.hermes_vertical.specs.declared.message.Passage.{Passage}
use Rattle.hermes_vertical.specs.declared.message.Question.{Question}
use Rattle.hermes_vertical.specs.declared.message.Question.TheVariants as questions
use Rattle.hermes_vertical.specs.declared.message.System.{System}
use Rattle.hermes_vertical.specs.declared.message.Vertical.{Vertical}
use Rattle.hermes_vertical.specs.declared.message.Vertical.TheVariants as bodies
use Rattle.hermes_vertical.specs.declared.kind.VerticalKind.{VerticalKind}
use Rattle.hermes_vertical.specs.declared.kind.VerticalKind.TheVariants as kinds
use Rattle.hermes_vertical.specs.Rows.{kind_text}

-- ---- the numbers of the enumeration

abbrev pub passing_number : Passing → ℕ
passing_number passings.Transferred = 1
passing_number passings.Loaded = 2
passing_number passings.ByHand = 3

-- ---- the values of the attributes, in the order of the table, and None for each that is left out

abbrev pub of_passing : Passing → Value
of_passing how = numbered (passing_number how)

abbrev pub system_parts : System → List (Option Value)
system_parts system = Some (worded system.system) ∷ Some (worded system.version) ∷ []

abbrev pub passage_parts : Passage → List (Option Value)
passage_parts passage =
    Some (worded passage.machine) ∷ Some (numbered passage.lane) ∷ Some
    (of_passing passage.how) ∷ Some (identified passage.id) ∷ []

abbrev pub question_parts : Question → List (Option Value)
question_parts (questions.Barcode barcode) = Some (worded barcode) ∷ None ∷ None ∷ None ∷ []
question_parts (questions.Order order) = None ∷ Some (worded order) ∷ None ∷ None ∷ []
question_parts (questions.Place magazine slot) =
    None ∷ None ∷ Some (worded magazine) ∷ Some (numbered slot) ∷ []

abbrev pub order_parts : ℕ → List ℕ → Option (List ℕ) → Option (List ℕ) → List (Option Value)
order_parts query order batch product =
    Some (numbered query) ∷ Some
    (worded order) ∷ option_map worded batch ∷ option_map worded product ∷ []

abbrev pub parts : Vertical → List (Option Value)
parts (bodies.SupervisoryServiceDescription system) = system_parts system
parts (bodies.BoardArrived passage) = passage_parts passage
parts (bodies.BoardDeparted passage) = passage_parts passage
parts (bodies.QueryWorkOrderInfo query question) = Some (numbered query) ∷ question_parts question
parts (bodies.SendWorkOrderInfo query order batch product) = order_parts query order batch product
parts (bodies.CheckAlive ping id) = alive_parts ping id
parts (bodies.Notification code severity text) = notice_parts code severity text
parts (bodies.Other name) = []

-- the features that a description lists
abbrev pub features_of : Vertical → Option Features
features_of (bodies.SupervisoryServiceDescription system) = Some system.features
features_of _ = None

abbrev pub kind_of : Vertical → VerticalKind
kind_of (bodies.SupervisoryServiceDescription system) = kinds.SupervisoryServiceDescription
kind_of (bodies.BoardArrived passage) = kinds.BoardArrived
kind_of (bodies.BoardDeparted passage) = kinds.BoardDeparted
kind_of (bodies.QueryWorkOrderInfo query question) = kinds.QueryWorkOrderInfo
kind_of (bodies.SendWorkOrderInfo query order batch product) = kinds.SendWorkOrderInfo
kind_of (bodies.CheckAlive ping id) = kinds.CheckAlive
kind_of (bodies.Notification code severity text) = kinds.Notification
kind_of (bodies.Other name) = kinds.Other

-- the name of the message's element
abbrev pub name_of : Vertical → List ℕ
name_of (bodies.Other name) = name
name_of body = kind_text (kind_of body)
