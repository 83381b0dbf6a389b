-- Which bytes spell a horizontal message, which are refused, where and why, and what reading
-- answers.
use Rattle.std.specs.Prelude.{◌≡◌, ℕ, List, [], Option, Result, Ok}
use Rattle.hermes_element.specs.Element.{Tree, Forest, trees_of}
use Rattle.hermes_element.specs.declared.attribute.Attribute.{Attribute}
use Rattle.hermes_horizontal.specs.declared.fault.Fault.{Fault}
use Rattle.hermes_horizontal.specs.declared.fault.Refusal.{Refusal}
use Rattle.hermes_horizontal.specs.declared.fault.MessageError.{MessageError}
use Rattle.hermes_horizontal.specs.declared.kind.Kind.{Kind}
use Rattle.hermes_horizontal.specs.declared.kind.Kind.TheVariants as kinds
use Rattle.hermes_horizontal.specs.declared.message.Horizontal.{Horizontal}
use Rattle.hermes_horizontal.specs.declared.message.Message.{Message}
use Rattle.hermes_horizontal.specs.Values.{Value}
use Rattle.hermes_horizontal.specs.Rows.{columns_of, kind_named}
use Rattle.hermes_horizontal.specs.Parts.{parts, Inner, plain, featured, subbed, untold, inner_of, kind_of, name_of}
use Rattle.hermes_horizontal.specs.Roots.{SaysRoot, SpellsBy, children_refusal_by, refusal_by, SaysNothingBy, IsRefusedFor, IsRefusedNear, ReadsBy}
pub use Rattle.hermes_horizontal.specs.Said.{then_ok, mapped_ok, first_named, value_or_bad, left_out, value_at, values_of, has_child, features_listed, features_in, number_told, words_told, quality_told, sub_of, sub_said, each_said, sbs_among, bad_subs, if_small, subs_listed, subs_in}
pub use Rattle.hermes_horizontal.specs.Roots.{stamp_in, refusal_of_result, first_of, IsFormless, AnswersMessage, AnswersRefusal}

-- what the children say: the features of a service description, or the sub boards of a board. A
-- forecast tells no sub boards
abbrev pub inner_said : Kind → Forest → Result Inner Refusal
inner_said kinds.ServiceDescription children = Ok (featured (features_in (trees_of children)))
inner_said kinds.BoardAvailable children = mapped_ok subbed (subs_in (trees_of children))
inner_said kinds.BoardForecast children = Ok (untold [])
inner_said kinds.SendBoardInfo children = mapped_ok subbed (subs_in (trees_of children))
inner_said _ children = Ok plain

-- ---- which messages elements say, and which bytes spell them

-- the element of a message says this
pub record SaysBody (child : Tree) (body : Horizontal) : Type 0 where
  pub kind : kind_named child.name ≡ kind_of body
  pub name : child.name ≡ name_of body
  pub values : values_of child.at child.attributes (columns_of (kind_of body)) ≡ Ok (parts body)
  pub inner : inner_said (kind_of body) child.children ≡ Ok (inner_of body)

abbrev pub Says : Tree → Message → Type 0
Says tree message = SaysRoot SaysBody tree message.stamp message.body

abbrev pub Spells : List ℕ → Message → Type 0
Spells bytes message = SpellsBy Says bytes message

-- ---- which elements say no message

-- the first refusal of a row: of its attributes, and behind these of the sub boards
abbrev pub board_refusal : Result (List (Option Value)) Refusal → Forest → Option Refusal
board_refusal values children =
    first_of (refusal_of_result values) (refusal_of_result (subs_in (trees_of children)))

abbrev pub row_refusal : Kind → ℕ → List Attribute → Forest → Option Refusal
row_refusal kinds.BoardAvailable at attributes children =
    board_refusal (values_of at attributes (columns_of kinds.BoardAvailable)) children
row_refusal kinds.SendBoardInfo at attributes children =
    board_refusal (values_of at attributes (columns_of kinds.SendBoardInfo)) children
row_refusal kind at attributes children =
    refusal_of_result (values_of at attributes (columns_of kind))

abbrev pub body_refusal : Tree → Option Refusal
body_refusal child =
    row_refusal (kind_named child.name) child.at child.attributes child.children

abbrev pub children_refusal : ℕ → List Tree → Option Refusal
children_refusal at trees = children_refusal_by body_refusal at trees

abbrev pub refusal_of : Tree → Option Refusal
refusal_of tree = refusal_by body_refusal tree

abbrev pub SaysNothing : List ℕ → ℕ → Fault → Type 0
SaysNothing bytes at why = SaysNothingBy refusal_of bytes at why

abbrev pub IsRefused : List ℕ → ℕ → Fault → Type 0
IsRefused bytes at why = IsRefusedFor refusal_of bytes at why

-- the bytes are refused, at an index of at most this
abbrev pub IsRefusedBy : List ℕ → ℕ → Type 0
IsRefusedBy bytes most = IsRefusedNear IsRefused bytes most

-- ---- what reading answers

-- a message that the bytes spell, or their refusal where they spell none
abbrev pub ReadsMessage : List ℕ → Result Message MessageError → Type 0
ReadsMessage bytes result = ReadsBy Says refusal_of bytes result
