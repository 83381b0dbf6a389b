-- Which bytes spell a supervisory message, which are refused, where and why, and what reading
-- answers.
use Rattle.std.specs.Prelude.{◌≡◌, ℕ, List, Option, Some, None, Result, Ok, Err}
use Rattle.hermes_element.specs.Element.{Tree, Forest, trees_of}
use Rattle.hermes_element.specs.declared.attribute.Attribute.{Attribute}
use Rattle.hermes_horizontal.specs.declared.fault.Fault.{Fault}
use Rattle.hermes_horizontal.specs.declared.fault.Refusal.{Refusal}
use Rattle.hermes_horizontal.specs.declared.fault.MessageError.{MessageError}
use Rattle.hermes_horizontal.specs.declared.message.Features.{Features}
use Rattle.hermes_horizontal.specs.Values.{Value}
use Rattle.hermes_horizontal.specs.Said.{values_of, features_in}
use Rattle.hermes_horizontal.specs.Roots.{SaysRoot, SpellsBy, refusal_of_result, refusal_by, IsRefusedFor, IsRefusedNear, ReadsBy, ReadsRoot, Refuses}
use Rattle.hermes_vertical.specs.declared.kind.VerticalKind.{VerticalKind}
use Rattle.hermes_vertical.specs.declared.kind.VerticalKind.TheVariants as kinds
use Rattle.hermes_vertical.specs.declared.message.Vertical.{Vertical}
use Rattle.hermes_vertical.specs.declared.message.VerticalMessage.{VerticalMessage}
use Rattle.hermes_vertical.specs.Rows.{columns_of, kind_named}
use Rattle.hermes_vertical.specs.Parts.{parts, features_of, kind_of, name_of}
use Rattle.hermes_vertical.specs.Questions.{query_values}

-- what the attributes of a row of the table say, or the first refusal
abbrev pub row_values : ℕ → List Attribute → VerticalKind → Result (List (Option Value)) Refusal
row_values at attributes kinds.QueryWorkOrderInfo = query_values at attributes
row_values at attributes kind = values_of at attributes (columns_of kind)

-- the features of a description
abbrev pub features_said : VerticalKind → Forest → Option Features
features_said kinds.SupervisoryServiceDescription children = Some (features_in (trees_of children))
features_said _ children = None

-- ---- which messages elements say, and which bytes spell them

-- the element of a message says this
pub record SaysBody (child : Tree) (body : Vertical) : Type 0 where
  pub kind : kind_named child.name ≡ kind_of body
  pub name : child.name ≡ name_of body
  pub values : row_values child.at child.attributes (kind_of body) ≡ Ok (parts body)
  pub features : features_said (kind_of body) child.children ≡ features_of body

abbrev pub Says : Tree → VerticalMessage → Type 0
Says tree message = SaysRoot SaysBody tree message.stamp message.body

abbrev pub Spells : List ℕ → VerticalMessage → Type 0
Spells bytes message = SpellsBy Says bytes message

-- ---- which elements say no message

abbrev pub body_refusal : Tree → Option Refusal
body_refusal child =
    refusal_of_result (row_values child.at child.attributes (kind_named child.name))

abbrev pub refusal_of : Tree → Option Refusal
refusal_of tree = refusal_by body_refusal tree

abbrev pub IsRefused : List ℕ → ℕ → Fault → Type 0
IsRefused bytes at why = IsRefusedFor refusal_of bytes at why

-- the bytes are refused, at an index of at most this
abbrev pub IsRefusedBy : List ℕ → ℕ → Type 0
IsRefusedBy bytes most = IsRefusedNear IsRefused bytes most

-- ---- what reading answers

-- a message that the bytes spell, or their refusal where they spell none
abbrev pub ReadsMessage : List ℕ → Result VerticalMessage MessageError → Type 0
ReadsMessage bytes result = ReadsBy Says refusal_of bytes result

abbrev pub ReadsTree : Tree → Result VerticalMessage MessageError → Type 0
ReadsTree tree result = ReadsRoot Says refusal_of tree result

abbrev pub ReadsBody : Tree → Result Vertical MessageError → Type 0
ReadsBody child (Ok body) = SaysBody child body
ReadsBody child (Err error) = Refuses (body_refusal child) error

-- a body of this kind, made of what its row of the table says of the attributes
pub record FitsRow (kind : VerticalKind) (at : ℕ) (attributes : List Attribute) (children : Forest)
    (body : Vertical) : Type 0 where
  pub of_kind : kind_of body ≡ kind
  pub values : row_values at attributes kind ≡ Ok (parts body)
  pub features : features_said kind children ≡ features_of body

-- such a body, or the first refusal of the row
abbrev pub ReadsRow : VerticalKind → ℕ → List Attribute → Forest → Result Vertical MessageError
    → Type 0
ReadsRow kind at attributes children (Ok body) = FitsRow kind at attributes children body
ReadsRow kind at attributes children (Err error) =
    Refuses (refusal_of_result (row_values at attributes kind)) error
