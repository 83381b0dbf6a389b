-- What reading answers of an element, and of the parts of a message.
use Rattle.std.specs.Prelude.{◌≡◌, ℕ, List, Option, IsSome, Result, Ok, Err}
use Rattle.hermes_element.specs.Element.{Tree, Forest, trees_of}
use Rattle.hermes_element.specs.declared.attribute.Attribute.{Attribute}
use Rattle.hermes_horizontal.specs.declared.fault.Refusal.{Refusal}
use Rattle.hermes_horizontal.specs.declared.fault.MessageError.{MessageError}
use Rattle.hermes_horizontal.specs.declared.kind.Kind.{Kind}
use Rattle.hermes_horizontal.specs.declared.message.Info.{Info}
use Rattle.hermes_horizontal.specs.declared.message.Horizontal.{Horizontal}
use Rattle.hermes_horizontal.specs.declared.message.Message.{Message}
use Rattle.hermes_horizontal.specs.Values.{Value}
use Rattle.hermes_horizontal.specs.Rows.{columns_of}
use Rattle.hermes_horizontal.specs.Parts.{parts, info_parts, kind_of, inner_of}
use Rattle.hermes_horizontal.specs.Spelling.{values_of, refusal_of_result, subs_in, inner_said, board_refusal, row_refusal, SaysBody, body_refusal, Says, refusal_of}
use Rattle.hermes_horizontal.specs.Roots.{ReadsRoot}
use Rattle.hermes_horizontal.specs.Opened.{ReadsParts}
pub use Rattle.hermes_horizontal.specs.Roots.{Refuses}

-- a body of this kind, made of what its row of the table says of the attributes
pub record FitsRow (kind : Kind) (at : ℕ) (attributes : List Attribute) (children : Forest)
    (body : Horizontal) : Type 0 where
  pub of_kind : kind_of body ≡ kind
  pub values : values_of at attributes (columns_of kind) ≡ Ok (parts body)
  pub inner : inner_said kind children ≡ Ok (inner_of body)

-- a part of a message as it is seen, or the first refusal
abbrev pub ReadsPart : {Part Seen : Type 0} → (Part → Seen) → Result Part MessageError
    → Result Seen Refusal → Type 0
ReadsPart view (Ok part) said = said ≡ Ok (view part)
ReadsPart view (Err error) said = Refuses (refusal_of_result said) error

-- such a body, or the first refusal of the row
abbrev pub ReadsRow : Kind → ℕ → List Attribute → Forest → Result Horizontal MessageError → Type 0
ReadsRow kind at attributes children (Ok body) = FitsRow kind at attributes children body
ReadsRow kind at attributes children (Err error) =
    Refuses (row_refusal kind at attributes children) error

-- what is told of a board, or the first refusal
abbrev pub ReadsInfo : Result Info MessageError → Result (List (Option Value)) Refusal → Type 0
ReadsInfo result said = ReadsParts info_parts result said

-- what is told of a board by its attributes and its sub boards, or the first refusal
abbrev pub TellsBoard : Result (List (Option Value)) Refusal → Forest → Result Info MessageError
    → Type 0
TellsBoard said children (Ok info) =
    (said ≡ Ok (info_parts info)) × (subs_in (trees_of children) ≡ Ok info.subs)
TellsBoard said children (Err error) = Refuses (board_refusal said children) error

abbrev pub ReadsBody : Tree → Result Horizontal MessageError → Type 0
ReadsBody child (Ok body) = SaysBody child body
ReadsBody child (Err error) = Refuses (body_refusal child) error

abbrev pub ReadsTree : Tree → Result Message MessageError → Type 0
ReadsTree tree result = ReadsRoot Says refusal_of tree result

-- what an available board must tell
pub record IsWhole (info : Info) : Type 0 where
  pub id : IsSome info.id
  pub created_by : IsSome info.created_by
  pub quality : IsSome info.quality
  pub flip : IsSome info.flip
