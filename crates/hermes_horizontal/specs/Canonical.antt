-- The one written spelling of a message, and which messages are writable.
use Rattle.std.specs.Prelude.{◌≡◌, ℕ, ℤ, ◌≤◌, ◌<◌, ◌^◌, Bool, cond, List, [], ◌∷◌, ◌++◌, Option, Some, None, codes, option_map}
use Rattle.std.specs.List.{AllByRecursion}
use Rattle.line_base.specs.Text.{IsText}
use Rattle.line_base.specs.Name.{IsName}
use Rattle.line_base.specs.Moment.{IsMomentMillis}
use Rattle.board_record.specs.SubBoards.{AreSubBoards}
use Rattle.board_record.specs.declared.sub_board.SubBoard.{SubBoard}
use Rattle.hermes_element.specs.Element.{Tree, Forest, none, more}
use Rattle.hermes_element.specs.Canonical as form
use Rattle.hermes_element.specs.declared.attribute.Attribute.{Attribute}
use Rattle.hermes_horizontal.specs.declared.attr.Attr.{Attr}
use Rattle.hermes_horizontal.specs.declared.message.Features.{Features}
use Rattle.hermes_horizontal.specs.declared.message.Horizontal.{Horizontal}
use Rattle.hermes_horizontal.specs.declared.message.Horizontal.TheVariants as bodies
use Rattle.hermes_horizontal.specs.declared.message.Message.{Message}
use Rattle.hermes_horizontal.specs.Attrs.{attr_text}
use Rattle.hermes_horizontal.specs.Values.{Value, worded, numbered, identified, measured, timed, value_text}
use Rattle.hermes_horizontal.specs.Rows.{Column, columns_of, sub_columns, stamp_column, kind_named}
use Rattle.hermes_horizontal.specs.Parts.{parts, sub_parts, Inner, plain, featured, subbed, untold, inner_of, kind_of, name_of}

-- ---- a message as an element; its places are all 0

abbrev pub attribute_of : Attr → Value → Attribute
attribute_of attr value = record { name = attr_text attr; value = value_text value; at = 0 }

abbrev pub attribute_if : Attr → Option Value → List Attribute
attribute_if attr None = []
attribute_if attr (Some value) = attribute_of attr value ∷ []

-- the attributes of a row of the table that have these values
abbrev pub attributes_of : List Column → List (Option Value) → List Attribute
attributes_of [] values = []
attributes_of (column ∷ columns) [] = []
attributes_of (column ∷ columns) (value ∷ values) =
    attribute_if column.attr value ++ attributes_of columns values

-- an empty element where the test holds, before others
abbrev pub child_if : Bool → List ℕ → Forest → Forest
child_if test name rest = cond test (more name 0 [] none rest) rest

abbrev pub feature_children : Features → Forest
feature_children features =
    child_if features.check_alive (codes "FeatureCheckAliveResponse")
    (child_if features.forecast (codes "FeatureBoardForecast")
    (child_if features.query (codes "FeatureQueryBoardInfo")
    (child_if features.send (codes "FeatureSendBoardInfo") none)))

-- an SB for each sub board
abbrev pub sub_children : List SubBoard → Forest
sub_children [] = none
sub_children (sub ∷ subs) =
    more (codes "SB") 0 (attributes_of sub_columns (sub_parts sub)) none (sub_children subs)

-- the spelling of one SB
abbrev pub sub_spelling : SubBoard → List ℕ
sub_spelling sub =
    form.canonical_front (codes "SB") (attributes_of sub_columns (sub_parts sub)) ++ 47 ∷ 62 ∷ []

-- SubBoards is written where there are any, and SupportedFeatures always in a service description
abbrev pub children_of : Inner → Forest
children_of plain = none
children_of (featured features) =
    more (codes "SupportedFeatures") 0 [] (feature_children features) none
children_of (subbed []) = none
children_of (subbed (sub ∷ subs)) =
    more (codes "SubBoards") 0 [] (sub_children (sub ∷ subs)) none
children_of (untold subs) = none

-- the element of a name with the values of a row of the table
abbrev pub row_tree : List ℕ → List Column → List (Option Value) → Inner → Tree
row_tree name columns values inner =
    record {
      name = name;
      at = 0;
      attributes = attributes_of columns values;
      children = children_of inner;
    }

abbrev pub body_tree : Horizontal → Tree
body_tree body =
    row_tree (name_of body) (columns_of (kind_of body)) (parts body) (inner_of body)

abbrev pub root_of : List Attribute → Tree → Tree
root_of attributes child =
    record {
      name = codes "Hermes";
      at = 0;
      attributes = attributes;
      children = more child.name child.at child.attributes child.children none;
    }

-- the root of a message that was sent at this moment, or doesn't tell when
abbrev pub stamped : Option ℤ → Tree → Tree
stamped stamp child = root_of (attribute_if stamp_column.attr (option_map timed stamp)) child

abbrev pub tree_of : Message → Tree
tree_of message = stamped message.stamp (body_tree message.body)

abbrev pub canonical : Message → List ℕ
canonical message = form.canonical (tree_of message)

-- ---- the same piece by piece

abbrev pub assignment : Attr → Value → List ℕ
assignment attr value = form.canonical_attribute (attribute_of attr value)

abbrev pub assignment_if : Attr → Option Value → List ℕ
assignment_if attr None = []
assignment_if attr (Some value) = assignment attr value

-- with the attributes of a row behind these bytes
abbrev pub assigned : List ℕ → List Column → List (Option Value) → List ℕ
assigned front [] values = front
assigned front (column ∷ columns) [] = front
assigned front (column ∷ columns) (value ∷ values) =
    assigned (front ++ assignment_if column.attr value) columns values

-- the end of a message's start tag, and what follows it
abbrev pub rest_spelling : List ℕ → Inner → List ℕ
rest_spelling name inner =
    form.canonical_rest name (children_of inner) (form.canonical_forest (children_of inner))

abbrev pub children_spelling : Horizontal → List ℕ
children_spelling body = rest_spelling (name_of body) (inner_of body)

abbrev pub body_spelling : Horizontal → List ℕ
body_spelling body = form.canonical (body_tree body)

-- ---- writable messages

-- the lane and the code are numbers of at most 9 digits, and the name in Other is none of the
-- thirteen
abbrev pub HasShortNumbers : Horizontal → Type 0
HasShortNumbers (bodies.ServiceDescription service) = service.lane ≤ 999_999_999
HasShortNumbers (bodies.Notification code severity text) = code.number ≤ 999_999_999
HasShortNumbers _ = Unit {0}

-- the places of sub boards are numbers of at most 9 digits
pub record AreWritableSubs (subs : List SubBoard) : Type 0 where
  pub places : AllByRecursion (λ (sub : SubBoard). sub.pos ≤ 999_999_999) subs
  pub list : AreSubBoards subs

-- a forecast has no sub boards
abbrev pub HasWritableSubs : Inner → Type 0
HasWritableSubs (subbed subs) = AreWritableSubs subs
HasWritableSubs (untold subs) = subs ≡ []
HasWritableSubs _ = Unit {0}

pub record IsWritable (message : Message) : Type 0 where
  pub numbers : HasShortNumbers message.body
  pub subs : HasWritableSubs (inner_of message.body)
  pub named : kind_named (name_of message.body) ≡ kind_of message.body

-- ---- what holds of every message of a program, by the types of its parts

abbrev pub IsProper : Value → Type 0
IsProper (worded bytes) = IsText bytes
IsProper (numbered n) = Unit {0}
IsProper (identified id) = id < 2 ^ 128
IsProper (measured millionths) = millionths < 1_000_000_000_000
IsProper (timed millis) = IsMomentMillis millis

abbrev pub IsProperIf : Option Value → Type 0
IsProperIf None = Unit {0}
IsProperIf (Some value) = IsProper value

abbrev pub IsProperSub : SubBoard → Type 0
IsProperSub sub = IsProperIf (option_map worded sub.barcode)

-- the barcodes of sub boards are texts
abbrev pub HasProperSubs : Inner → Type 0
HasProperSubs (subbed subs) = AllByRecursion IsProperSub subs
HasProperSubs _ = Unit {0}

pub record IsProperMessage (message : Message) : Type 0 where
  pub stamp : IsProperIf (option_map timed message.stamp)
  pub name : IsName (name_of message.body)
  pub values : AllByRecursion IsProperIf (parts message.body)
  pub subs : HasProperSubs (inner_of message.body)
