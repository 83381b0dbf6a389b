-- THE TABLE of supervisory messages: the attributes of each in order, which of them are required,
-- and what kind of value each has.
use Rattle.std.specs.Prelude.{ℕ, if◌then◌else◌, List, [], ◌∷◌, codes}
use Rattle.std.specs.Str.{bytes_eq}
use Rattle.hermes_horizontal.specs.declared.attr.Attr.TheVariants as attrs
use Rattle.hermes_horizontal.specs.Values.{ValueKind, text, number, long_number, choice, identity}
use Rattle.hermes_horizontal.specs.Rows.{Column, required, optional, alive_columns, notice_columns}
use Rattle.hermes_vertical.specs.declared.kind.VerticalKind.{VerticalKind}
use Rattle.hermes_vertical.specs.declared.kind.VerticalKind.TheVariants as kinds

-- 1 transferred, 2 loaded, 3 inserted or removed by hand
abbrev pub passing : ValueKind
passing = choice 1 3

abbrev pub passage_columns : List Column
passage_columns =
    required attrs.MachineId text ∷ required attrs.LaneId number ∷ required attrs.BoardTransfer
    passing ∷ required attrs.BoardId identity ∷ []

-- the number of a question
abbrev pub query_column : Column
query_column = required attrs.QueryId long_number

-- what a work order is asked for by; a question has exactly the first, or the second, or the last
-- two
abbrev pub question_columns : List Column
question_columns =
    optional attrs.Barcode text ∷ optional attrs.WorkOrderId text ∷ optional attrs.MagazineId text
    ∷ optional attrs.SlotId number ∷ []

abbrev pub columns_of : VerticalKind → List Column
columns_of kinds.SupervisoryServiceDescription =
    required attrs.SystemId text ∷ required attrs.Version text ∷ []
columns_of kinds.BoardArrived = passage_columns
columns_of kinds.BoardDeparted = passage_columns
columns_of kinds.QueryWorkOrderInfo = query_column ∷ question_columns
columns_of kinds.SendWorkOrderInfo =
    query_column ∷ required attrs.WorkOrderId text ∷ optional attrs.BatchId text ∷ optional
    attrs.ProductTypeId text ∷ []
columns_of kinds.CheckAlive = alive_columns
columns_of kinds.Notification = notice_columns
columns_of kinds.Other = []

-- ---- the names of messages

abbrev pub kind_text : VerticalKind → List ℕ
kind_text kinds.SupervisoryServiceDescription = codes "SupervisoryServiceDescription"
kind_text kinds.BoardArrived = codes "BoardArrived"
kind_text kinds.BoardDeparted = codes "BoardDeparted"
kind_text kinds.QueryWorkOrderInfo = codes "QueryWorkOrderInfo"
kind_text kinds.SendWorkOrderInfo = codes "SendWorkOrderInfo"
kind_text kinds.CheckAlive = codes "CheckAlive"
kind_text kinds.Notification = codes "Notification"
kind_text kinds.Other = codes "Other"

-- the seven messages that have a name of their own
abbrev pub message_kinds : List VerticalKind
message_kinds =
    kinds.SupervisoryServiceDescription ∷ kinds.BoardArrived ∷ kinds.BoardDeparted ∷
    kinds.QueryWorkOrderInfo
    ∷ kinds.SendWorkOrderInfo ∷ kinds.CheckAlive ∷ kinds.Notification ∷ []

abbrev pub kind_among : List ℕ → List VerticalKind → VerticalKind
kind_among name [] = kinds.Other
kind_among name (kind ∷ others) =
    if bytes_eq name (kind_text kind) then kind else kind_among name others

-- the message of this name; one of an unknown name is Other
abbrev pub kind_named : List ℕ → VerticalKind
kind_named name = kind_among name message_kinds
