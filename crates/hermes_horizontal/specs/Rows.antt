-- THE TABLE of messages: the attributes of each in order, which of them are required, and what
-- kind of value each has.
use Rattle.std.specs.Prelude.{ℕ, Bool, true, false, if◌then◌else◌, List, [], ◌∷◌, codes, drop}
use Rattle.std.specs.Str.{bytes_eq}
use Rattle.hermes_horizontal.specs.Values.{ValueKind, text, number, choice, identity, decimal, moment}
use Rattle.hermes_horizontal.specs.declared.attr.Attr.{Attr}
use Rattle.hermes_horizontal.specs.declared.attr.Attr.TheVariants as attrs
use Rattle.hermes_horizontal.specs.declared.kind.Kind.{Kind}
use Rattle.hermes_horizontal.specs.declared.kind.Kind.TheVariants as kinds

-- an attribute of a message
pub record Column : Type 0 where
  pub attr : Attr
  pub required : Bool
  pub kind : ValueKind

abbrev pub required : Attr → ValueKind → Column
required attr kind = record { attr = attr; required = true; kind = kind }

abbrev pub optional : Attr → ValueKind → Column
optional attr kind = record { attr = attr; required = false; kind = kind }

-- when the message was sent, an attribute of the root
abbrev pub stamp_column : Column
stamp_column = optional attrs.Timestamp moment

-- 1 ping, 2 pong
abbrev pub ping : ValueKind
ping = choice 1 2

-- 1 fatal, 2 error, 3 warning, 4 info
abbrev pub severity : ValueKind
severity = choice 1 4

-- 0 unknown or any, 1 good, 2 failed
abbrev pub quality : ValueKind
quality = choice 0 2

-- 0 unknown, 1 top side up, 2 bottom side up
abbrev pub flip : ValueKind
flip = choice 0 2

-- 1 not started, 2 incomplete, 3 complete
abbrev pub transfer : ValueKind
transfer = choice 1 3

-- what may be told of a board beside who made it and how it is
abbrev pub record_columns : List Column
record_columns =
    optional attrs.ProductTypeId text ∷ optional attrs.TopBarcode text ∷ optional
    attrs.BottomBarcode text
    ∷ optional attrs.Length decimal ∷ optional attrs.Width decimal ∷ optional attrs.Thickness
    decimal
    ∷ optional attrs.ConveyorSpeed decimal ∷ optional attrs.TopClearanceHeight decimal
    ∷ optional attrs.BottomClearanceHeight decimal ∷ optional attrs.Weight decimal
    ∷ optional attrs.WorkOrderId text ∷ optional attrs.BatchId text ∷ []

-- an attribute that is required of an available board, and may be left out of a forecast and of
-- board information
abbrev pub required_if : Bool → Attr → ValueKind → Column
required_if whole attr kind = record { attr = attr; required = whole; kind = kind }

abbrev pub board_columns : Bool → List Column
board_columns whole =
    required_if whole attrs.BoardId identity ∷ required_if whole attrs.BoardIdCreatedBy text
    ∷ required_if whole attrs.FailedBoard quality ∷ required_if whole attrs.FlippedBoard flip ∷
    record_columns

-- one sub board: its place on the panel, its barcode and its quality
abbrev pub sub_columns : List Column
sub_columns =
    required attrs.Pos number ∷ optional attrs.Bc text ∷ required attrs.St quality ∷ []

abbrev pub transfer_columns : List Column
transfer_columns = required attrs.TransferState transfer ∷ required attrs.BoardId identity ∷ []

-- what both channels say alike
abbrev pub alive_columns : List Column
alive_columns = optional attrs.AliveType ping ∷ optional attrs.Id text ∷ []

abbrev pub notice_columns : List Column
notice_columns =
    required attrs.NotificationCode number ∷ required attrs.Severity severity ∷ required
    attrs.Description text ∷ []

abbrev pub columns_of : Kind → List Column
columns_of kinds.CheckAlive = alive_columns
columns_of kinds.ServiceDescription =
    required attrs.MachineId text ∷ required attrs.LaneId number ∷ optional attrs.InterfaceId text
    ∷ required attrs.Version text ∷ []
columns_of kinds.Notification = notice_columns
columns_of kinds.BoardAvailable = board_columns true
columns_of kinds.RevokeBoardAvailable = []
columns_of kinds.MachineReady = required attrs.FailedBoard quality ∷ []
columns_of kinds.RevokeMachineReady = []
columns_of kinds.StartTransport = required attrs.BoardId identity ∷ []
columns_of kinds.StopTransport = transfer_columns
columns_of kinds.TransportFinished = transfer_columns
columns_of kinds.BoardForecast = board_columns false
columns_of kinds.QueryBoardInfo =
    optional attrs.TopBarcode text ∷ optional attrs.BottomBarcode text ∷ []
columns_of kinds.SendBoardInfo = board_columns false
columns_of kinds.Other = []

-- ---- the names of messages

abbrev pub kind_text : Kind → List ℕ
kind_text kinds.CheckAlive = codes "CheckAlive"
kind_text kinds.ServiceDescription = codes "ServiceDescription"
kind_text kinds.Notification = codes "Notification"
kind_text kinds.BoardAvailable = codes "BoardAvailable"
kind_text kinds.RevokeBoardAvailable = codes "RevokeBoardAvailable"
kind_text kinds.MachineReady = codes "MachineReady"
kind_text kinds.RevokeMachineReady = codes "RevokeMachineReady"
kind_text kinds.StartTransport = codes "StartTransport"
kind_text kinds.StopTransport = codes "StopTransport"
kind_text kinds.TransportFinished = codes "TransportFinished"
kind_text kinds.BoardForecast = codes "BoardForecast"
kind_text kinds.QueryBoardInfo = codes "QueryBoardInfo"
kind_text kinds.SendBoardInfo = codes "SendBoardInfo"
kind_text kinds.Other = codes "Other"

-- the thirteen messages that have a name of their own
abbrev pub message_kinds : List Kind
message_kinds =
    kinds.CheckAlive ∷ kinds.ServiceDescription ∷ kinds.Notification ∷ kinds.BoardAvailable ∷
    kinds.RevokeBoardAvailable
    ∷ kinds.MachineReady ∷ kinds.RevokeMachineReady ∷ kinds.StartTransport ∷ kinds.StopTransport ∷
    kinds.TransportFinished
    ∷ kinds.BoardForecast ∷ kinds.QueryBoardInfo ∷ kinds.SendBoardInfo ∷ []

-- those from StartTransport on
abbrev pub later_kinds : List Kind
later_kinds = drop 7 message_kinds

abbrev pub kind_among : List ℕ → List Kind → Kind
kind_among name [] = kinds.Other
kind_among name (kind ∷ others) =
    if bytes_eq name (kind_text kind) then kind else kind_among name others

-- the message of this name; one of an unknown name is Other
abbrev pub kind_named : List ℕ → Kind
kind_named name = kind_among name message_kinds
