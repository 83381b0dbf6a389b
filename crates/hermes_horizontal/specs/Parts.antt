-- What messages are made of: their kind, their name, and the values of their attributes in the
-- order of the table.
use Rattle.std.specs.Prelude.{ℕ, List, [], ◌∷◌, Option, Some, None, option_map}
use Rattle.line_base.specs.declared.states.Code.{Code}
use Rattle.line_base.specs.declared.states.Quality.{Quality}
use Rattle.line_base.specs.declared.states.Quality.TheVariants as qualities
use Rattle.line_base.specs.declared.states.Flip.{Flip}
use Rattle.line_base.specs.declared.states.Flip.TheVariants as flips
use Rattle.line_base.specs.declared.states.Severity.{Severity}
use Rattle.line_base.specs.declared.states.Severity.TheVariants as severities
use Rattle.line_base.specs.declared.states.Transfer.{Transfer}
use Rattle.line_base.specs.declared.states.Transfer.TheVariants as transfers
use Rattle.board_record.specs.declared.record.Record.{Record}
use Rattle.board_record.specs.declared.sub_board.SubBoard.{SubBoard}
use Rattle.hermes_horizontal.specs.declared.message.Ping.{Ping}
use Rattle.hermes_horizontal.specs.declared.message.Ping.TheVariants as pings
use Rattle.hermes_horizontal.specs.declared.message.Info.{Info}
use Rattle.hermes_horizontal.specs.declared.message.Service.{Service}
use Rattle.hermes_horizontal.specs.declared.message.Features.{Features}
use Rattle.hermes_horizontal.specs.declared.message.Horizontal.{Horizontal}
use Rattle.hermes_horizontal.specs.declared.message.Horizontal.TheVariants as bodies
use Rattle.hermes_horizontal.specs.declared.kind.Kind.{Kind}
use Rattle.hermes_horizontal.specs.declared.kind.Kind.TheVariants as kinds
use Rattle.hermes_horizontal.specs.Rows.{kind_text}
use Rattle.hermes_horizontal.specs.Values.{Value, worded, numbered, identified, measured}

-- ---- the numbers of the enumerations

abbrev pub ping_number : Ping → ℕ
ping_number pings.Ask = 1
ping_number pings.Answer = 2

abbrev pub severity_number : Severity → ℕ
severity_number severities.Fatal = 1
severity_number severities.Error = 2
severity_number severities.Warning = 3
severity_number severities.Info = 4

abbrev pub quality_number : Quality → ℕ
quality_number qualities.Unknown = 0
quality_number qualities.Good = 1
quality_number qualities.Failed = 2

abbrev pub flip_number : Flip → ℕ
flip_number flips.Unknown = 0
flip_number flips.TopUp = 1
flip_number flips.BottomUp = 2

abbrev pub transfer_number : Transfer → ℕ
transfer_number transfers.NotStarted = 1
transfer_number transfers.Incomplete = 2
transfer_number transfers.Complete = 3

-- ---- the values of the attributes, in the order of the table, and None for each that is left out

abbrev pub of_ping : Ping → Value
of_ping ping = numbered (ping_number ping)

abbrev pub of_severity : Severity → Value
of_severity severity = numbered (severity_number severity)

abbrev pub of_quality : Quality → Value
of_quality quality = numbered (quality_number quality)

abbrev pub of_flip : Flip → Value
of_flip flip = numbered (flip_number flip)

abbrev pub of_transfer : Transfer → Value
of_transfer state = numbered (transfer_number state)

abbrev pub alive_parts : Option Ping → Option (List ℕ) → List (Option Value)
alive_parts ping id = option_map of_ping ping ∷ option_map worded id ∷ []

abbrev pub notice_parts : Code → Severity → List ℕ → List (Option Value)
notice_parts code severity text =
    Some (numbered code.number) ∷ Some (of_severity severity) ∷ Some (worded text) ∷ []

abbrev pub info_parts : Info → List (Option Value)
info_parts info =
    option_map identified info.id ∷ option_map worded info.created_by ∷ option_map of_quality
    info.quality ∷ option_map of_flip info.flip
    ∷ option_map worded info.product ∷ option_map worded info.top ∷ option_map worded info.bottom
    ∷ option_map measured info.length ∷ option_map measured info.width ∷ option_map measured
    info.thickness
    ∷ option_map measured info.speed ∷ option_map measured info.top_clearance
    ∷ option_map measured info.bottom_clearance ∷ option_map measured info.weight
    ∷ option_map worded info.order ∷ option_map worded info.batch ∷ []

-- what a whole record tells
abbrev pub info_of : Record → Info
info_of board = record {
  id = Some board.id;
  created_by = Some board.created_by;
  quality = Some board.quality;
  flip = Some board.flip;
  product = board.product;
  top = board.top;
  bottom = board.bottom;
  length = board.length;
  width = board.width;
  thickness = board.thickness;
  speed = board.speed;
  top_clearance = board.top_clearance;
  bottom_clearance = board.bottom_clearance;
  weight = board.weight;
  order = board.order;
  batch = board.batch;
  subs = board.subs;
}

-- what tells nothing of a board
abbrev pub no_info : Info
no_info = record {
  id = None;
  created_by = None;
  quality = None;
  flip = None;
  product = None;
  top = None;
  bottom = None;
  length = None;
  width = None;
  thickness = None;
  speed = None;
  top_clearance = None;
  bottom_clearance = None;
  weight = None;
  order = None;
  batch = None;
  subs = [];
}

abbrev pub service_parts : Service → List (Option Value)
service_parts service =
    Some (worded service.machine) ∷ Some
    (numbered service.lane) ∷ option_map worded service.interface ∷ Some
    (worded service.version) ∷ []

abbrev pub parts : Horizontal → List (Option Value)
parts (bodies.CheckAlive ping id) = alive_parts ping id
parts (bodies.ServiceDescription service) = service_parts service
parts (bodies.Notification code severity text) = notice_parts code severity text
parts (bodies.BoardAvailable board) = info_parts (info_of board)
parts bodies.RevokeBoardAvailable = []
parts (bodies.MachineReady quality) = Some (of_quality quality) ∷ []
parts bodies.RevokeMachineReady = []
parts (bodies.StartTransport id) = Some (identified id) ∷ []
parts (bodies.StopTransport state id) = Some (of_transfer state) ∷ Some (identified id) ∷ []
parts (bodies.TransportFinished state id) = Some (of_transfer state) ∷ Some (identified id) ∷ []
parts (bodies.BoardForecast info) = info_parts info
parts (bodies.QueryBoardInfo top bottom) = option_map worded top ∷ option_map worded bottom ∷ []
parts (bodies.SendBoardInfo info) = info_parts info
parts (bodies.Other name) = []

abbrev pub sub_parts : SubBoard → List (Option Value)
sub_parts sub =
    Some (numbered sub.pos) ∷ option_map worded sub.barcode ∷ Some (of_quality sub.state) ∷ []

-- what a message has beside its attributes: nothing, the features that it lists, or the sub boards
-- of its board, which are told of, or aren't
pub data Inner : Type 0 where
  plain : Inner
  featured : Features → Inner
  subbed : List SubBoard → Inner
  untold : List SubBoard → Inner

abbrev pub of_features : Option Features → Inner
of_features None = plain
of_features (Some features) = featured features

-- a forecast tells no sub boards
abbrev pub inner_of : Horizontal → Inner
inner_of (bodies.ServiceDescription service) = featured service.features
inner_of (bodies.BoardAvailable board) = subbed board.subs
inner_of (bodies.BoardForecast info) = untold info.subs
inner_of (bodies.SendBoardInfo info) = subbed info.subs
inner_of _ = plain

abbrev pub kind_of : Horizontal → Kind
kind_of (bodies.CheckAlive ping id) = kinds.CheckAlive
kind_of (bodies.ServiceDescription service) = kinds.ServiceDescription
kind_of (bodies.Notification code severity text) = kinds.Notification
kind_of (bodies.BoardAvailable board) = kinds.BoardAvailable
kind_of bodies.RevokeBoardAvailable = kinds.RevokeBoardAvailable
kind_of (bodies.MachineReady quality) = kinds.MachineReady
kind_of bodies.RevokeMachineReady = kinds.RevokeMachineReady
kind_of (bodies.StartTransport id) = kinds.StartTransport
kind_of (bodies.StopTransport state id) = kinds.StopTransport
kind_of (bodies.TransportFinished state id) = kinds.TransportFinished
kind_of (bodies.BoardForecast info) = kinds.BoardForecast
kind_of (bodies.QueryBoardInfo top bottom) = kinds.QueryBoardInfo
kind_of (bodies.SendBoardInfo info) = kinds.SendBoardInfo
kind_of (bodies.Other name) = kinds.Other

-- the name of the message's element
abbrev pub name_of : Horizontal → List ℕ
name_of (bodies.Other name) = name
name_of body = kind_text (kind_of body)
