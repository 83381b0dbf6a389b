-- THE NUMBERS by which a C program is told what it sees.
use Rattle.std.specs.Prelude.{ℕ, Bool, true, false, List}
use Rattle.std.specs.Int.{to_be_bytes, w128}
use Rattle.line_base.specs.declared.states.Flip.{Flip}
use Rattle.line_base.specs.declared.states.Flip.TheVariants as flips
use Rattle.line_base.specs.declared.states.Quality.{Quality}
use Rattle.line_base.specs.declared.states.Quality.TheVariants as qualities
use Rattle.line_base.specs.declared.states.SensorEvent.{SensorEvent}
use Rattle.line_base.specs.declared.states.SensorEvent.TheVariants as sensors
use Rattle.line_base.specs.declared.states.Side.{Side}
use Rattle.line_base.specs.declared.states.Side.TheVariants.{Entry, Exit}
use Rattle.hermes_horizontal.specs.declared.kind.Kind.{Kind}
use Rattle.hermes_horizontal.specs.declared.kind.Kind.TheVariants as kinds
use Rattle.node_core.specs.declared.act.Signal.{Signal}
use Rattle.node_core.specs.declared.act.Signal.TheVariants as signals
use Rattle.node_core.specs.declared.hermes.HermesState.{HermesState}
use Rattle.node_core.specs.declared.hermes.HermesState.TheVariants as states

-- 1 for true
abbrev pub flag : Bool → ℕ
flag true = 1
flag false = 0

-- an id, the most significant of its bytes first
abbrev pub id_bytes : ℕ → List ℕ
id_bytes id = to_be_bytes w128 id

-- a side has the number of its way
abbrev pub side_number : Side → ℕ
side_number Entry = 0
side_number Exit = 1

abbrev pub event_number : SensorEvent → ℕ
event_number sensors.Begun = 0
event_number sensors.Left = 1
event_number sensors.Full = 2
event_number sensors.Back = 3
event_number sensors.Taken = 4

abbrev pub quality_number : Quality → ℕ
quality_number qualities.Unknown = 0
quality_number qualities.Good = 1
quality_number qualities.Failed = 2

abbrev pub flip_number : Flip → ℕ
flip_number flips.Unknown = 0
flip_number flips.TopUp = 1
flip_number flips.BottomUp = 2

-- a bridge's own signal has its place among the signals of a view
abbrev pub signal_number : Signal → ℕ
signal_number signals.EntryAvailable = 0
signal_number signals.EntryFailed = 1
signal_number signals.ExitReady = 2

-- the messages between neighbours
abbrev pub message_number : Kind → ℕ
message_number kinds.CheckAlive = 0
message_number kinds.ServiceDescription = 1
message_number kinds.Notification = 2
message_number kinds.BoardAvailable = 3
message_number kinds.RevokeBoardAvailable = 4
message_number kinds.MachineReady = 5
message_number kinds.RevokeMachineReady = 6
message_number kinds.StartTransport = 7
message_number kinds.StopTransport = 8
message_number kinds.TransportFinished = 9
message_number kinds.BoardForecast = 10
message_number kinds.QueryBoardInfo = 11
message_number kinds.SendBoardInfo = 12
message_number kinds.Other = 31

-- the numbers of the standard's states
abbrev pub state_number : HermesState → ℕ
state_number states.NotConnected = 0
state_number states.ServiceDescription = 1
state_number states.NotAvailableNotReady = 2
state_number states.BoardAvailable = 3
state_number states.MachineReady = 4
state_number states.AvailableAndReady = 5
state_number states.Transporting = 6
state_number states.TransportStopped = 7
state_number states.TransportFinished = 8
