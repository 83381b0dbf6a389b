-- WHAT COMES OF A SUPERVISOR at a machine behind its port: as at a node, whose way to it is polled.
use Rattle.std.specs.Prelude.{◌≡◌, ◌++◌, ℕ, ℤ, Bool, true, false, List, [], codes, Option, None, Some, Result, Ok, Err}
use Rattle.line_base.specs.declared.states.Severity.TheVariants as severity
use Rattle.hermes_horizontal.specs.declared.message.Ping.TheVariants as pings
use Rattle.hermes_vertical.specs.Parts.{kind_of}
use Rattle.hermes_vertical.specs.declared.message.Vertical.{Vertical}
use Rattle.hermes_vertical.specs.declared.message.Vertical.TheVariants as bodies
use Rattle.supervisory_core.specs.Row.{SupervisedRow, supervised_row}
use Rattle.supervisory_core.specs.Told.{unexpected}
use Rattle.supervisory_core.specs.declared.action.VerticalAction.{VerticalAction}
use Rattle.supervisory_core.specs.declared.action.VerticalAction.TheVariants as actions
use Rattle.supervised_end.specs.Channel.{ChannelValue, HearsNext, no_session}
use Rattle.supervised_end.specs.Said.{connected_already, notification, system_of, text_of, untaken}
use Rattle.supervised_end.specs.declared.channel.Found.{Found}
use Rattle.supervised_end.specs.declared.channel.Found.TheVariants as founds
use Rattle.supervised_end.specs.declared.channel.Word.{Word}
use Rattle.supervised_end.specs.declared.channel.Word.TheVariants as words
use Rattle.node_core.specs.May.{may_of}
use Rattle.node_core.specs.declared.input.Input.{Input}
use Rattle.node_core.specs.declared.input.Input.TheVariants as inputs
use Rattle.node_core.specs.declared.input.No.{No}
use Rattle.machine_port.specs.Port.{HasStepped, PortState}
use Rattle.machine_port.specs.Ways.{at_rest, way_sent}

-- a message waits to be sent
abbrev pub said : ℤ → Vertical → PortState → PortState
said moment body s =
    record s {
      supervisor = record s.supervisor { text = s.supervisor.text ++ text_of moment body };
    }

-- what was done last is done no more
abbrev pub unstepped : PortState → PortState
unstepped s = record s { last = [] }

-- a step, where the machine can take the input, and else nothing
abbrev pub Takes : Result (Unit {0}) No → Input → ℤ → PortState → PortState → Type 0
Takes (Ok done) input moment s t = HasStepped [] input moment s t
Takes (Err why) input moment s t = t ≡ s

-- ---- how a session ends

-- where the machine was supervised, it makes a step and is so no more
abbrev pub Unsupervised : ℤ → PortState → PortState → Type 0
Unsupervised moment s t =
    Takes (may_of s.node (inputs.Supervise false)) (inputs.Supervise false) moment s t

-- the supervisor is told why, its connection is to be closed, and what else came is dropped
abbrev pub session_ended : PortState → PortState
session_ended s =
    record s { supervisor = record s.supervisor { closes = true }; channel = no_session }

abbrev pub broken_off : ℤ → List ℕ → PortState → PortState
broken_off moment text s = session_ended (said moment (notification 1 severity.Fatal text) s)

-- THE BREACH
abbrev pub BreaksOff : ℤ → List ℕ → PortState → PortState → Type 0
BreaksOff moment text s t = Unsupervised moment (broken_off moment text s) t

-- ---- what a row of the table has the machine do

-- it describes itself, and then it is supervised
abbrev pub Describes : ℤ → PortState → PortState → Type 0
Describes moment s t =
    let told = said moment (system_of s.name) s in
    Takes (may_of s.node (inputs.Supervise true)) (inputs.Supervise true) moment told t

-- an answer whose question is open is one step, and else the supervisor is told why it isn't taken
abbrev pub AnswersIf : Result (Unit {0}) No → ℤ → ℕ → List ℕ → PortState → PortState → Type 0
AnswersIf (Ok done) moment query order s t = HasStepped [] (inputs.Answer query order) moment s t
AnswersIf (Err why) moment query order s t =
    t ≡ said moment (notification 0 severity.Warning (untaken why)) s

abbrev pub DoesAction : VerticalAction → ℤ → PortState → PortState → Type 0
DoesAction actions.Describe moment s t = Describes moment s t
DoesAction (actions.Pong id) moment s t =
    t ≡ said moment (bodies.CheckAlive (Some pings.Answer) id) s
DoesAction (actions.Answer query order) moment s t =
    AnswersIf (may_of s.node (inputs.Answer query order)) moment query order s t
DoesAction actions.Nothing moment s t = t ≡ s

-- ---- what a message does

abbrev pub with_stands : Bool → PortState → PortState
with_stands stands s = record s { channel = record s.channel { stands = stands } }

abbrev pub DoesRow : Option SupervisedRow → Vertical → ℤ → PortState → PortState → Type 0
DoesRow None body moment s t = BreaksOff moment (unexpected (kind_of body)) s t
DoesRow (Some row) body moment s t = DoesAction row.action moment (with_stands row.after s) t

abbrev pub DoesWord : Word → ℤ → PortState → PortState → Type 0
DoesWord (words.Says message) moment s t =
    DoesRow (supervised_row s.channel.stands message.body) message.body moment s t
DoesWord (words.Wrong text) moment s t = BreaksOff moment text s t

abbrev pub DoesFound : Found → ℤ → PortState → PortState → Type 0
DoesFound (founds.Word word) moment s t = DoesWord word moment s t
DoesFound founds.More moment s t = t ≡ s
DoesFound founds.TooLong moment s t = BreaksOff moment (codes "message too long") s t

abbrev pub with_channel : ChannelValue → PortState → PortState
with_channel channel s = record s { channel = channel }

-- THE NEXT OF THE SUPERVISOR'S MESSAGES, of the bytes that came
pub record DoesHear (moment : ℤ) (s t : PortState) : Type 0 where
  pub found : Found
  pub channel : ChannelValue
  pub hears : HearsNext s.channel channel found
  pub does : DoesFound found moment (with_channel channel s) t

-- ---- the connection

-- bytes came, that are heard message by message; of a connection that is to be closed they are
-- dropped
abbrev pub heard : Bool → List ℕ → PortState → PortState
heard true bytes s = s
heard false bytes s = record s { channel = record s.channel { piece = bytes; hears = true } }

-- THE CONNECTION IS CLOSED, by whomever: what waits there and what came is dropped, and a machine
-- that was supervised is so no more
abbrev pub HasLeft : ℤ → PortState → PortState → Type 0
HasLeft moment s t =
    Unsupervised moment (record s { supervisor = at_rest; channel = no_session; last = [] }) t

-- a second connection is refused with a text
abbrev pub refused_second : ℤ → PortState → PortState
refused_second moment s = record s { refusal = text_of moment connected_already }

-- so many bytes from the front of what waits are sent
abbrev pub sent_to_supervisor : ℕ → PortState → PortState
sent_to_supervisor count s = record s { supervisor = way_sent count s.supervisor }
