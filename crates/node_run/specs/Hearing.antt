-- What the supervisor's messages do.
use Rattle.std.specs.Prelude.{◌≡◌, ◌++◌, ℕ, ℤ, Bool, true, false, List, [], codes, Option, None, Some, Result, Ok, Err}
use Rattle.line_base.specs.declared.states.Severity.TheVariants as severity
use Rattle.hermes_horizontal.specs.declared.message.Ping.TheVariants as pings
use Rattle.hermes_vertical.specs.Parts.{kind_of}
use Rattle.hermes_vertical.specs.declared.message.Vertical.{Vertical}
use Rattle.hermes_vertical.specs.declared.message.Vertical.TheVariants as bodies
use Rattle.supervisory_core.specs.Row.{SupervisedRow, supervised_row}
use Rattle.supervisory_core.specs.Told.{unexpected}
use Rattle.supervisory_core.specs.declared.action.VerticalAction.{VerticalAction}
use Rattle.supervisory_core.specs.declared.action.VerticalAction.TheVariants as actions
use Rattle.node_core.specs.May.{may_of}
use Rattle.node_core.specs.declared.input.Input.TheVariants as inputs
use Rattle.node_core.specs.declared.input.No.{No}
use Rattle.supervised_end.specs.Channel.{ChannelValue, HearsNext, no_session}
use Rattle.supervised_end.specs.Said.{notification, system_of, text_of, untaken}
use Rattle.node_run.specs.State.{RunState}
use Rattle.node_run.specs.Steps.{Takes, TakesStep}
use Rattle.supervised_end.specs.declared.channel.Found.{Found}
use Rattle.supervised_end.specs.declared.channel.Found.TheVariants as founds
use Rattle.supervised_end.specs.declared.channel.Word.{Word}
use Rattle.supervised_end.specs.declared.channel.Word.TheVariants as words
use Rattle.node_run.specs.declared.rules.Rules.{Rules}
use Rattle.node_run.specs.declared.way_state.Wire.TheVariants as wires

-- a message waits to be sent
abbrev pub said : ℤ → Vertical → RunState → RunState
said moment body s =
    record s {
      supervisory = record s.supervisory {
        unsent = s.supervisory.unsent
            ++ text_of moment body;
      };
    }

-- ---- how a session ends

-- where the machine was supervised, it makes a step and is so no more
abbrev pub Unsupervised : Rules → ℤ → RunState → RunState → List ℕ → Type 0
Unsupervised rules moment s t log =
    Takes (may_of s.node (inputs.Supervise false)) rules moment (inputs.Supervise false) s s t log

-- the supervisor is told why, the way is to end, and what else came is dropped
abbrev pub session_ended : RunState → RunState
session_ended s =
    record s { supervisory = record s.supervisory { wire = wires.Ends }; channel = no_session }

abbrev pub broken_off : ℤ → List ℕ → RunState → RunState
broken_off moment text s = session_ended (said moment (notification 1 severity.Fatal text) s)

-- THE BREACH
abbrev pub BreaksOff : Rules → ℤ → List ℕ → RunState → RunState → List ℕ → Type 0
BreaksOff rules moment text s t log = Unsupervised rules moment (broken_off moment text s) t log

-- ---- what a row of the table has the machine do

-- it describes itself, and then it is supervised
abbrev pub Describes : Rules → ℤ → RunState → RunState → List ℕ → Type 0
Describes rules moment s t log =
    let told = said moment (system_of rules.machine_id) s in
    Takes (may_of s.node (inputs.Supervise true)) rules moment
    (inputs.Supervise true) told told t log

-- an answer whose question is open is one step
abbrev pub AnswersIf : Result (Unit {0}) No → Rules → ℤ → ℕ → List ℕ → RunState → RunState → List ℕ
    → Type 0
AnswersIf (Ok done) rules moment query order s t log =
    TakesStep false rules moment [] (inputs.Answer query order) s t log
AnswersIf (Err why) rules moment query order s t log =
    (t ≡ said moment (notification 0 severity.Warning (untaken why)) s) × (log ≡ [])

abbrev pub DoesAction : VerticalAction → Rules → ℤ → RunState → RunState → List ℕ → Type 0
DoesAction actions.Describe rules moment s t log = Describes rules moment s t log
DoesAction (actions.Pong id) rules moment s t log =
    (t ≡ said moment (bodies.CheckAlive (Some pings.Answer) id) s) × (log ≡ [])
DoesAction (actions.Answer query order) rules moment s t log =
    AnswersIf (may_of s.node (inputs.Answer query order)) rules moment query order s t log
DoesAction actions.Nothing rules moment s t log = (t ≡ s) × (log ≡ [])

-- ---- what a message does

abbrev pub with_stands : Bool → RunState → RunState
with_stands stands s = record s { channel = record s.channel { stands = stands } }

abbrev pub DoesRow : Option SupervisedRow → Vertical → Rules → ℤ → RunState → RunState → List ℕ
    → Type 0
DoesRow None body rules moment s t log = BreaksOff rules moment (unexpected (kind_of body)) s t log
DoesRow (Some row) body rules moment s t log =
    DoesAction row.action rules moment (with_stands row.after s) t log

abbrev pub DoesWord : Word → Rules → ℤ → RunState → RunState → List ℕ → Type 0
DoesWord (words.Says message) rules moment s t log =
    DoesRow (supervised_row s.channel.stands message.body) message.body rules moment s t log
DoesWord (words.Wrong text) rules moment s t log = BreaksOff rules moment text s t log

abbrev pub DoesFound : Found → Rules → ℤ → RunState → RunState → List ℕ → Type 0
DoesFound (founds.Word word) rules moment s t log = DoesWord word rules moment s t log
DoesFound founds.More rules moment s t log = (t ≡ s) × (log ≡ [])
DoesFound founds.TooLong rules moment s t log =
    BreaksOff rules moment (codes "message too long") s t log

abbrev pub with_channel : ChannelValue → RunState → RunState
with_channel channel s = record s { channel = channel }

-- THE NEXT OF THE SUPERVISOR'S MESSAGES
pub record DoesHear (rules : Rules) (moment : ℤ) (s t : RunState) (log : List ℕ) : Type 0 where
  pub found : Found
  pub channel : ChannelValue
  pub hears : HearsNext s.channel channel found
  pub does : DoesFound found rules moment (with_channel channel s) t log
