-- What the outlet of a link hears and what its intake hears: the messages that decide about a
-- handover, as words.
use Rattle.std.specs.Prelude.{Bool, List, None, Option, Some, [], false, true, ℕ, ◌++◌, ◌∷◌}
use Rattle.line_base.specs.declared.states.SensorEvent.{SensorEvent}
use Rattle.line_base.specs.declared.states.Side.{Side}
use Rattle.line_base.specs.declared.states.Side.TheVariants as sides
use Rattle.line_base.specs.declared.states.Transfer.{Transfer}
use Rattle.board_record.specs.declared.record.Record.{Record}
use Rattle.board_record.specs.declared.sensed.Sensed.{Sensed}
use Rattle.hermes_horizontal.specs.declared.message.Horizontal.{Horizontal}
use Rattle.hermes_horizontal.specs.declared.message.Horizontal.TheVariants as message
use Rattle.handover_out.specs.declared.act.OutSend.{OutSend}
use Rattle.handover_out.specs.declared.act.OutSend.TheVariants as out_sends
use Rattle.handover_in.specs.declared.act.InSend.{InSend}
use Rattle.handover_in.specs.declared.act.InSend.TheVariants as in_sends

-- a word to the outlet, from the downstream machine. What a StopTransport says of the transfer
-- decides nothing there, so it is no part of the word
pub data UpWord : Type 0 where
  MachineReady : UpWord
  RevokeMachineReady : UpWord
  StartTransport : ℕ → UpWord
  StopTransport : ℕ → UpWord
  DownstreamService : UpWord

-- a word to the intake, from the upstream machine
pub data DownWord : Type 0 where
  BoardAvailable : Record → DownWord
  RevokeBoardAvailable : DownWord
  TransportFinished : Transfer → ℕ → DownWord
  UpstreamService : DownWord

-- the words of messages, in order. CheckAlive, Notification and whatever neither half takes are no
-- words
abbrev pub before_up : Horizontal → List UpWord → List UpWord
before_up (message.MachineReady _) ws = MachineReady ∷ ws
before_up message.RevokeMachineReady ws = RevokeMachineReady ∷ ws
before_up (message.StartTransport id) ws = StartTransport id ∷ ws
before_up (message.StopTransport _ id) ws = StopTransport id ∷ ws
before_up (message.ServiceDescription _) ws = DownstreamService ∷ ws
before_up _ ws = ws

abbrev pub up_words : List Horizontal → List UpWord
up_words [] = []
up_words (m ∷ ms) = before_up m (up_words ms)

abbrev pub before_down : Horizontal → List DownWord → List DownWord
before_down (message.BoardAvailable board) ws = BoardAvailable board ∷ ws
before_down message.RevokeBoardAvailable ws = RevokeBoardAvailable ∷ ws
before_down (message.TransportFinished state id) ws = TransportFinished state id ∷ ws
before_down (message.ServiceDescription _) ws = UpstreamService ∷ ws
before_down _ ws = ws

abbrev pub down_words : List Horizontal → List DownWord
down_words [] = []
down_words (m ∷ ms) = before_down m (down_words ms)

-- what an outlet says. BoardAvailable tells of the front of the kept boards
abbrev pub out_says : Option OutSend → Option Record → List DownWord
out_says None _ = []
out_says (Some out_sends.RevokeBoardAvailable) _ = RevokeBoardAvailable ∷ []
out_says (Some (out_sends.Finished state id)) _ = TransportFinished state id ∷ []
out_says (Some out_sends.BoardAvailable) (Some board) = BoardAvailable board ∷ []
out_says (Some out_sends.BoardAvailable) None = []

-- what an intake says
abbrev pub in_says : Option InSend → List UpWord
in_says (Some in_sends.MachineReady) = MachineReady ∷ []
in_says (Some in_sends.RevokeMachineReady) = RevokeMachineReady ∷ []
in_says (Some (in_sends.Start id)) = StartTransport id ∷ []
in_says (Some (in_sends.Stop _ id)) = StopTransport id ∷ []
in_says None = []

-- what is said goes behind what is in flight, where the link stands, and else it vanishes. The
-- first case is about what is said, so that nothing said is nothing changed on any link
abbrev pub sent : {A : Type 0} → List A → Bool → List A → List A
sent [] _ ws = ws
sent (x ∷ xs) true ws = ws ++ (x ∷ xs)
sent (x ∷ xs) false ws = ws

-- the starts among the words to an outlet
abbrev pub starts_in : List UpWord → List ℕ
starts_in [] = []
starts_in (StartTransport id ∷ ws) = id ∷ starts_in ws
starts_in (MachineReady ∷ ws) = starts_in ws
starts_in (RevokeMachineReady ∷ ws) = starts_in ws
starts_in (StopTransport _ ∷ ws) = starts_in ws
starts_in (DownstreamService ∷ ws) = starts_in ws

-- the unread sensor events of one side of a machine, in order
abbrev pub before_event : Side → Side → SensorEvent → List SensorEvent → List SensorEvent
before_event sides.Exit sides.Exit e es = e ∷ es
before_event sides.Entry sides.Entry e es = e ∷ es
before_event _ _ e es = es

abbrev pub events_at : Side → List Sensed → List SensorEvent
events_at side [] = []
events_at side (s ∷ ss) = before_event side s.side s.event (events_at side ss)
