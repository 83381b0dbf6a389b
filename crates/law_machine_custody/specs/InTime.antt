-- What a machine has read of what its sensors saw as it takes an input before it has read all.
use Rattle.std.specs.Prelude.{List, [], ℕ, ◌∷◌, ◌≡◌}
use Rattle.line_base.specs.declared.states.SensorEvent.TheVariants as event
use Rattle.line_base.specs.declared.states.Side.{Side}
use Rattle.line_base.specs.declared.states.Side.TheVariants.{Entry, Exit}
use Rattle.board_record.specs.declared.sensed.Sensed.{Sensed}
use Rattle.hermes_horizontal.specs.declared.message.Horizontal.{Horizontal}
use Rattle.hermes_horizontal.specs.declared.message.Horizontal.TheVariants as message
use Rattle.hermes_horizontal.specs.declared.message.Message.{Message}
use Rattle.node_core.specs.Event.{Event, Words}
use Rattle.node_core.specs.declared.word.Word.{Word}
use Rattle.node_core.specs.declared.word.Word.TheVariants as words
use Rattle.law_custody.specs.Facts.{Has}
use Rattle.law_custody.specs.Pair.{Ghost}
use Rattle.law_custody.specs.Unread.{IsEndRead}
use Rattle.law_custody.specs.Words.{events_at}
use Rattle.law_machine_custody.specs.Good.{ReadsFirst}

-- a machine that has these events unread has read that its board has begun at its exit, where it
-- did, and that the board at its entry begins, where that has gone across
pub record IsReadEnough (unread : List Sensed) (ga : Ghost) : Type 0 where
  pub entry : ReadsFirst unread ga
  pub begun : Has event.Begun (events_at Exit unread) → ⊥

-- of what a side's sensor saw all is read before the side hears a start, the upstream machine's
-- description, or the end of a transfer that isn't complete
abbrev pub IsInTime : Side → Horizontal → List Sensed → Type 0
IsInTime Entry (message.ServiceDescription service) unread = events_at Entry unread ≡ []
IsInTime Entry (message.TransportFinished state id) unread =
    IsEndRead state (events_at Entry unread)
IsInTime Exit (message.StartTransport id) unread = events_at Exit unread ≡ []
IsInTime _ _ unread = Unit {0}

pub data AreInTime (side : Side) (unread : List Sensed) : List Word → Type 0 where
  none_in_time : AreInTime side unread []
  says_in_time : {message : Message} {others : List Word} → IsInTime side message.body unread
      → AreInTime side unread others → AreInTime side unread (words.Says message ∷ others)
  wrong_in_time : {text : List ℕ} {others : List Word}
      → AreInTime side unread (words.Wrong text ∷ others)

-- what befalls a machine is taken in time: the words that it hears are
abbrev pub IsMetInTime : Event → List Sensed → Type 0
IsMetInTime (Words side words) unread = AreInTime side unread words
IsMetInTime _ unread = Unit {0}
