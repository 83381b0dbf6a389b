-- Messages whose texts flow on a link, and what a side hears of them.
use Rattle.std.specs.Prelude.{Bool, List, [], drop, length, true, ℕ, ◌∷◌, ◌≡◌}
use Rattle.hermes_stream.specs.Frames.{IsOneFrame}
use Rattle.hermes_horizontal.specs.Canonical.{canonical}
use Rattle.hermes_horizontal.specs.Spelling.{Spells}
use Rattle.hermes_horizontal.specs.declared.message.Horizontal.{Horizontal}
use Rattle.hermes_horizontal.specs.declared.message.Message.{Message}
use Rattle.node_core.specs.declared.word.Word.{Word}
use Rattle.law_custody.specs.Bytes.{Flows, Spoiled, texts_of}
use Rattle.law_machine_custody.specs.Flight.{AreOldest}

-- a message whose text is one frame of a stream, and means that message alone
pub record IsSayable (message : Message) : Type 0 where
  pub one : IsOneFrame (canonical message)
  pub spells : Spells (canonical message) message

pub data AreSayable : List Message → Type 0 where
  none_sayable : AreSayable []
  more_sayable : {message : Message} {messages : List Message} → IsSayable message
      → AreSayable messages → AreSayable (message ∷ messages)

-- what messages say, without their moments
abbrev pub bodies : List Message → List Horizontal
bodies [] = []
bodies (message ∷ messages) = message.body ∷ bodies messages

-- a piece is heard: its words are the oldest of the messages, and where the side is open still,
-- the others flow on
pub record Heard (messages : List Message) (words : List Word) (new coming : List ℕ)
    (still : Bool) : Type 0 where
  pub oldest : AreOldest words (bodies messages)
  pub sayable : AreSayable (drop (length words) messages)
  pub flows : still ≡ true → Flows new coming (texts_of (drop (length words) messages))

-- a piece is heard behind a NUL: its words are the oldest of any messages, since the first of them
-- is wrong; and where the side is open still and there was none, the NUL waits or comes
pub record HeardSpoiled (messages : List Horizontal) (words : List Word) (new coming : List ℕ)
    (still : Bool) : Type 0 where
  pub oldest : AreOldest words messages
  pub spoiled : still ≡ true → words ≡ [] → Spoiled new coming
