-- The supervisor's channel at a machine: the bytes that came, cut into frames, and whether its
-- session stands.
use Rattle.std.specs.Prelude.{◌≡◌, ◌-◌, ◌≤◌, ℕ, Bool, true, false, List, [], ◌∷◌, ◌++◌, drop, length, min, not}
use Rattle.hermes_stream.specs.Cutter.{GivesFrame, StaysTooLong, WantsMore, taken_of}
use Rattle.hermes_stream.specs.Frames.{left_of, most_bytes}
use Rattle.hermes_horizontal.specs.Texts.{message_refusal_text}
use Rattle.hermes_horizontal.specs.declared.fault.Fault.{Fault}
use Rattle.hermes_vertical.specs.Spelling.{IsRefused, Spells}
use Rattle.hermes_vertical.specs.declared.message.VerticalMessage.{VerticalMessage}
use Rattle.supervised_end.specs.declared.channel.Found.{Found}
use Rattle.supervised_end.specs.declared.channel.Found.TheVariants as founds
use Rattle.supervised_end.specs.declared.channel.Word.{Word}
use Rattle.supervised_end.specs.declared.channel.Word.TheVariants as words

abbrev pub is_empty : List ℕ → Bool
is_empty [] = true
is_empty (byte ∷ bytes) = false

-- the bytes that wait for the end of a message, those of the present answer behind them, whether
-- these are being heard, and whether the session stands
pub record ChannelValue : Type 0 where
  pub waiting : List ℕ
  pub piece : List ℕ
  pub hears : Bool
  pub stands : Bool

-- that of a new connection, and where there is none
abbrev pub no_session : ChannelValue
no_session = record { waiting = []; piece = []; hears = false; stands = false }

-- no more waits than a message may have, and no more came than an answer gives
pub record IsShort (channel : ChannelValue) : Type 0 where
  pub waiting : length channel.waiting ≤ 65536
  pub piece : length channel.piece ≤ 4096

-- the first bytes of the answer go behind those that wait, as many as there is room for
abbrev pub room_of : ChannelValue → ℕ
room_of channel = min (length channel.piece) (most_bytes - length channel.waiting)

abbrev pub fed : ChannelValue → ChannelValue
fed channel = record channel {
  waiting = channel.waiting ++ taken_of channel.waiting channel.piece;
  piece = drop (room_of channel) channel.piece;
}

abbrev pub cut : ChannelValue → ChannelValue
cut channel = record channel { waiting = left_of channel.waiting }

-- ---- what a frame means

-- a frame that spells no message: the text of its refusal
pub record IsWrong (frame text : List ℕ) : Type 0 where
  pub at : ℕ
  pub why : Fault
  pub refused : IsRefused frame at why
  pub told : text ≡ message_refusal_text why at
  pub spells_none : (message : VerticalMessage) → Spells frame message → ⊥

abbrev pub Means : List ℕ → Word → Type 0
Means frame (words.Says message) = Spells frame message
Means frame (words.Wrong text) = IsWrong frame text

-- ---- what is found at the front of the bytes

-- a frame was taken off what waits, and means this
pub record TakesWord (waiting left : List ℕ) (word : Word) : Type 0 where
  pub frame : List ℕ
  pub gives : GivesFrame waiting frame
  pub behind : left ≡ left_of waiting
  pub means : Means frame word

-- a message; no end of one, and room for more; or as many bytes as a message may have, and no end
abbrev pub Finds : List ℕ → List ℕ → Found → Type 0
Finds waiting left (founds.Word word) = TakesWord waiting left word
Finds waiting left founds.More = WantsMore waiting × (left ≡ left_of waiting)
Finds waiting left founds.TooLong = StaysTooLong waiting × (left ≡ waiting)

-- it goes on being heard, unless no end waits and all bytes of the answer are among those that
-- wait
abbrev pub hears_behind : Found → List ℕ → Bool → Bool
hears_behind founds.More piece hears = not (is_empty piece)
hears_behind (founds.Word word) piece hears = hears
hears_behind founds.TooLong piece hears = hears

-- THE NEXT OF THE BYTES THAT CAME
pub record HearsNext (old new : ChannelValue) (found : Found) : Type 0 where
  pub finds : Finds (fed old).waiting new.waiting found
  pub piece : new.piece ≡ (fed old).piece
  pub hears : new.hears ≡ hears_behind found (fed old).piece old.hears
  pub stands : new.stands ≡ old.stands
