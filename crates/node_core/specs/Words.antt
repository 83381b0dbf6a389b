-- A side hears the frames of a piece of bytes.
use Rattle.std.specs.Prelude.{◌≡◌, ℕ, Bool, true, List, [], ◌∷◌, ◌++◌, Option, Some, None, codes}
use Rattle.line_base.specs.declared.states.Side.{Side}
use Rattle.hermes_stream.specs.Frames.{frames_of, left_of}
use Rattle.hermes_stream.specs.Frames as stream
use Rattle.hermes_stream.specs.Cutter.{GivesFrame, WantsMore, StaysTooLong}
use Rattle.hermes_horizontal.specs.Spelling.{Spells, IsRefused}
use Rattle.hermes_horizontal.specs.Texts.{message_refusal_text}
use Rattle.hermes_horizontal.specs.declared.fault.Fault.{Fault}
use Rattle.hermes_horizontal.specs.declared.message.Message.{Message}
use Rattle.node_core.specs.declared.act.Act.{Act}
use Rattle.node_core.specs.Desk.{Desk}
use Rattle.node_core.specs.declared.lane.Body.{Body}
use Rattle.node_core.specs.declared.word.Word.{Word}
use Rattle.node_core.specs.declared.word.Word.TheVariants as words
use Rattle.node_core.specs.declared.word.Next.{Next}
use Rattle.node_core.specs.declared.word.Next.TheVariants as next
use Rattle.node_core.specs.Done.{Done, stays, and_then}
use Rattle.node_core.specs.Sides.{is_open}
use Rattle.node_core.specs.Session.{breaches}
use Rattle.node_core.specs.Hears.{hears}
use Rattle.node_core.specs.Connect.{if_open}

-- ---- THE LAYER OF BYTES: what a frame means

-- a frame that spells no message: the text of its refusal
pub record IsWrong (frame text : List ℕ) : Type 0 where
  pub at : ℕ
  pub why : Fault
  pub refused : IsRefused frame at why
  pub told : text ≡ message_refusal_text why at
  pub spells_none : (message : Message) → Spells frame message → ⊥

abbrev pub Means : List ℕ → Word → Type 0
Means frame (words.Says message) = Spells frame message
Means frame (words.Wrong text) = IsWrong frame text

abbrev pub too_long : Word
too_long = words.Wrong (codes "message too long")

-- the words are what these frames mean
pub data AreMeant : List (List ℕ) → List Word → Type 0 where
  meant_none : AreMeant [] []
  meant_more : {frame : List ℕ} {frames : List (List ℕ)} {word : Word} {others : List Word}
      → Means frame word → AreMeant frames others → AreMeant (frame ∷ frames) (word ∷ others)

-- the words are what the first of these frames mean; where too many bytes stand behind them
-- without an end, the last word may say so
pub data AreFirst : List (List ℕ) → Option (List ℕ) → List Word → Type 0 where
  first_none : {frames : List (List ℕ)} {rest : Option (List ℕ)} → AreFirst frames rest []
  first_more : {frame : List ℕ} {frames : List (List ℕ)} {rest : Option (List ℕ)} {word : Word}
      {others : List Word} → Means frame word → AreFirst frames rest others
      → AreFirst (frame ∷ frames) rest (word ∷ others)
  first_too_long : AreFirst [] None (too_long ∷ [])

-- the words are what all frames mean, and these bytes are the rest
pub data AreAll : List (List ℕ) → Option (List ℕ) → List Word → List ℕ → Type 0 where
  all_none : {rest : List ℕ} → AreAll [] (Some rest) [] rest
  all_more : {frame : List ℕ} {frames : List (List ℕ)} {rest : Option (List ℕ)} {word : Word}
      {others : List Word} {left : List ℕ} → Means frame word → AreAll frames rest others left
      → AreAll (frame ∷ frames) rest (word ∷ others) left

-- the words of a piece that comes behind undelivered bytes: what the first frames of both mean.
-- Where the side is still open after them they are all, and what follows the frames is undelivered
pub record AreWords (old piece new : List ℕ) (is_open_still : Bool)
    (words : List Word) : Type 0 where
  pub first : AreFirst (frames_of (old ++ piece)).messages (frames_of (old ++ piece)).rest words
  pub all : is_open_still ≡ true
      → AreAll (frames_of (old ++ piece)).messages (frames_of (old ++ piece)).rest words new

-- ---- THE LAYER OF MESSAGES: what a word does

-- THE MICRO EVENT: a side hears a word, that is a message or a breach
abbrev pub word_did : Desk → Side → Word → Body → Done
word_did desk side (words.Says message) body = hears desk side message body
word_did desk side (words.Wrong text) body = breaches desk side text body

-- the words in order, ended by the first close: a side without a connection hears nothing
abbrev pub all_heard : Desk → Side → List Word → Body → Done
all_heard desk side [] body = stays body
all_heard desk side (word ∷ others) body =
    if_open (is_open side body)
    (and_then (word_did desk side word body) (all_heard desk side others)) body

-- ---- what the code does with a piece

-- a frame was taken off what waits, and means this
pub record TakesWord (waiting left : List ℕ) (word : Word) : Type 0 where
  pub frame : List ℕ
  pub gives : GivesFrame waiting frame
  pub behind : left ≡ left_of waiting
  pub means : Means frame word

abbrev pub Finds : List ℕ → List ℕ → Next → Type 0
Finds waiting left (next.Word word) = TakesWord waiting left word
Finds waiting left next.More = WantsMore waiting × (left ≡ left_of waiting)
Finds waiting left next.TooLong = StaysTooLong waiting × (left ≡ waiting)

pub record HearsPiece (desk : Desk) (side : Side) (old piece new : List ℕ) (before after : Body)
    (told now : List Act) : Type 0 where
  pub words : List Word
  pub are : AreWords old piece new (is_open side after) words
  pub body : after ≡ (all_heard desk side words before).body
  pub acts : now ≡ told ++ (all_heard desk side words before).acts

-- as far as it has come: whatever words follow
pub record IsHearing (desk : Desk) (side : Side) (old front waiting : List ℕ) (before now : Body)
    (told acts : List Act) : Type 0 where
  pub words : List Word
  pub frames : List (List ℕ)
  pub means : AreMeant frames words
  pub cut : (later : List ℕ)
      → frames_of (old ++ (front ++ later)) ≡ stream.behind frames (frames_of (waiting ++ later))
  pub body : (more : List Word)
      → (all_heard desk side (words ++ more) before).body ≡ (all_heard desk side more now).body
  pub heard : (more : List Word) → told ++ (all_heard desk side (words ++ more) before).acts ≡ acts
      ++ (all_heard desk side more now).acts
