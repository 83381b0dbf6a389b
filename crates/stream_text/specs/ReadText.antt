use Rattle.std.specs.Prelude.{◌≡◌, ◌⊎◌, ◌+◌, ◌++◌, ℕ, Bool, true, false, List, [], ◌∷◌, Option, Some, None, codes, length, nat_lt, take}
use Rattle.std.specs.Fmt.{decimal}
use Rattle.hermes_stream.specs.Frames.{frames_of}
use Rattle.hermes_horizontal.specs.Spelling.{Spells, IsRefused}
use Rattle.hermes_horizontal.specs.Canonical.{canonical}
use Rattle.hermes_horizontal.specs.Texts.{message_refusal_text}
use Rattle.hermes_horizontal.specs.declared.fault.Fault.{Fault}
use Rattle.hermes_horizontal.specs.declared.message.Horizontal.{Horizontal}
use Rattle.hermes_horizontal.specs.declared.message.Horizontal.TheVariants as bodies
use Rattle.hermes_horizontal.specs.declared.message.Message.{Message}

-- the most bytes that are read of a stream
abbrev pub most_read : ℕ
most_read = 1073741824

-- one line of what is read of a stream
abbrev pub entry : ℕ → List ℕ → List ℕ
entry number text = decimal number ++ codes " " ++ text ++ codes "\n"

-- what is written of a message: its canonical spelling, or `other` and its name
abbrev pub body_text : Message → Horizontal → List ℕ
body_text message (bodies.Other name) = codes "other " ++ name
body_text message _ = canonical message

abbrev pub message_text : Message → List ℕ
message_text message = body_text message message.body

-- the line of a frame that spells a message, and of one that is refused
pub record IsMessageLine (number : ℕ) (frame text : List ℕ) : Type 0 where
  pub message : Message
  pub spelled : Spells frame message
  pub written : text ≡ entry number (message_text message)

pub record IsRefusalLine (number : ℕ) (frame text : List ℕ) : Type 0 where
  pub at : ℕ
  pub why : Fault
  pub refused : IsRefused frame at why
  pub written : text ≡ entry number (codes "refused: " ++ message_refusal_text why at)

abbrev pub IsFrameLine : ℕ → List ℕ → List ℕ → Type 0
IsFrameLine number frame text = IsMessageLine number frame text ⊎ IsRefusalLine number frame text

-- the lines of frames, numbered on
abbrev pub AreFrameLines : ℕ → List (List ℕ) → List ℕ → Type 0
AreFrameLines number [] text = text ≡ []
AreFrameLines number (frame ∷ frames) text =
    (line : List ℕ) × (others : List ℕ) × IsFrameLine number frame line
    × AreFrameLines (number + 1) frames others × (text ≡ line ++ others)

abbrev pub too_large_text : List ℕ
too_large_text = codes "refused 0: too large\n"

-- what stands behind the lines of the frames: that too many bytes stand without an end, and how
-- many messages there were, with the bytes that wait; or that the input is too large
abbrev pub long_text : ℕ → Bool → List ℕ
long_text count true = entry (count + 1) (codes "too long")
long_text count false = []

abbrev pub end_text : ℕ → Bool → ℕ → Bool → List ℕ
end_text count too_long waiting true = too_large_text
end_text count true waiting false = codes "end messages=" ++ decimal count ++ codes "\n"
end_text count false waiting false =
    codes "end messages=" ++ decimal count ++ codes " rest=" ++ decimal waiting ++ codes "\n"

abbrev pub ending_text : ℕ → Bool → ℕ → Bool → List ℕ
ending_text count too_long waiting large =
    long_text count too_long ++ end_text count too_long waiting large

abbrev pub read_ending : ℕ → Option (List ℕ) → Bool → List ℕ
read_ending count None large = ending_text count true 0 large
read_ending count (Some rest) large = ending_text count false (length rest) large

-- THE READ TEXT of a stream's bytes
pub record IsReadText (bytes text : List ℕ) : Type 0 where
  pub lines : List ℕ
  pub told : AreFrameLines 1 (frames_of (take most_read bytes)).messages lines
  pub whole : text ≡ lines
      ++ read_ending (length (frames_of (take most_read bytes)).messages)
      (frames_of (take most_read bytes)).rest (nat_lt most_read (length bytes))

-- what a read text begins with: a front of the read text that the stream has, and nothing else
pub record BeginsReadText (bytes text : List ℕ) : Type 0 where
  pub rest : List ℕ
  pub whole : IsReadText bytes (text ++ rest)

-- a stream has a read text, and no other text is one
pub record HasOneReadText (bytes : List ℕ) : Type 0 where
  pub text : List ℕ
  pub is : IsReadText bytes text
  pub only : (other : List ℕ) → IsReadText bytes other → other ≡ text

-- THE LAW: whatever the bytes of a stream are
abbrev pub EachStreamHasOneReadText : Type 0
EachStreamHasOneReadText = (bytes : List ℕ) → HasOneReadText bytes
