-- The bytes of one direction of a link, and the texts that they still come to.
use Rattle.std.specs.Prelude.{List, Some, [], ℕ, ◌++◌, ◌∷◌, ◌≡◌}
use Rattle.hermes_horizontal.specs.Canonical.{canonical}
use Rattle.hermes_horizontal.specs.Spelling.{IsRefusedBy}
use Rattle.hermes_horizontal.specs.declared.message.Message.{Message}
use Rattle.hermes_stream.specs.Frames.{NeedMore, answer_of, frames_of, left_of}

-- `waiting` are the bytes at the receiver, `coming` those that have not arrived: together they are
-- these texts, whole
pub record Flows (waiting coming : List ℕ) (texts : List (List ℕ)) : Type 0 where
  pub frames : frames_of (waiting ++ coming) ≡ record { messages = texts; rest = Some [] }

-- a frame is cut: it is the first of the texts, and the others are still to come
pub record Next (waiting coming : List ℕ) (texts : List (List ℕ)) (f : List ℕ) : Type 0 where
  pub later : List (List ℕ)
  pub first : texts ≡ f ∷ later
  pub flows : Flows (left_of waiting) coming later

-- a NUL is among these bytes
pub record HasNul (bytes : List ℕ) : Type 0 where
  pub front : List ℕ
  pub rest : List ℕ
  pub is : bytes ≡ front ++ (0 ∷ rest)

-- a NUL stands behind bytes that come to no frame, whatever follows: so it is in the next frame,
-- if there is one
pub record Spoiled (waiting coming : List ℕ) : Type 0 where
  pub front : List ℕ
  pub rest : List ℕ
  pub none : answer_of front ≡ NeedMore
  pub same : (later : List ℕ)
      → frames_of (waiting ++ (coming ++ later)) ≡ frames_of (front ++ (0 ∷ (rest ++ later)))

-- the texts of messages, in their order
abbrev pub texts_of : List Message → List (List ℕ)
texts_of [] = []
texts_of (message ∷ messages) = canonical message ∷ texts_of messages

-- a frame is cut: it is the text of the first message that was not heard, and the others are still
-- to come
pub record NextMessage (waiting coming : List ℕ) (messages : List Message)
    (f : List ℕ) : Type 0 where
  pub heard : Message
  pub later : List Message
  pub are : messages ≡ heard ∷ later
  pub text : f ≡ canonical heard
  pub flows : Flows (left_of waiting) coming (texts_of later)

-- a frame spells no message: it is refused, at an index of at most this
pub record IsRefusedFrame (f : List ℕ) : Type 0 where
  pub most : ℕ
  pub refused : IsRefusedBy f most
