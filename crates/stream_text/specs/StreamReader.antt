use Rattle.std.specs.Prelude.{◌≡◌, ◌+◌, ◌≤◌, ◌++◌, ℕ, Bool, List, [], Some, None, MatchBool, length}
use Rattle.hermes_stream.specs.Frames.{frames_of, behind}
use Rattle.stream_text.specs.ReadText.{IsFrameLine, AreFrameLines}
use Rattle.stream_text.specs.declared.stream_reader.Taken.{Taken}
use Rattle.stream_text.specs.declared.stream_reader.Progress.{Progress}

-- a line was written for a frame
pub record WritesLine (number : ℕ) (frame before now : List ℕ) : Type 0 where
  pub line : List ℕ
  pub told : IsFrameLine number frame line
  pub written : now ≡ before ++ line

-- some frames were taken off, whatever follows, and their lines written
pub record TakesFrames (old new bytes : List ℕ) (done count : ℕ)
    (before now : List ℕ) : Type 0 where
  pub frames : List (List ℕ)
  pub lines : List ℕ
  pub cut : (later : List ℕ)
      → frames_of (old ++ (bytes ++ later)) ≡ behind frames (frames_of (new ++ later))
  pub counted : count ≡ done + length frames
  pub told : AreFrameLines (done + 1) frames lines
  pub written : now ≡ before ++ lines

-- no frame stands in what waits: it is a rest, or too long whatever follows
abbrev pub IsRest : List ℕ → Type 0
IsRest waiting = frames_of waiting ≡ record { messages = []; rest = Some waiting }

abbrev pub IsTooLong : List ℕ → Type 0
IsTooLong waiting =
    (later : List ℕ) → frames_of (waiting ++ later) ≡ record { messages = []; rest = None }

abbrev pub IsOver : Bool → List ℕ → Type 0
IsOver too_long waiting = MatchBool too_long (IsTooLong waiting) (IsRest waiting)

-- a piece is taken whole
pub record TakesPiece (old new piece : List ℕ) (done : ℕ) (taken : Taken)
    (before now : List ℕ) : Type 0 where
  pub frames : TakesFrames old new piece done taken.done before now
  pub over : IsOver taken.too_long new
  pub bounded : taken.done + length new ≤ done + length old + length piece

-- a piece is taken whole, or passed over behind too many bytes without an end
pub record TakesSome (old new piece : List ℕ) (far now_far : Progress)
    (before now : List ℕ) : Type 0 where
  pub frames : TakesFrames old new piece far.done now_far.done before now
  pub over : IsOver now_far.too_long new
  pub taken : now_far.taken ≡ far.taken + length piece
  pub bounded : now_far.done + length new ≤ now_far.taken
