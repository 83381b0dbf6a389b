-- What a cutter answers and keeps, and what all its answers come to.
use Rattle.std.specs.Prelude.{◌≡◌, ℕ, ◌+◌, ◌-◌, ◌<◌, ◌≤◌, List, [], ◌∷◌, ◌++◌, None, Some, length, take, min}
use Rattle.hermes_stream.specs.Frames.{Answer, Frame, NeedMore, TooLong, most_bytes, answer_of, left_of, frames_of, behind}
use Rattle.hermes_stream.specs.declared.cutter.Cut.{Cut}
use Rattle.hermes_stream.specs.declared.cutter.Cut.TheVariants as cut

-- an answer of the call as its caller reads it
abbrev pub answered : Cut → Answer
answered (cut.Frame frame) = Frame frame.now
answered cut.NeedMore = NeedMore
answered cut.TooLong = TooLong

-- the bytes of a piece that there is room for
abbrev pub taken_of : List ℕ → List ℕ → List ℕ
taken_of waiting piece = take (min (length piece) (most_bytes - length waiting)) piece

-- a message stands at the front of the bytes that wait: it is the first of the stream, whatever
-- follows, and it leaves fewer bytes
pub record GivesFrame (waiting message : List ℕ) : Type 0 where
  pub frames : (later : List ℕ)
      → frames_of (waiting ++ later) ≡ behind (message ∷ []) (frames_of (left_of waiting ++ later))
  pub nine : 9 ≤ length message
  pub short : length message ≤ most_bytes
  pub fewer : length message + length (left_of waiting) ≤ length waiting

-- the bytes that wait end a stream as its rest, and there is room for more of them
pub record WantsMore (waiting : List ℕ) : Type 0 where
  pub rest : frames_of waiting ≡ record { messages = []; rest = Some (left_of waiting) }
  pub frames : (later : List ℕ)
      → frames_of (waiting ++ later) ≡ frames_of (left_of waiting ++ later)
  pub room : length (left_of waiting) < most_bytes
  pub fewer : length (left_of waiting) ≤ length waiting

-- too many bytes wait, whatever follows, and all of them stay
pub record StaysTooLong (waiting : List ℕ) : Type 0 where
  pub frames : (later : List ℕ)
      → frames_of (waiting ++ later) ≡ record { messages = []; rest = None }
  pub full : length waiting ≡ most_bytes
  pub stays : left_of waiting ≡ waiting

-- what an answer says of the whole stream
abbrev pub Tells : List ℕ → Answer → Type 0
Tells waiting (Frame message) = GivesFrame waiting message
Tells waiting NeedMore = WantsMore waiting
Tells waiting TooLong = StaysTooLong waiting

-- a call of a cutter
pub data Call : Type 0 where
  Feed : List ℕ → Call
  Next : Call

-- the bytes that wait after some calls
abbrev pub waiting_after : List ℕ → List Call → List ℕ
waiting_after waiting [] = waiting
waiting_after waiting (Feed piece ∷ calls) =
    waiting_after (waiting ++ taken_of waiting piece) calls
waiting_after waiting (Next ∷ calls) = waiting_after (left_of waiting) calls

-- the bytes that some calls took
abbrev pub bytes_taken : List ℕ → List Call → List ℕ
bytes_taken waiting [] = []
bytes_taken waiting (Feed piece ∷ calls) =
    taken_of waiting piece ++ bytes_taken (waiting ++ taken_of waiting piece) calls
bytes_taken waiting (Next ∷ calls) = bytes_taken (left_of waiting) calls

-- the frame of an answer, if it has one
abbrev pub frame_in : Answer → List (List ℕ)
frame_in (Frame message) = message ∷ []
frame_in NeedMore = []
frame_in TooLong = []

-- the frames that some calls gave
abbrev pub frames_given : List ℕ → List Call → List (List ℕ)
frames_given waiting [] = []
frames_given waiting (Feed piece ∷ calls) = frames_given (waiting ++ taken_of waiting piece) calls
frames_given waiting (Next ∷ calls) =
    frame_in (answer_of waiting) ++ frames_given (left_of waiting) calls

-- every list of calls of a new cutter cuts its stream exactly
pub record CutsExactly : Type 0 where
  -- the frames given are the first frames of all the bytes taken, whatever follows them
  pub frames : (calls : List Call) (later : List ℕ)
      → frames_of (bytes_taken [] calls ++ later)
      ≡ behind (frames_given [] calls) (frames_of (waiting_after [] calls ++ later))
  -- at most the bytes of one message wait
  pub bounded : (calls : List Call) → length (waiting_after [] calls) ≤ most_bytes
  -- what is too long stays so for good
  pub for_good : (calls more : List Call) → answer_of (waiting_after [] calls) ≡ TooLong
      → waiting_after [] (calls ++ more) ≡ waiting_after [] calls
