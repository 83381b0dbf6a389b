-- What `read` does with a stream.
use Rattle.std.specs.Prelude.{◌≡◌, ◌≤◌, ◌<◌, ◌++◌, ℕ, Bool, true, false, List, [], Option, Some, None, length}
use Rattle.line_outside.specs.Faults.{Rose}
use Rattle.line_outside.specs.Sink.{Grows, GrowsInPart}
use Rattle.hermes_stream.specs.Frames.{frames_of, behind}
use Rattle.stream_text.specs.ReadText.{AreFrameLines, IsReadText, BeginsReadText, most_read, ending_text}
use Rattle.stream_text.specs.declared.stream_reader.Progress.{Progress}
use Rattle.line_status.specs.declared.status.Status.{Status}
use Rattle.line_status.specs.declared.status.Status.TheVariants as statuses
use Rattle.line_status.specs.declared.status.InputWhy.TheVariants as inputs

-- the whole read text was written, or a front of it
pub record WritesReadText (stream : List ℕ) (old new : Option (List ℕ)) : Type 0 where
  pub text : List ℕ
  pub is : IsReadText stream text
  pub grows : Grows old new text

pub record WritesFront (stream : List ℕ) (old new : Option (List ℕ)) : Type 0 where
  pub text : List ℕ
  pub begins : BeginsReadText stream text
  pub grows : Grows old new text

-- what `read` did with a stream: what is left of it, and how the sink's contents grew
abbrev pub ReadsStream : List ℕ → Option (List ℕ) → Option (List ℕ) → Option (List ℕ) → Status
    → Type 0
ReadsStream stream left old new statuses.Done =
    (length stream ≤ most_read) × WritesReadText stream old new × (left ≡ Some [])
ReadsStream stream left old new statuses.Usage = ⊥
ReadsStream stream left old new (statuses.ScriptRefused line why) =
    (line ≡ 0) × (why ≡ inputs.TooLarge) × (most_read < length stream)
    × WritesReadText stream old new
ReadsStream stream left old new statuses.ReadFault = WritesFront stream old new
ReadsStream stream left old new statuses.WriteFault = WritesFront stream old new
ReadsStream stream left old new statuses.Memory = WritesFront stream old new
ReadsStream stream left old new statuses.Unvouched = ⊥
ReadsStream stream left old new (statuses.Refuted line why) = ⊥

-- the same, where the source tells its bytes
abbrev pub Reads : Option (List ℕ) → Option (List ℕ) → Option (List ℕ) → Option (List ℕ) → Status
    → Type 0
Reads None left old new status = Unit {0}
Reads (Some stream) left old new status = ReadsStream stream left old new status

-- WHILE THE READING GOES ON: the lines of the frames before, pushed and waiting
pub record IsReading (stream rest : List ℕ) (old now : Option (List ℕ)) (waiting : List ℕ)
    (far : Progress) (text : List ℕ) : Type 0 where
  pub before : List ℕ
  pub parts : before ++ rest ≡ stream
  pub counted : length before ≡ far.taken
  pub shown : List ℕ
  pub grows : Grows old now shown
  pub frames : List (List ℕ)
  pub done : far.done ≡ length frames
  pub cut : (later : List ℕ)
      → frames_of (before ++ later) ≡ behind frames (frames_of (waiting ++ later))
  pub told : AreFrameLines 1 frames (shown ++ text)

abbrev pub ReadsOn : Option (List ℕ) → Option (List ℕ) → Option (List ℕ) → Option (List ℕ) → List ℕ
    → Progress → List ℕ → Type 0
ReadsOn None left old now waiting far text = Unit {0}
ReadsOn (Some stream) None old now waiting far text = ⊥
ReadsOn (Some stream) (Some rest) old now waiting far text =
    IsReading stream rest old now waiting far text

-- how a reading ends
abbrev pub EndsRead : Progress → ℕ → Bool → Option (List ℕ) → Option (List ℕ) → ℕ → ℕ → List ℕ
    → Status → Type 0
EndsRead far waiting large old new before now text statuses.Done =
    (large ≡ false) × (before ≤ now)
    × Grows old new (text ++ ending_text far.done far.too_long waiting large)
EndsRead far waiting large old new before now text (statuses.ScriptRefused line why) =
    (large ≡ true) × (line ≡ 0) × (why ≡ inputs.TooLarge) × (before ≤ now)
    × Grows old new (text ++ ending_text far.done far.too_long waiting large)
EndsRead far waiting large old new before now text statuses.WriteFault =
    (before ≤ now) × Rose before now
    × GrowsInPart old new (text ++ ending_text far.done far.too_long waiting large)
EndsRead far waiting large old new before now text statuses.Memory = (before ≤ now) × (new ≡ old)
EndsRead far waiting large old new before now text _ = ⊥

-- whatever the source tells, what `read` may answer: a stream is refused for its size alone
abbrev pub IsReadStatus : Status → Type 0
IsReadStatus statuses.Done = Unit {0}
IsReadStatus statuses.Usage = ⊥
IsReadStatus (statuses.ScriptRefused line (inputs.Line why)) = ⊥
IsReadStatus (statuses.ScriptRefused line inputs.TooLarge) = line ≡ 0
IsReadStatus statuses.ReadFault = Unit {0}
IsReadStatus statuses.WriteFault = Unit {0}
IsReadStatus statuses.Memory = Unit {0}
IsReadStatus statuses.Unvouched = ⊥
IsReadStatus (statuses.Refuted line why) = ⊥
