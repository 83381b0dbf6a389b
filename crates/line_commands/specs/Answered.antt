-- EACH INPUT HAS ONE ANSWER: that of the words and of the bytes that the source tells, unless a
-- count of faults rose, or memory was wanting.
use Rattle.std.specs.Prelude.{◌≡◌, ℕ, Bool, true, false, List, Option, Some, None, if◌then◌else◌, length, nat_lt}
use Rattle.std.specs.Str.Lines.{lines}
use Rattle.line_check.specs.Log.{Against, against}
use Rattle.line_outside.specs.Faults.{Rises}
use Rattle.law_lanes.specs.Lanes.{no_lanes}
use Rattle.law_lanes.specs.Parts.{IsLaneRun, LanePoint, all_points}
use Rattle.law_lanes.specs.Views.{has_lie_on}
use Rattle.line_commands.specs.Command.{status_of}
use Rattle.stream_text.specs.ReadText.{most_read}
use Rattle.line_commands.specs.Script.{script_of}
use Rattle.line_status.specs.declared.status.InputWhy.TheVariants as inputs
use Rattle.line_status.specs.declared.status.Status.{Status}
use Rattle.line_status.specs.declared.status.Status.TheVariants as statuses

-- the answer of a script: its first refusal, and else whether a line told what was not so
pub record IsScriptAnswer (script : List ℕ) (status : Status) : Type 0 where
  pub done : List (List LanePoint)
  pub run : IsLaneRun no_lanes (script_of script).lines done
  pub ends : status ≡ status_of (script_of script).refusal (has_lie_on (all_points done))

-- of a stream: whether it is too large
abbrev pub stream_answer : List ℕ → Status
stream_answer stream =
    if nat_lt most_read (length stream) then statuses.ScriptRefused 0 inputs.TooLarge else
    statuses.Done

-- of a merged log: the first reason against it
abbrev pub log_answer : Option Against → Status
log_answer None = statuses.Done
log_answer (Some reason) = statuses.Refuted reason.line reason.why

-- THE ANSWER of words and bytes: whether the words are `run`, whether they are `read`, whether they
-- are `check`, and the number behind `make`
abbrev pub IsAnswer : Bool → Bool → Bool → Option ℕ → List ℕ → Status → Type 0
IsAnswer true reads checks made bytes status = IsScriptAnswer bytes status
IsAnswer false true checks made bytes status = status ≡ stream_answer bytes
IsAnswer false false true made bytes status = status ≡ log_answer (against (lines bytes))
IsAnswer false false false (Some number) bytes status = status ≡ statuses.Done
IsAnswer false false false None bytes status = status ≡ statuses.Usage

-- what is answered: that answer, or in its place a fault of the source or of the sink, whose count
-- rose, or want of memory
pub data Answers (Answer : Status → Type 0) (reads_before reads_now writes_before writes_now : ℕ)
    (status : Status) : Type 0 where
  answered : Answer status → Answers Answer reads_before reads_now writes_before writes_now status
  source_failed : status ≡ statuses.ReadFault → Rises reads_before reads_now
      → Answers Answer reads_before reads_now writes_before writes_now status
  sink_failed : status ≡ statuses.WriteFault → Rises writes_before writes_now
      → Answers Answer reads_before reads_now writes_before writes_now status
  memory_wanted : status ≡ statuses.Memory
      → Answers Answer reads_before reads_now writes_before writes_now status

-- the same, where the source tells its bytes
abbrev pub IsAnswered : Bool → Bool → Bool → Option ℕ → Option (List ℕ) → ℕ → ℕ → ℕ → ℕ → Status
    → Type 0
IsAnswered runs reads checks made None reads_before reads_now writes_before writes_now status =
    Unit {0}
IsAnswered runs reads checks made (Some bytes) reads_before reads_now writes_before writes_now
    status =
    Answers (IsAnswer runs reads checks made bytes) reads_before reads_now writes_before writes_now
    status

-- words and bytes have an answer, and no other is one
pub record HasOneAnswer (runs reads checks : Bool) (made : Option ℕ)
    (bytes : List ℕ) : Type 0 where
  pub status : Status
  pub is : IsAnswer runs reads checks made bytes status
  pub only : (other : Status) → IsAnswer runs reads checks made bytes other → other ≡ status

-- THE LAW: whatever words and bytes
abbrev pub EachInputHasOneAnswer : Type 0
EachInputHasOneAnswer =
    (runs reads checks : Bool) (made : Option ℕ) (bytes : List ℕ)
    → HasOneAnswer runs reads checks made bytes
