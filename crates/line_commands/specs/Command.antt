use Rattle.std.specs.Prelude.{◌≡◌, ◌<◌, ℕ, List, [], ◌∷◌, Bool, true, false, Option, None, Some, codes}
use Rattle.std.specs.Str.{bytes_eq}
use Rattle.line_outside.specs.Sink.{Grows, PushesAll}
use Rattle.line_outside.specs.declared.pushing.Pushed.{Pushed}
use Rattle.line_commands.specs.Script.{Refusal, script_of}
use Rattle.line_commands.specs.Report.{IsToldFirst, BeginsReport, report_text}
use Rattle.law_report_lines.specs.Proper.{ArePointsProper}
use Rattle.line_commands.specs.Stops.{StopsIn}
use Rattle.law_lanes.specs.Lanes.{no_lanes}
use Rattle.law_lanes.specs.Parts.{IsLaneRun, LanePoint, all_points}
use Rattle.law_lanes.specs.Views.{has_lie_on}
use Rattle.stream_text.specs.Stream.{IsReadStatus, Reads}
use Rattle.line_commands.specs.Checking.{Checks}
use Rattle.line_commands.specs.Making.{Makes, IsMakeStatus}
use Rattle.line_status.specs.declared.status.Status.{Status}
use Rattle.line_status.specs.declared.status.Status.TheVariants as statuses
use Rattle.line_status.specs.declared.status.InputWhy.TheVariants as inputs

abbrev pub usage_text : List ℕ
usage_text = codes "usage: line run | line read | line check | line make <number>\n"

-- whether the words are this word alone
abbrev pub is_word : List ℕ → List (List ℕ) → Bool
is_word asked [] = false
is_word asked (word ∷ []) = bytes_eq word asked
is_word asked (word ∷ other ∷ others) = false

abbrev pub is_run : List (List ℕ) → Bool
is_run words = is_word (codes "run") words

abbrev pub is_read : List (List ℕ) → Bool
is_read words = is_word (codes "read") words

abbrev pub is_check : List (List ℕ) → Bool
is_check words = is_word (codes "check") words

-- how the run of a script ends, whose whole report was written
abbrev pub status_of : Option Refusal → Bool → Status
status_of None false = statuses.Done
status_of None true = statuses.Unvouched
status_of (Some refusal) lied = statuses.ScriptRefused refusal.line (inputs.Line refusal.why)

-- the whole report was written, and it is that of a script which ends so: refused at its first
-- refusal, and else unvouched where one of its lines told what was not so. Its ids and names are
-- what their types allow
pub record WritesReport (script : List ℕ) (old new : Option (List ℕ))
    (status : Status) : Type 0 where
  pub done : List (List LanePoint)
  pub run : IsLaneRun no_lanes (script_of script).lines done
  pub proper : ArePointsProper (all_points done)
  pub ends : status ≡ status_of (script_of script).refusal (has_lie_on (all_points done))
  pub grows : Grows old new (report_text (all_points done) (script_of script).refusal)

-- a front of it was written, which tells of lines that were done
pub record WritesFront (script : List ℕ) (old new : Option (List ℕ)) : Type 0 where
  pub text : List ℕ
  pub begins : BeginsReport script text
  pub first : IsToldFirst script text
  pub grows : Grows old new text

-- what `run` did with a script: what is left of it, and how the sink's contents grew
abbrev pub RunsScript : List ℕ → Option (List ℕ) → Option (List ℕ) → Option (List ℕ) → Status
    → Type 0
RunsScript script left old new statuses.Done =
    WritesReport script old new statuses.Done × (left ≡ Some [])
RunsScript script left old new statuses.Unvouched =
    WritesReport script old new statuses.Unvouched × (left ≡ Some [])
RunsScript script left old new statuses.Usage = ⊥
RunsScript script left old new (statuses.ScriptRefused line why) =
    WritesReport script old new (statuses.ScriptRefused line why) × StopsIn script left
RunsScript script left old new statuses.ReadFault = WritesFront script old new
RunsScript script left old new statuses.WriteFault = WritesFront script old new
RunsScript script left old new statuses.Memory = WritesFront script old new
RunsScript script left old new (statuses.Refuted line why) = ⊥

-- the same, where the source tells its bytes
abbrev pub Runs : Option (List ℕ) → Option (List ℕ) → Option (List ℕ) → Option (List ℕ) → Status
    → Type 0
Runs None left old new status = Unit {0}
Runs (Some script) left old new status = RunsScript script left old new status

-- what other words do: nothing is read, and the usage text is written, or a front of it where the
-- sink failed
pub record Refers (left_old left_new old new : Option (List ℕ)) (before now : ℕ)
    (status : Status) : Type 0 where
  pub usage : status ≡ statuses.Usage
  pub unread : left_new ≡ left_old
  pub pushed : Pushed
  pub text : PushesAll old new before now usage_text pushed

-- what `make` does: nothing is read
pub record MakesAlone (number : ℕ) (left_old left_new old new : Option (List ℕ))
    (status : Status) : Type 0 where
  pub unread : left_new ≡ left_old
  pub makes : Makes number old new status

-- WHAT THE PROGRAM DOES with its words: whether they are `run`, whether they are `read`, whether
-- they are `check`, and the number behind `make`
abbrev pub DoesAs : Bool → Bool → Bool → Option ℕ → Option (List ℕ) → Option (List ℕ)
    → Option (List ℕ) → Option (List ℕ) → ℕ → ℕ → Status → Type 0
DoesAs true reads checks made left_old left_new old new before now status =
    Runs left_old left_new old new status
DoesAs false true checks made left_old left_new old new before now status =
    Reads left_old left_new old new status
DoesAs false false true made left_old left_new old new before now status =
    Checks left_old left_new old new status
DoesAs false false false (Some number) left_old left_new old new before now status =
    MakesAlone number left_old left_new old new status
DoesAs false false false None left_old left_new old new before now status =
    Refers left_old left_new old new before now status

-- whatever the source tells, what `run` may answer: a line of a script, numbered from 1, is
-- refused for a reason of the script grammar, and a stream's size is none of its concern
abbrev pub IsRunStatus : Status → Type 0
IsRunStatus statuses.Done = Unit {0}
IsRunStatus statuses.Usage = ⊥
IsRunStatus (statuses.ScriptRefused line (inputs.Line why)) = 0 < line
IsRunStatus (statuses.ScriptRefused line inputs.TooLarge) = ⊥
IsRunStatus statuses.ReadFault = Unit {0}
IsRunStatus statuses.WriteFault = Unit {0}
IsRunStatus statuses.Memory = Unit {0}
IsRunStatus statuses.Unvouched = Unit {0}
IsRunStatus (statuses.Refuted line why) = ⊥

-- and what `check` may answer: a log is refuted, and not refused
abbrev pub IsCheckStatus : Status → Type 0
IsCheckStatus statuses.Done = Unit {0}
IsCheckStatus statuses.Usage = ⊥
IsCheckStatus (statuses.ScriptRefused line why) = ⊥
IsCheckStatus statuses.ReadFault = Unit {0}
IsCheckStatus statuses.WriteFault = Unit {0}
IsCheckStatus statuses.Memory = Unit {0}
IsCheckStatus statuses.Unvouched = ⊥
IsCheckStatus (statuses.Refuted line why) = Unit {0}

-- WHAT THE PROGRAM MAY ANSWER to its words: `Usage` exactly where they are neither `run` nor
-- `read` nor `check` nor `make` and a number
abbrev pub FitsWords : Bool → Bool → Bool → Option ℕ → Status → Type 0
FitsWords true reads checks made status = IsRunStatus status
FitsWords false true checks made status = IsReadStatus status
FitsWords false false true made status = IsCheckStatus status
FitsWords false false false (Some number) status = IsMakeStatus status
FitsWords false false false None status = status ≡ statuses.Usage
