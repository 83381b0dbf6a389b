use Rattle.std.specs.Prelude.{ℕ, ◌≤◌, Option, Some, None}
use Rattle.hermes_vertical.specs.declared.message.Question.{Question}
use Rattle.hermes_vertical.specs.declared.message.Question.TheVariants as questions
use Rattle.line_script.specs.declared.line.LaneLine.{LaneLine}
use Rattle.line_script.specs.declared.line.LaneLine.TheVariants as lane_lines
use Rattle.line_script.specs.declared.line.ScriptLine.{ScriptLine}
use Rattle.line_script.specs.declared.line.ScriptLine.TheVariants as lines

-- a number stands between two bounds
pub record IsBetween (low high number : ℕ) : Type 0 where
  pub least : low ≤ number
  pub most : number ≤ high

-- a flow of some bytes delivers at most 65,536
abbrev pub IsFlowCount : Option ℕ → Type 0
IsFlowCount None = Unit {0}
IsFlowCount (Some count) = IsBetween 1 65536 count

-- a slot is spelled by at most nine digits
abbrev pub IsQuestionWithin : Question → Type 0
IsQuestionWithin (questions.Barcode barcode) = Unit {0}
IsQuestionWithin (questions.Order order) = Unit {0}
IsQuestionWithin (questions.Place magazine slot) = IsBetween 0 999999999 slot

-- a line's numbers stand within the ranges of the grammar
abbrev pub IsWithin : ScriptLine → Type 0
IsWithin lines.Blank = Unit {0}
IsWithin (lines.Machine capacity used) =
    IsBetween 1 1024 capacity × IsBetween 0 281474976710655 used
IsWithin (lines.Bridge capacity used) =
    IsBetween 1 1024 capacity × IsBetween 0 281474976710655 used
IsWithin (lines.Insert machine barcode) = IsBetween 1 64 machine
IsWithin (lines.Remove machine id) = IsBetween 1 64 machine
IsWithin (lines.Replace machine id) = IsBetween 1 64 machine
IsWithin (lines.Mark machine id quality) = IsBetween 1 64 machine
IsWithin (lines.Sub machine id pos barcode) = IsBetween 1 64 machine × IsBetween 0 999999999 pos
IsWithin (lines.Hold machine side) = IsBetween 1 64 machine
IsWithin (lines.Go machine side) = IsBetween 1 64 machine
IsWithin (lines.Signal machine line on) = IsBetween 1 64 machine
IsWithin (lines.Connect machine) = IsBetween 1 64 machine
IsWithin (lines.Flow machine side count) = IsBetween 1 64 machine × IsFlowCount count
IsWithin (lines.Notice machine side) = IsBetween 1 64 machine
IsWithin (lines.Cut gap) = IsBetween 1 63 gap
IsWithin (lines.Spoil machine side) = IsBetween 1 64 machine
IsWithin (lines.Shutdown machine) = IsBetween 1 64 machine
IsWithin (lines.Stop machine) = IsBetween 1 64 machine
IsWithin (lines.Tick machine) = IsBetween 1 64 machine
IsWithin (lines.Fault machine side) = IsBetween 1 64 machine
IsWithin (lines.Lie machine sensed) = IsBetween 1 64 machine
IsWithin (lines.Unseen machine side) = IsBetween 1 64 machine
IsWithin (lines.Sense machine) = IsBetween 1 64 machine
IsWithin (lines.Begin gap) = IsBetween 1 63 gap
IsWithin (lines.Left gap) = IsBetween 1 63 gap
IsWithin (lines.Enter gap) = IsBetween 1 63 gap
IsWithin (lines.Back gap) = IsBetween 1 63 gap
IsWithin (lines.HandIn gap) = IsBetween 1 63 gap
IsWithin (lines.Take gap) = IsBetween 1 63 gap
IsWithin lines.Show = Unit {0}
IsWithin (lines.Supervise machine) = IsBetween 1 64 machine
IsWithin (lines.Ask machine question) = IsBetween 1 64 machine × IsQuestionWithin question
IsWithin (lines.Answer machine query order) =
    IsBetween 1 64 machine × IsBetween 0 999999999999999 query
IsWithin (lines.Forecast machine) = IsBetween 1 64 machine
IsWithin (lines.Query machine barcode) = IsBetween 1 64 machine

-- and so do its lanes
abbrev pub IsLaneWithin : LaneLine → Type 0
IsLaneWithin (lane_lines.On lane line) = IsBetween 1 4 lane × IsWithin line
IsLaneWithin (lane_lines.Lanes count) = IsBetween 1 4 count
IsLaneWithin (lane_lines.Shift machine from to id) =
    IsBetween 1 64 machine × IsBetween 1 4 from × IsBetween 1 4 to
