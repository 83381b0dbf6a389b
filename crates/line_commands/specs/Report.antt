-- THE REPORT of a script: what its lines did, each with its number, and a last line.
use Rattle.std.specs.Prelude.{◌≡◌, ℕ, ◌++◌, List, Option, None, Some}
use Rattle.line_report.specs.Texts.{summary_text}
use Rattle.line_script.specs.declared.line.LaneLine.{LaneLine}
use Rattle.law_report_lines.specs.Lines.{AreUnnumbered, lines_in}
use Rattle.law_report_lines.specs.Proper.{ArePointsProper}
use Rattle.law_lanes.specs.Lanes.{Lanes, no_lanes}
use Rattle.law_lanes.specs.Parts.{IsLaneRun, LanePoint, all_points, state_behind}
use Rattle.law_lanes.specs.Views.{lanes_text, summary_on}
use Rattle.line_commands.specs.Texts.{refused_text}
use Rattle.line_commands.specs.Script.{Refusal, script_of}

-- the last line: the summary, or the line that is refused
abbrev pub ending : Lanes → Option Refusal → List ℕ
ending s None = summary_text (summary_on s)
ending s (Some refusal) = refused_text refusal.line refusal.why

-- the report's text for the points of a run
abbrev pub report_text : List LanePoint → Option Refusal → List ℕ
report_text points refusal = lanes_text 1 points ++ ending (state_behind no_lanes points) refusal

-- a text is the report of a script
pub record IsReport (bytes text : List ℕ) : Type 0 where
  pub done : List (List LanePoint)
  pub run : IsLaneRun no_lanes (script_of bytes).lines done
  pub written : text ≡ report_text (all_points done) (script_of bytes).refusal

-- what a report begins with: a front of the report that the script has, and nothing else
pub record BeginsReport (bytes text : List ℕ) : Type 0 where
  pub rest : List ℕ
  pub whole : IsReport bytes (text ++ rest)

-- a text is a front of what the first lines of a script tell, or of that with a last line behind it;
-- their ids, names and lanes are what their types allow
pub record IsToldFirst (bytes text : List ℕ) : Type 0 where
  pub lines : List LaneLine
  pub others : List LaneLine
  pub all : (script_of bytes).lines ≡ lines ++ others
  pub done : List (List LanePoint)
  pub run : IsLaneRun no_lanes lines done
  pub proper : ArePointsProper (all_points done)
  pub ending : List ℕ
  pub last : AreUnnumbered (lines_in ending)
  pub rest : List ℕ
  pub front : text ++ rest ≡ lanes_text 1 (all_points done) ++ ending

-- a script has a report, and no other text is one
pub record HasOneReport (bytes : List ℕ) : Type 0 where
  pub text : List ℕ
  pub is : IsReport bytes text
  pub only : (other : List ℕ) → IsReport bytes other → other ≡ text

-- THE LAW: whatever bytes a script is read from
abbrev pub EachScriptHasOneReport : Type 0
EachScriptHasOneReport = (bytes : List ℕ) → HasOneReport bytes
