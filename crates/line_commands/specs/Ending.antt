use Rattle.std.specs.Prelude.{◌≡◌, ◌≤◌, ◌++◌, ℕ, Bool, true, false, List, Option, None, Some}
use Rattle.line_outside.specs.Faults.{Rose}
use Rattle.line_outside.specs.Sink.{Grows, GrowsInPart}
use Rattle.line_script.specs.declared.line.LaneLine.{LaneLine}
use Rattle.law_lanes.specs.Lanes.{no_lanes}
use Rattle.law_lanes.specs.Parts.{IsLaneRun, LanePoint, all_points, state_behind}
use Rattle.law_lanes.specs.Views.{lanes_text}
use Rattle.law_report_lines.specs.Proper.{ArePointsProper}
use Rattle.line_commands.specs.Script.{script_of, behind_lines}
use Rattle.line_commands.specs.Reader.{Place, script_behind}
use Rattle.line_commands.specs.declared.script_run.RunError.{RunError}
use Rattle.line_commands.specs.declared.script_run.RunError.TheVariants as errors
use Rattle.line_status.specs.declared.status.Status.{Status}
use Rattle.line_status.specs.declared.status.Status.TheVariants as statuses
use Rattle.line_status.specs.declared.status.InputWhy.TheVariants as inputs

-- WHILE THE RUN GOES ON: some lines of the script were done, what was pushed and what waits to be
-- written tells of them, and the others are still to come
pub record IsGoing (script rest : List ℕ) (old now : Option (List ℕ)) (place : Place)
    (text : List ℕ) : Type 0 where
  pub asked : List LaneLine
  pub done : List (List LanePoint)
  pub run : IsLaneRun no_lanes asked done
  pub proper : ArePointsProper (all_points done)
  pub after : state_behind no_lanes (all_points done) ≡ place.state
  pub shown : List ℕ
  pub grows : Grows old now shown
  pub told : shown ++ text ≡ lanes_text 1 (all_points done)
  pub taken : List ℕ
  pub parts : taken ++ rest ≡ script
  pub ever : (other : List ℕ)
      → script_of (taken ++ other) ≡ behind_lines asked (script_behind place other)

-- the same, where the source tells its bytes; it tells them now exactly where it told them first
abbrev pub GoesOn : Option (List ℕ) → Option (List ℕ) → Option (List ℕ) → Option (List ℕ) → Place
    → List ℕ → Type 0
GoesOn None left old now place text = Unit {0}
GoesOn (Some script) None old now place text = ⊥
GoesOn (Some script) (Some rest) old now place text = IsGoing script rest old now place text

-- how a run ends behind its script, a line of which told what was not so, or none did
abbrev pub EndsWhole : Bool → Option (List ℕ) → Option (List ℕ) → ℕ → ℕ → List ℕ → Status → Type 0
EndsWhole unvouched old new before now text statuses.Done =
    (unvouched ≡ false) × (before ≤ now) × Grows old new text
EndsWhole unvouched old new before now text statuses.Unvouched =
    (unvouched ≡ true) × (before ≤ now) × Grows old new text
EndsWhole unvouched old new before now text statuses.WriteFault =
    (before ≤ now) × Rose before now × GrowsInPart old new text
EndsWhole unvouched old new before now text _ = ⊥

-- how a run ends inside its script
abbrev pub EndsRefused : RunError → Option (List ℕ) → Option (List ℕ) → ℕ → ℕ → List ℕ → Status
    → Type 0
EndsRefused (errors.Refused line why) old new before now text
    (statuses.ScriptRefused refused reason) =
    (refused ≡ line) × (reason ≡ inputs.Line why) × (before ≤ now) × Grows old new text
EndsRefused (errors.Refused line why) old new before now text statuses.WriteFault =
    (before ≤ now) × Rose before now × GrowsInPart old new text
EndsRefused errors.Memory old new before now text statuses.Memory = (before ≤ now) × (new ≡ old)
EndsRefused _ old new before now text _ = ⊥
