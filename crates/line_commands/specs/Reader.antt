use Rattle.std.specs.Prelude.{◌≡◌, ◌+◌, ◌*◌, ◌<◌, ◌≤◌, ℕ, ◌++◌, List, [], None, Some, Result, Ok, Err, length}
use Rattle.std.specs.Str.Lines.{lines}
use Rattle.line_script.specs.declared.line.LineWhy.{LineWhy}
use Rattle.line_script.specs.declared.line.LaneLine.{LaneLine}
use Rattle.line_report.specs.Lanes.{entries_on}
use Rattle.line_report.specs.Texts.{summary_text}
use Rattle.line_report.specs.declared.happening.LaneHappening.{LaneHappening}
use Rattle.law_lanes.specs.Lanes.{Lanes, lines_of}
use Rattle.law_lanes.specs.Parts.{IsLaneRun, LaneLineSteps, LanePoint, all_points, state_behind}
use Rattle.law_lanes.specs.Views.{lanes_text, summary_on}
use Rattle.law_report_lines.specs.Proper.{AreProperOn, ArePointsProper}
use Rattle.line_commands.specs.Texts.{refused_text}
use Rattle.line_commands.specs.Script.{Script, meaning_at, script_from, behind_lines}
use Rattle.line_commands.specs.declared.script_run.RunError.{RunError}
use Rattle.line_commands.specs.declared.script_run.RunError.TheVariants as errors

-- where a reader stands inside its script: the line of machines, and the front of a script line
-- that has not ended
pub record Place : Type 0 where
  pub state : Lanes
  pub pending : List ℕ

-- the script that follows a place
abbrev pub script_behind : Place → List ℕ → Script
script_behind place rest = script_from (lines_of place.state) (lines (place.pending ++ rest))

-- how far a reader is: it grows by each byte, and has a last value, since lines are limited in
-- number and length
abbrev pub progress_of : Place → ℕ
progress_of place = lines_of place.state * 4099 + length place.pending

-- ONE LINE

-- what a line that was read does
pub record DoesAsked (asked : LaneLine) (old new : Lanes)
    (before now : List ℕ) : Type 0 where
  pub told : List LaneHappening
  pub proper : AreProperOn told
  pub steps : LaneLineSteps asked old new told
  pub text : now ≡ before ++ entries_on (lines_of old + 1) told

pub record IsDone (old new : Lanes) (line before now : List ℕ) : Type 0 where
  pub asked : LaneLine
  pub meaning : meaning_at (lines_of old + 1) line ≡ Ok asked
  pub told : List LaneHappening
  pub proper : AreProperOn told
  pub steps : LaneLineSteps asked old new told
  pub text : now ≡ before ++ entries_on (lines_of old + 1) told

pub record IsRefused (old : Lanes) (line before now : List ℕ) (number : ℕ)
    (why : LineWhy) : Type 0 where
  pub meaning : meaning_at (lines_of old + 1) line ≡ Err why
  pub counted : number ≡ lines_of old + 1
  pub text : now ≡ before ++ refused_text number why

abbrev pub DoesLine : Result (Unit {0}) RunError → Lanes → Lanes → List ℕ → List ℕ → List ℕ
    → Type 0
DoesLine (Ok done) old new line before now = IsDone old new line before now
DoesLine (Err (errors.Refused number why)) old new line before now =
    IsRefused old line before now number why
DoesLine (Err errors.Memory) old new line before now = Unit {0}

-- lines are numbered from 1
abbrev pub IsNumbered : RunError → Type 0
IsNumbered (errors.Refused number why) = 0 < number
IsNumbered errors.Memory = Unit {0}

-- refusing a line with this number
abbrev pub RefusesAs : Result (Unit {0}) RunError → ℕ → LineWhy → List ℕ → List ℕ → Type 0
RefusesAs (Ok done) number why before now = ⊥
RefusesAs (Err (errors.Refused line reason)) number why before now =
    (line ≡ number) × (reason ≡ why) × (now ≡ before ++ refused_text number why)
RefusesAs (Err errors.Memory) number why before now = Unit {0}

-- the report's last line is written
pub record IsSummed (state : Lanes) (before now : List ℕ) : Type 0 where
  pub text : now ≡ before ++ summary_text (summary_on state)

abbrev pub Sums : Result (Unit {0}) RunError → Lanes → List ℕ → List ℕ → Type 0
Sums (Ok done) state before now = IsSummed state before now
Sums (Err (errors.Refused number why)) state before now = ⊥
Sums (Err errors.Memory) state before now = Unit {0}

-- A PIECE, whatever follows it: some lines were done, and told

pub record Advances (old new : Place) (bytes before now : List ℕ) : Type 0 where
  pub asked : List LaneLine
  pub done : List (List LanePoint)
  pub run : IsLaneRun old.state asked done
  pub proper : ArePointsProper (all_points done)
  pub after : state_behind old.state (all_points done) ≡ new.state
  pub text : now ≡ before ++ lanes_text (lines_of old.state + 1) (all_points done)
  pub script : (rest : List ℕ)
      → script_behind old (bytes ++ rest) ≡ behind_lines asked (script_behind new rest)
  pub progress : progress_of old + length bytes ≤ progress_of new

-- some lines were done and told, and then one was refused
pub record RefusesIn (state : Lanes) (script : Script) (before now : List ℕ) (number : ℕ)
    (why : LineWhy) : Type 0 where
  pub asked : List LaneLine
  pub done : List (List LanePoint)
  pub run : IsLaneRun state asked done
  pub proper : ArePointsProper (all_points done)
  pub text : now ≡ before ++ (lanes_text (lines_of state + 1) (all_points done) ++ refused_text number why)
  pub script_is : script ≡ record {
    lines = asked;
    refusal = Some (record { line = number; why = why });
  }

pub record Refuses (old : Place) (bytes before now : List ℕ) (number : ℕ)
    (why : LineWhy) : Type 0 where
  pub refuses : (rest : List ℕ)
      → RefusesIn old.state (script_behind old (bytes ++ rest)) before now number why

abbrev pub Takes : Result (Unit {0}) RunError → Place → Place → List ℕ → List ℕ → List ℕ → Type 0
Takes (Ok done) old new bytes before now = Advances old new bytes before now
Takes (Err (errors.Refused number why)) old new bytes before now =
    Refuses old bytes before now number why
Takes (Err errors.Memory) old new bytes before now = Unit {0}

-- a front of a piece is taken, and the rest is left
pub record IsTaking (old new : Place) (piece rest before now : List ℕ) : Type 0 where
  pub taken : List ℕ
  pub parts : taken ++ rest ≡ piece
  pub takes : Advances old new taken before now

-- THE END of the script

pub record SumsUp (old new : Place) (before now : List ℕ) : Type 0 where
  pub asked : List LaneLine
  pub done : List (List LanePoint)
  pub run : IsLaneRun old.state asked done
  pub proper : ArePointsProper (all_points done)
  pub after : state_behind old.state (all_points done) ≡ new.state
  pub text : now ≡ before
      ++ (lanes_text (lines_of old.state + 1) (all_points done) ++ summary_text (summary_on new.state))
  pub script_is : script_behind old [] ≡ record { lines = asked; refusal = None }

abbrev pub Finishes : Result (Unit {0}) RunError → Place → Place → List ℕ → List ℕ → Type 0
Finishes (Ok done) old new before now = SumsUp old new before now
Finishes (Err (errors.Refused number why)) old new before now =
    RefusesIn old.state (script_behind old []) before now number why
Finishes (Err errors.Memory) old new before now = Unit {0}
