-- THE PARTS of a line of a script: a stop is several lines one after the other, each with its own
-- standings, under one number; every other line is its own part.
use Rattle.std.specs.Prelude.{◌≡◌, ℕ, ◌+◌, ◌-◌, Bool, true, false, List, [], ◌∷◌, Ok, Err}
use Rattle.std.specs.List.{flat_map}
use Rattle.line_base.specs.declared.states.Side.TheVariants.{Entry, Exit}
use Rattle.line_script.specs.declared.line.ScriptLine.{ScriptLine}
use Rattle.line_script.specs.declared.line.ScriptLine.TheVariants as lines
use Rattle.line_step.specs.State.{LineState}
use Rattle.line_step.specs.Reasons.{May, may_cut, may_notice}
use Rattle.line_step.specs.Requests.{request_of}
use Rattle.line_step.specs.Lines.{LineSteps}
use Rattle.line_step.specs.Tracks.{TrackLine, own_line}
use Rattle.line_step.specs.Runs.{Point, all_told, state_behind}
use Rattle.line_report.specs.declared.happening.Happening.{Happening}

-- what is done in view of the state before it, and whether the line ends with it
pub record Part : Type 0 where
  pub line : LineState → ScriptLine
  pub ends : Bool

-- a line where no reason stands against it, and else nothing
abbrev pub where_may : May → ScriptLine → ScriptLine
where_may (Ok _) line = line
where_may (Err _) line = lines.Blank

abbrev pub cut_where : ℕ → LineState → ScriptLine
cut_where gap s = where_may (may_cut gap s) (lines.Cut gap)

abbrev pub entry_where : ℕ → LineState → ScriptLine
entry_where machine s = where_may (may_notice machine Entry s) (lines.Notice machine Entry)

abbrev pub exit_where : ℕ → LineState → ScriptLine
exit_where machine s = where_may (may_notice machine Exit s) (lines.Notice machine Exit)

-- a machine that loses its power: the links on both its sides are cut, and each of its sides
-- notices that
abbrev pub stop_parts : ℕ → List Part
stop_parts machine =
    record { line = λ s. lines.Stop machine; ends = false }
    ∷ record { line = cut_where (machine - 1); ends = false }
    ∷ record { line = cut_where machine; ends = false }
    ∷ record { line = entry_where machine; ends = false }
    ∷ record { line = exit_where machine; ends = true } ∷ []

abbrev pub parts_of : ScriptLine → List Part
parts_of (lines.Stop machine) = stop_parts machine
parts_of line = record { line = λ s. line; ends = true } ∷ []

-- and those of a script
abbrev pub script_parts : List ScriptLine → List Part
script_parts asked = flat_map parts_of asked

-- ---- what they do

-- the count of lines behind a part
abbrev pub count_behind : Bool → ℕ → ℕ
count_behind true lines = lines + 1
count_behind false lines = lines

-- a part is a line step under the number that is due
pub record PartSteps (part : Part) (before : LineState) (point : Point) : Type 0 where
  pub steps : LineSteps (before.lines + 1) (request_of (part.line before)) before point.after
      point.told
  pub counted : point.after.lines ≡ count_behind part.ends before.lines

-- these are the points of parts, one after the other
abbrev pub IsPlay : LineState → List Part → List Point → Type 0
IsPlay s [] [] = Unit {0}
IsPlay s [] (_ ∷ _) = ⊥
IsPlay s (_ ∷ _) [] = ⊥
IsPlay s (part ∷ parts) (point ∷ points) =
    PartSteps part s point × IsPlay point.after parts points

-- THE RUN OF A SCRIPT: a point for each part of each of its lines
abbrev pub IsScriptRun : LineState → List ScriptLine → List Point → Type 0
IsScriptRun s asked points = IsPlay s (script_parts asked) points

-- the lines that parts were, each by what it asked for in view of the state before it
abbrev pub lines_played : LineState → List Part → List Point → List TrackLine
lines_played s [] points = []
lines_played s (part ∷ parts) [] = []
lines_played s (part ∷ parts) (point ∷ points) =
    own_line (request_of (part.line s)) ∷ lines_played point.after parts points

-- ---- ONE LINE OF A SCRIPT: what its parts did, and all that they told
pub record ScriptLineSteps (line : ScriptLine) (before after : LineState)
    (told : List Happening) : Type 0 where
  pub points : List Point
  pub plays : IsPlay before (parts_of line) points
  pub behind : state_behind before points ≡ after
  pub told_is : told ≡ all_told points
