-- The run of a script: its parts are lines of a run, so what holds of every run holds of it; and scripts one behind another.
use Rattle.std.proofs.Common.{◌≡◌, ◌+◌, ◌≤◌, ◌++◌, List, [], ◌∷◌, ◌∙◌}
use Rattle.line_script.specs.declared.line.ScriptLine.{ScriptLine}
use Rattle.line_script.specs.declared.line.ScriptLine.TheVariants as lines
use Rattle.line_step.specs.State.{LineState}
use Rattle.line_step.specs.Runs.{Point, state_behind}
use Rattle.line_step.specs.Parts.{IsPlay, IsScriptRun, Part, parts_of}

-- ---- one behind another

pub play-append : (s : LineState) (parts more : List Part) (points others : List Point) → IsPlay s parts points → IsPlay (state_behind s points) more others → IsPlay s (parts ++ more) (points ++ others)
play-append s [] more [] others one two = two
play-append s [] more (point ∷ points) others one two = absurd one
play-append s (part ∷ parts) more [] others one two = absurd one
play-append s (part ∷ parts) more (point ∷ points) others one two = (one.0, play-append point.after parts more points others one.1 two)

-- the points of parts that stand one behind another
pub record PlaysApart (s : LineState) (parts more : List Part) (points : List Point) : Type 0 where
  pub earlier : List Point
  pub later : List Point
  pub is : points ≡ earlier ++ later
  pub first : IsPlay s parts earlier
  pub second : IsPlay (state_behind s earlier) more later

-- ---- a script of one line, and one line more

-- the first line of a script, and the others
pub record FirstLine (line : ScriptLine) (asked : List ScriptLine) (s : LineState) (points : List Point) : Type 0 where
  pub earlier : List Point
  pub later : List Point
  pub is : points ≡ earlier ++ later
  pub first : IsPlay s (parts_of line) earlier
  pub others : IsScriptRun (state_behind s earlier) asked later
  pub behind : state_behind s points ≡ state_behind (state_behind s earlier) later
  pub counted : (state_behind s earlier).lines ≡ s.lines + 1

-- ---- one script behind another

pub record RunsOn (s : LineState) (asked : List ScriptLine) (points : List Point) (end : LineState) : Type 0 where
  pub run : IsScriptRun s asked points
  pub after : state_behind s points ≡ end
