-- EACH LINE HAS A STEP, and each script has a run.
use Rattle.std.specs.Prelude.{ℕ, List}
use Rattle.line_report.specs.declared.happening.Happening.{Happening}
use Rattle.line_script.specs.declared.line.ScriptLine.{ScriptLine}
use Rattle.line_step.specs.Requests.{Request}
use Rattle.line_step.specs.Lines.{LineSteps}
use Rattle.line_step.specs.Parts.{IsScriptRun, ScriptLineSteps}
use Rattle.line_step.specs.Runs.{Point}
use Rattle.line_step.specs.State.{LineState}

-- some step of a request, from this state: the state after it, and what it told
pub record HasStep (number : ℕ) (request : Request) (before : LineState) : Type 0 where
  pub after : LineState
  pub told : List Happening
  pub steps : LineSteps number request before after told

-- what some step of a line of a script did, which may be several lines of a run
pub record HasScriptStep (line : ScriptLine) (before : LineState) : Type 0 where
  pub after : LineState
  pub told : List Happening
  pub steps : ScriptLineSteps line before after told

-- THE LAW: each line of a script has a step, whatever state of a line stands before it. What is told
-- is one thing, too (`law_one_report` of `line_cli`)
abbrev pub EachLineHasAStep : Type 0
EachLineHasAStep = (line : ScriptLine) (before : LineState) → HasScriptStep line before

-- some run of the script of these lines from this state
pub record HasRun (before : LineState) (lines : List ScriptLine) : Type 0 where
  pub points : List Point
  pub run : IsScriptRun before lines points

abbrev pub EachScriptHasARun : Type 0
EachScriptHasARun = (before : LineState) (lines : List ScriptLine) → HasRun before lines
