-- What the laws over runs ask of a script, and that each script which is read has it.
use Rattle.std.specs.Prelude.{List, length, ℕ, ◌≤◌}
use Rattle.std.specs.List.{AllByRecursion}
use Rattle.line_script.specs.declared.line.LaneLine.{LaneLine}
use Rattle.law_lanes.specs.Along.{IsFitLaneLine}
use Rattle.line_commands.specs.Script.{script_of}

-- the barcodes of its lines are texts, and it has at most 1,000,000 lines
pub record IsFitScript (lines : List LaneLine) : Type 0 where
  pub fit : AllByRecursion IsFitLaneLine lines
  pub few : length lines ≤ 1000000

-- whatever bytes a script is read from
abbrev pub ScriptsAreFit : Type 0
ScriptsAreFit = (bytes : List ℕ) → IsFitScript (script_of bytes).lines
