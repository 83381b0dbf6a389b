-- No line of a script of one lane moves a board between the lanes of a machine.
use Rattle.std.proofs.Common.{List, [], ℕ, ◌∷◌}
use Rattle.std.specs.List.{AllByRecursion}
use Rattle.line_script.specs.declared.line.ScriptLine.{ScriptLine}
use Rattle.line_script.specs.declared.line.ScriptLine.TheVariants as lines
use Rattle.node_core.specs.declared.act.Act.{Act}
use Rattle.node_core.specs.declared.act.Act.TheVariants as acts
use Rattle.line_report.specs.declared.happening.Happening.{Happening}
use Rattle.line_report.specs.declared.happening.Happening.TheVariants as happenings
use Rattle.line_step.specs.Requests.{request_of}
use Rattle.line_step.proofs.Shifted.{AreAskedFor, AsksFor, IsAskedFor}

abbrev pub StaysInLane : Happening → Type 0
StaysInLane (happenings.Done machine (acts.Gives id to)) = ⊥
StaysInLane (happenings.Done machine (acts.Gets id)) = ⊥
StaysInLane _ = Unit {0}

unasked : {machine : ℕ} {act : Act} (line : ScriptLine) → AsksFor (request_of line) machine act → ⊥
unasked lines.Blank asks = elim asks [ ]
unasked _ asks = elim asks [ ]

in_lane : (line : ScriptLine) (h : Happening) → IsAskedFor (request_of line) h → StaysInLane h
in_lane line (happenings.Done machine (acts.Gives id to)) asked = unasked line asked
in_lane line (happenings.Done machine (acts.Gets id)) asked = unasked line asked
in_lane line _ asked = tt

pub told_in_lane : (line : ScriptLine) (told : List Happening) → AreAskedFor (request_of line) told → AllByRecursion StaysInLane told
told_in_lane line [] asked = tt
told_in_lane line (h ∷ told) asked = (in_lane line h asked.0, told_in_lane line told asked.1)
