use Rattle.std.proofs.Common.{Ok, ap, rules, ◌∙◌}
use Rattle.line_script.specs.declared.line.ScriptLine.TheVariants as lines
use Rattle.line_script.proofs.forms.machine.Goals as goal

pub returns-in_err-room-clause-answer : goal.returns-in_err-room-clause-answer
returns-in_err-room-clause-answer c = let refused = c.in_err-room.ensures.answer lines.Machine in search rules

pub returns-clause-answer : goal.returns-clause-answer
returns-clause-answer c = ap Ok c.on_lane.ensures ∙ c.in_ok-room.ensures.answer lines.Machine
