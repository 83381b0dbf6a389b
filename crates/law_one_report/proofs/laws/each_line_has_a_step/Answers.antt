use Rattle.law_one_report.proofs.Lines.{each_script_line}
use Rattle.law_one_report.proofs.laws.each_line_has_a_step.Goals as goal

pub returns : goal.returns
returns c = each_script_line
