use Rattle.law_one_report.proofs.Lines.{each_run}
use Rattle.law_one_report.proofs.laws.each_script_has_a_run.Goals as goal

pub returns : goal.returns
returns c = each_run
