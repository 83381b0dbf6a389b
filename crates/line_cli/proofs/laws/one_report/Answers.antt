use Rattle.line_cli.proofs.ReportOnce.{report-once}
use Rattle.line_cli.proofs.laws.one_report.Goals as goal

pub returns : goal.returns
returns c = report-once c.each_run_tells_once.ensures
