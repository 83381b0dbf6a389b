use Rattle.line_cli.proofs.MadeOnce.{made-once}
use Rattle.line_cli.proofs.laws.one_make_text.Goals as goal

pub returns : goal.returns
returns c = made-once c.each_run_tells_once.ensures
