use Rattle.node_run.proofs.Short.{short_by}
use Rattle.node_run.proofs.lines.line_input.Goals as goal

pub returns-clause-short : goal.returns-clause-short
returns-clause-short c = short_by c.args.asked _ c.input_of.ensures
