use Rattle.std.proofs.Common.{◌∙◌}
use Rattle.line_check.proofs.Counting.{length-listed}
use Rattle.line_check.proofs.table.Table.boards.Goals as goal

pub returns : goal.returns
returns c = λ ids same. c.len.ensures.len ∙ length-listed c.args.self.now.marks c.args.self.now.no_empty c.len.ensures.ordered ids same
