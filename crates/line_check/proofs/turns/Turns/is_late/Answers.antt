use Rattle.line_check.proofs.Latest.{late_told}
use Rattle.line_check.proofs.turns.Turns.is_late.Goals as goal

pub returns : goal.returns
returns c = λ lines turns. late_told c.args.self.now.greatest c.args.group lines c.requires.least c.requires.most turns.greatest
