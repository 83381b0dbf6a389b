use Rattle.line_marks.proofs.Counted.{between_is}
use Rattle.line_marks.proofs.span.between.Goals as goal

pub returns-clause-are : goal.returns-clause-are
returns-clause-are c = between_is c.args.span.first c.args.span.last c.args.machines.now c.front.result.now c.from-behind.result.now c.saturating_sub.result c.if-span-eq0.false c.front.ensures.are c.saturating_sub.ensures c.from-behind.ensures.are
