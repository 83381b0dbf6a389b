use Rattle.std.proofs.Common.{subst}
use Rattle.line_check.specs.Checking.{HasReadTo}
use Rattle.line_check.proofs.Ending.{ends_failed}
use Rattle.line_check.proofs.checker.Checker.end.Goals as goal

pub returns-in-Some-clause-ends : goal.returns-in-Some-clause-ends
returns-in-Some-clause-ends c = λ lines read. ends_failed lines c.args.self.known c.in-Some.error (subst (HasReadTo lines c.args.self.known) c.in-Some.is read)
