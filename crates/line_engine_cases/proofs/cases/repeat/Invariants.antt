use Rattle.std.proofs.Common.{◌≡◌, false}
use Rattle.line_engine_cases.proofs.cases.repeat.Given as goal

abbrev pub invariant-loop : goal.invariant-loop
invariant-loop l = l.line.spent ≡ false
