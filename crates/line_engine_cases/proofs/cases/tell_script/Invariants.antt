use Rattle.std.proofs.Common.{◌≡◌, false}
use Rattle.line_engine_cases.proofs.cases.tell_script.Given as goal

abbrev pub invariant-loop-text : goal.invariant-loop-text
invariant-loop-text l = l.line.spent ≡ false
