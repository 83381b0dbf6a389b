use Rattle.std.proofs.Common.{◌≡◌, drop}
use Rattle.line_report.specs.Shifts.{first_from, is_gets}
use Rattle.line_report.proofs.shift.gets_at.Given as goal

abbrev pub invariant-loop-at : goal.invariant-loop-at
invariant-loop-at l = first_from is_gets 0 l.told ≡ first_from is_gets l.at (drop l.at l.told)
