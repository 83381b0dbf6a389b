use Rattle.std.proofs.Common.{◌≡◌, drop}
use Rattle.line_report.specs.Shifts.{first_from, is_gives}
use Rattle.line_report.proofs.shift.gives_at.Given as goal

abbrev pub invariant-loop-at : goal.invariant-loop-at
invariant-loop-at l = first_from is_gives 0 l.told ≡ first_from is_gives l.at (drop l.at l.told)
