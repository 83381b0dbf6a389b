use Rattle.std.proofs.Common.{All, take}
use Rattle.law_report_lines.specs.Proper.{GoesToALane}
use Rattle.law_report_lines.proofs.proper.shifts_are_proper.Given as goal

-- those that were gone over are proper
abbrev pub invariant-loop-happening : goal.invariant-loop-happening
invariant-loop-happening l = All GoesToALane (take l.happening-index l.told)
