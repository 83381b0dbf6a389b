use Rattle.std.proofs.Common.{All, take}
use Rattle.law_report_lines.proofs.ProperOn.{IsProperPart}
use Rattle.law_report_lines.proofs.proper.parts_are_proper.Given as goal

-- those that were gone over are proper
abbrev pub invariant-loop-part : goal.invariant-loop-part
invariant-loop-part l = All IsProperPart (take l.part-index l.parts)
