use Rattle.std.proofs.Common.{◌≡◌, ◌++◌, take}
use Rattle.line_report.specs.Lanes.{entries_on, parts_told}
use Rattle.line_report.proofs.lanes.append_parts.Given as goal

abbrev pub invariant-loop-part : goal.invariant-loop-part
invariant-loop-part l = l.to.items ≡ l.initial.to.items ++ entries_on l.fn.number (parts_told (take l.part-index l.fn.parts))
