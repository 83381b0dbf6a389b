use Rattle.std.proofs.Common.{◌≡◌, ◌++◌, take}
use Rattle.line_report.specs.Lanes.{entries_on, told_on}
use Rattle.line_report.proofs.lanes.append_part.Given as goal

abbrev pub invariant-loop-what : goal.invariant-loop-what
invariant-loop-what l = l.to.items ≡ l.initial.to.items ++ entries_on l.fn.number (told_on l.fn.part.lane (take l.what-index l.what-items))
