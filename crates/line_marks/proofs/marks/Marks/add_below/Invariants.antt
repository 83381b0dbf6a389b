use Rattle.std.proofs.Common.{◌≡◌, ◌++◌, drop}
use Rattle.line_marks.specs.Indexed.{below}
use Rattle.line_marks.proofs.marks.Marks.add_below.Given as goal

abbrev pub invariant-loop-mark : goal.invariant-loop-mark
invariant-loop-mark l = l.self ++ below l.first (drop l.mark-index l.marks) ≡ l.initial.self ++ below l.first l.marks
