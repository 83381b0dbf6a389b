use Rattle.std.proofs.Common.{◌≡◌, ◌++◌, drop}
use Rattle.line_marks.specs.Indexed.{above}
use Rattle.line_marks.proofs.marks.Marks.add_above.Given as goal

abbrev pub invariant-loop-mark : goal.invariant-loop-mark
invariant-loop-mark l = l.self ++ above l.last (drop l.mark-index l.marks) ≡ l.initial.self ++ above l.last l.marks
