use Rattle.std.proofs.Common.{◌≡◌, ◌++◌, drop}
use Rattle.line_marks.proofs.marks.Marks.add_all.Given as goal

abbrev pub invariant-loop-mark : goal.invariant-loop-mark
invariant-loop-mark l = l.self ++ drop l.mark-index l.marks ≡ l.initial.self ++ l.marks
