use Rattle.std.proofs.Common.{take}
use Rattle.line_marks.specs.AllMarks.{IsWithMarks}
use Rattle.line_marks.proofs.all_marks.add_marks.Given as goal

abbrev pub invariant-loop-mark : goal.invariant-loop-mark
invariant-loop-mark l = IsWithMarks l.lane (take l.mark-index l.marks) l.initial.all.items l.all.items
