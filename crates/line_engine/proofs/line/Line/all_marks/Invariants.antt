use Rattle.line_engine.proofs.Marking.{AreMarksTo}
use Rattle.line_engine.proofs.line.Line.all_marks.Given as goal

abbrev pub invariant-loop-before : goal.invariant-loop-before
invariant-loop-before l = AreMarksTo l.self l.id l.before l.marks.items
