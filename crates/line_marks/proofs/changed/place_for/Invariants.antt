use Rattle.line_marks.proofs.Places.{IsPassed}
use Rattle.line_marks.proofs.changed.place_for.Given as goal

abbrev pub invariant-loop-place : goal.invariant-loop-place
invariant-loop-place l = IsPassed l.id l.place l.ids
