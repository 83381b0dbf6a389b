use Rattle.std.proofs.Common.{◌≡◌, ◌+◌, ◌++◌, drop, map}
use Rattle.standings.specs.Marks.{marks_from}
use Rattle.line_step.specs.State.{owned_by}
use Rattle.line_marks.proofs.marks.Marks.add_from.Given as goal

abbrev pub invariant-loop-node : goal.invariant-loop-node
invariant-loop-node l = (l.number ≡ l.first + l.node-index) × (l.self ++ marks_from l.number (map owned_by (drop l.node-index l.machines)) l.id ≡ l.initial.self ++ marks_from l.first (map owned_by l.machines) l.id)
