use Rattle.std.proofs.Common.{◌≡◌, drop}
use Rattle.standings.specs.Marks.{has_mark}
use Rattle.standings.proofs.mark.has_mark.Given as goal

-- the mark is among all exactly where it is among those from here on
abbrev pub invariant-loop-other : goal.invariant-loop-other
invariant-loop-other l = has_mark l.mark l.marks ≡ has_mark l.mark (drop l.other-index l.marks)
