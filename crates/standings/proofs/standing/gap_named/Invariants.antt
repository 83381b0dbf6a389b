use Rattle.std.proofs.Common.{◌≡◌, drop}
use Rattle.standings.specs.Standing.{gap_named}
use Rattle.standings.proofs.standing.gap_named.Given as goal

-- the first mark in a gap is that of those from here on
abbrev pub invariant-loop-mark : goal.invariant-loop-mark
invariant-loop-mark l = gap_named l.marks ≡ gap_named (drop l.mark-index l.marks)
