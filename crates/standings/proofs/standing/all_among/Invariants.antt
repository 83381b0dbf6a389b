use Rattle.std.proofs.Common.{◌≡◌, drop}
use Rattle.standings.specs.Standing.{is_all_among}
use Rattle.standings.proofs.standing.all_among.Given as goal

-- all marks are among them exactly where those from here on are
abbrev pub invariant-loop-mark : goal.invariant-loop-mark
invariant-loop-mark l = is_all_among l.gap l.marks ≡ is_all_among l.gap (drop l.mark-index l.marks)
