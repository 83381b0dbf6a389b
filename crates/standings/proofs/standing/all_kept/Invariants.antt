use Rattle.std.proofs.Common.{◌≡◌, drop}
use Rattle.std.specs.List.{list_all}
use Rattle.standings.specs.Standing.{is_kept_by}
use Rattle.standings.proofs.standing.all_kept.Given as goal

-- all marks are of the machine exactly where those from here on are
abbrev pub invariant-loop-mark : goal.invariant-loop-mark
invariant-loop-mark l = list_all (is_kept_by l.machine) l.marks ≡ list_all (is_kept_by l.machine) (drop l.mark-index l.marks)
