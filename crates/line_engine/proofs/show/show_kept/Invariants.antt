use Rattle.std.proofs.Common.{◌≡◌, ◌++◌, drop}
use Rattle.line_report.specs.Lanes.{told_on}
use Rattle.line_step.specs.Shown.{kept_shown}
use Rattle.line_engine.proofs.show.show_kept.Given as goal

abbrev pub invariant-loop-board : goal.invariant-loop-board
invariant-loop-board l = l.told ++ told_on l.lane (kept_shown l.machine (drop l.board-index l.kept)) ≡ l.initial.told ++ told_on l.lane (kept_shown l.machine l.kept)
