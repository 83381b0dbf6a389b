use Rattle.std.proofs.Common.{◌≡◌, ◌++◌, drop, flat_map}
use Rattle.machine_log.specs.Texts.{kept_line}
use Rattle.node_run.proofs.show.write_all_kept.Given as goal

-- what is written and what is left to write are the whole
abbrev pub invariant-loop-board : goal.invariant-loop-board
invariant-loop-board l = l.to.items ++ flat_map (kept_line l.turn l.machine) (drop l.board-index l.boards) ≡ l.initial.to.items ++ flat_map (kept_line l.turn l.machine) l.boards
