use Rattle.std.proofs.Common.{◌≡◌, ◌++◌, ◌-◌, ◌≤◌, drop}
use Rattle.board_traces.specs.Texts.{boards_text}
use Rattle.board_traces.proofs.boards.Boards.write.Given as goal

abbrev pub invariant-loop-place : goal.invariant-loop-place
invariant-loop-place l = (l.to.items ++ boards_text (drop l.place l.self) ≡ l.initial.to.items ++ boards_text l.self) × (l.place ≤ l.all)

abbrev pub decreases-loop-place : goal.decreases-loop-place
decreases-loop-place l = l.all - l.place
