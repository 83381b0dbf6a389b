use Rattle.std.proofs.Common.{◌≡◌, ◌+◌, ◌-◌, ◌≤◌, drop}
use Rattle.board_traces.specs.Texts.{count_of}
use Rattle.board_traces.proofs.boards.Boards.count.Given as goal

abbrev pub invariant-loop-place : goal.invariant-loop-place
invariant-loop-place l = (l.count + count_of l.sort (drop l.place l.self) ≡ count_of l.sort l.self) × ((l.count ≤ l.place) × (l.place ≤ l.all))

abbrev pub decreases-loop-place : goal.decreases-loop-place
decreases-loop-place l = l.all - l.place
