use Rattle.std.proofs.Common.{◌≡◌, ◌-◌, false, length}
use Rattle.restart_book.specs.Replay.{IsReached}
use Rattle.restart_book.proofs.replay.replay.Given as goal

abbrev pub invariant-entries : goal.invariant-entries
invariant-entries l = record {
  reached : IsReached l.initial.node l.initial.drives l.book l.at l.node l.drives;
  awake : l.node.spent ≡ false;
}

abbrev pub decreases-entries : goal.decreases-entries
decreases-entries l = length l.book - l.at
