use Rattle.std.proofs.Common.{◌≡◌, ◌≤◌, ◌-◌, false, length}
use Rattle.book_log.specs.One.{IsToldSo}
use Rattle.book_log.proofs.telling.tell_entries.Given as goal

-- the log of the entries so far
abbrev pub invariant-entries : goal.invariant-entries
invariant-entries g l = record {
  told : IsToldSo l.drives l.machine l.fn.node l.book l.at l.node (g.K.Sink.contents l.fn.log) (g.K.Sink.contents l.log);
  awake : l.node.spent ≡ false;
  faults : g.K.Sink.faults l.fn.log ≤ g.K.Sink.faults l.log;
}

abbrev pub decreases-entries : goal.decreases-entries
decreases-entries g l = length l.book - l.at
