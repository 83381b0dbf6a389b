use Rattle.std.proofs.Common.{length, ◌-◌, ◌≤◌, take}
use Rattle.line_outside.specs.Sink.{Grows}
use Rattle.line_outside.proofs.pushing.push_all.Given as goal

-- the bytes before this place were appended
abbrev pub invariant-loop-at : goal.invariant-loop-at
invariant-loop-at g l = record {
  within : l.at ≤ length l.bytes;
  grown : Grows (g.K.Sink.contents l.fn.sink) (g.K.Sink.contents l.sink) (take l.at l.bytes);
  counts : g.K.Sink.faults l.fn.sink ≤ g.K.Sink.faults l.sink;
}

abbrev pub decreases-loop-at : goal.decreases-loop-at
decreases-loop-at g l = length l.bytes - l.at
