use Rattle.std.proofs.Common.{◌<◌, ◌≤◌, ◌+◌, ◌-◌, length}
use Rattle.stream_text.specs.Stream.{ReadsOn}
use Rattle.stream_text.specs.StreamReader.{IsOver}
use Rattle.stream_text.proofs.reading.read_pieces.Given as goal

abbrev pub invariant-loop-count : goal.invariant-loop-count
invariant-loop-count g l = record {
  on : ReadsOn (g.S.Source.left l.fn.stream) (g.S.Source.left l.stream) (g.K.Sink.contents l.fn.text_to) (g.K.Sink.contents l.text_to) l.cutter l.far l.text.items;
  over : IsOver l.far.too_long l.cutter;
  most : l.far.taken ≤ 1073741824;
  bounded : l.far.done + length l.cutter ≤ l.far.taken;
  reads : g.S.Source.faults l.fn.stream ≤ g.S.Source.faults l.stream;
  writes : g.K.Sink.faults l.fn.text_to ≤ g.K.Sink.faults l.text_to;
  room : 0 < length l.room;
}

-- each piece has a byte at least
abbrev pub decreases-loop-count : goal.decreases-loop-count
decreases-loop-count g l = 1073741824 - l.far.taken
