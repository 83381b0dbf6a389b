use Rattle.std.proofs.Common.{◌≡◌, ◌<◌, ◌≤◌, ◌-◌, false, length}
use Rattle.line_commands.specs.LineEnds.{HasNoEnd}
use Rattle.line_commands.specs.Reader.{progress_of}
use Rattle.line_commands.specs.Ending.{GoesOn}
use Rattle.line_commands.proofs.running.run_pieces.Given as goal

abbrev pub invariant-loop-count : goal.invariant-loop-count
invariant-loop-count g l = record {
  going : GoesOn (g.S.Source.left l.fn.script) (g.S.Source.left l.script) (g.K.Sink.contents l.fn.report) (g.K.Sink.contents l.report) l.reader l.text.items;
  reads : g.S.Source.faults l.fn.script ≤ g.S.Source.faults l.script;
  writes : g.K.Sink.faults l.fn.report ≤ g.K.Sink.faults l.report;
  room : 0 < length l.room;
  small : length l.room ≤ 65536;
  waits : HasNoEnd l.reader.pending;
  unspent : l.reader.state.spent ≡ false;
  bounded : progress_of l.reader ≤ 4099004097;
}

-- a script has at most a million lines of at most 4,097 bytes and their ends
abbrev pub decreases-loop-count : goal.decreases-loop-count
decreases-loop-count g l = 4099004098 - progress_of l.reader
