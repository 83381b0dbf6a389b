use Rattle.std.proofs.Common.{◌≡◌, ◌≤◌, ◌-◌, vec_len}
use Rattle.log_verdict.specs.LogReader.{progress_of}
use Rattle.log_verdict.specs.Reading.{GoesOn}
use Rattle.log_verdict.proofs.reading.read_log.Given as goal

abbrev pub invariant-loop-count : goal.invariant-loop-count
invariant-loop-count g l = record {
  going : GoesOn (g.S.Source.left l.fn.log) (g.S.Source.left l.log) l.reader;
  reads : g.S.Source.faults l.fn.log ≤ g.S.Source.faults l.log;
  room : vec_len l.room ≡ 65536;
  bounded : progress_of l.reader ≤ 4099004097;
}

-- a log has at most a million lines of at most 4,097 bytes and their ends
abbrev pub decreases-loop-count : goal.decreases-loop-count
decreases-loop-count g l = 4099004098 - progress_of l.reader
