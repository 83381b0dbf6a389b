use Rattle.std.proofs.Common.{length}
use Rattle.log_verdict.specs.LogReader.{IsTaking}
use Rattle.log_verdict.proofs.log_reader.LogReader.take_piece.Given as goal

abbrev pub invariant-loop-line : goal.invariant-loop-line
invariant-loop-line l = IsTaking l.initial.self l.self l.piece l.rest

abbrev pub decreases-loop-line : goal.decreases-loop-line
decreases-loop-line l = length l.rest
