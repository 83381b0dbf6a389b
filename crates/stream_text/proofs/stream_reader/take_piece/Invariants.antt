use Rattle.std.proofs.Common.{◌≤◌, ◌+◌, ◌-◌, ◌*◌, take, length}
use Rattle.stream_text.specs.StreamReader.{TakesFrames}
use Rattle.stream_text.proofs.stream_reader.take_piece.Given as goal

-- the frames of the piece's front were taken off
abbrev pub invariant-loop-frame : goal.invariant-loop-frame
invariant-loop-frame l = record {
  within : l.at ≤ length l.piece;
  frames : TakesFrames l.initial.cutter l.cutter (take l.at l.piece) l.done l.count l.initial.to.items l.to.items;
  bounded : l.count + length l.cutter ≤ l.done + length l.initial.cutter + l.at;
}

abbrev pub decreases-loop-frame : goal.decreases-loop-frame
decreases-loop-frame l = 2 * (length l.piece - l.at) + length l.cutter
