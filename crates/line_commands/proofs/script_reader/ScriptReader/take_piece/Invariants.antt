use Rattle.std.proofs.Common.{◌≡◌, false, length}
use Rattle.line_commands.specs.Reader.{IsTaking}
use Rattle.line_commands.proofs.script_reader.ScriptReader.take_piece.Given as goal

abbrev pub invariant-loop-line : goal.invariant-loop-line
invariant-loop-line l = record {
  taking : IsTaking l.initial.self l.self l.piece l.rest l.initial.to.items l.to.items;
  unspent : l.self.state.spent ≡ false;
}

abbrev pub decreases-loop-line : goal.decreases-loop-line
decreases-loop-line l = length l.rest
