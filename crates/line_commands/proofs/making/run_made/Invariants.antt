use Rattle.std.proofs.Common.{◌≡◌, false}
use Rattle.line_commands.specs.Making.{IsFolding}
use Rattle.line_commands.proofs.making.run_made.Given as goal

abbrev pub invariant-loop-line : goal.invariant-loop-line
invariant-loop-line l = record {
  unspent : l.run.spent ≡ false;
  folding : IsFolding l.yielded l.run l.fold l.told.items;
}
