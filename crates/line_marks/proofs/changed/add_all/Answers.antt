use Rattle.std.proofs.Common.{arith}
use Rattle.line_marks.proofs.Places.{ids_end}
use Rattle.line_marks.proofs.changed.add_all.Goals as goal

pub returns : goal.returns
returns c = ids_end c.args.told.now c.loop-happening.happening-index c.loop-happening.ids.items _ (omega arith) c.loop-happening.invariant
