use Rattle.std.proofs.Common.{All, subst, arith, take_all}
use Rattle.std.proofs.lemmas.List.Elements.{All-more}
use Rattle.law_report_lines.specs.Proper.{GoesToALane}
use Rattle.law_report_lines.proofs.proper.shifts_are_proper.Goals as goal

pub loop-happening-preserved : goal.loop-happening-preserved
loop-happening-preserved c =
    All-more GoesToALane c.args.told.now c.loop-happening.happening-index c.happening-item.result c.loop-happening-test.true c.loop-happening.invariant (subst GoesToALane c.happening-item.is c.shift_is_proper.ensures)

pub returns : goal.returns
returns c = record { each = subst (All GoesToALane) (take_all c.loop-happening.happening-index c.args.told.now (omega (arith, c.loop-happening-test.false))) c.loop-happening.invariant }
