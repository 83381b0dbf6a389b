use Rattle.std.proofs.Common.{All, subst, arith, take_all}
use Rattle.std.proofs.lemmas.List.Elements.{All-more}
use Rattle.law_report_lines.proofs.ProperOn.{IsProperPart, proper_parts}
use Rattle.law_report_lines.proofs.proper.parts_are_proper.Goals as goal

pub loop-part-preserved : goal.loop-part-preserved
loop-part-preserved c =
    All-more IsProperPart c.args.parts.now c.loop-part.part-index c.part-item.result c.loop-part-test.true c.loop-part.invariant (subst IsProperPart c.part-item.is c.part_is_proper.ensures)

pub returns : goal.returns
returns c = proper_parts c.args.parts.now (subst (All IsProperPart) (take_all c.loop-part.part-index c.args.parts.now (omega (arith, c.loop-part-test.false))) c.loop-part.invariant)
