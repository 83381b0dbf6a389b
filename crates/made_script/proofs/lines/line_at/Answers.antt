use Rattle.std.proofs.Common.{◌∙◌, ne_eqb}
use Rattle.made_script.proofs.Places.{at_few, part_handover}
use Rattle.made_script.proofs.lines.line_at.Goals as goal

pub returns-clause-line : goal.returns-clause-line
returns-clause-line c =
    c.handover_line.ensures ∙ part_handover c.args.round c.args.step (ne_eqb c.args.round 0 c.if-round-eq0.false) c.if-step-eq0.false c.if-step-eq-LAST_STEP.false

pub returns-clause-few : goal.returns-clause-few
returns-clause-few c =
    at_few c.handover_line.result c.args.round c.args.step (c.handover_line.ensures ∙ part_handover c.args.round c.args.step (ne_eqb c.args.round 0 c.if-round-eq0.false) c.if-step-eq0.false c.if-step-eq-LAST_STEP.false)
