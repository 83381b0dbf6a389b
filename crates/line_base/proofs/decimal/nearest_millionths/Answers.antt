use Rattle.std.proofs.Common.{ap, sym, ◌∙◌, arith}
use Rattle.line_base.specs.Decimal.{limited}
use Rattle.line_base.proofs.Nearest.{nearest_of_raised, nearest_of_lowered}
use Rattle.line_base.proofs.decimal.nearest_millionths.Goals as goal

pub returns-then-lower-raise : goal.returns-then-lower-raise
returns-then-lower-raise c =
    c.raised.ensures ∙ ap limited (sym (nearest_of_raised c.args.number c.args.raise c.args.lower (omega arith)))

pub returns-else-lower-raise : goal.returns-else-lower-raise
returns-else-lower-raise c =
    c.lowered.ensures ∙ ap limited (sym (nearest_of_lowered c.args.number c.args.raise c.args.lower (omega arith)))
