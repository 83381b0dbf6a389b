use Rattle.std.proofs.Common.{length, arith}
use Rattle.line_base.proofs.Digits.{value_of_more, value_of-take-few}
use Rattle.line_base.proofs.number.digits_value.Goals as goal

pub overflow_mul-value : goal.overflow_mul-value
overflow_mul-value c =
    omega (arith, value_of-take-few c.args.digits.now c.loop-digit.digit-index 19 c.requires.digits (omega arith) (omega arith), c.loop-digit.invariant)

pub overflow_add-value : goal.overflow_add-value
overflow_add-value c =
    omega (arith, value_of-take-few c.args.digits.now c.loop-digit.digit-index 19 c.requires.digits (omega arith) (omega arith), c.loop-digit.invariant, c.type_inv.digits c.loop-digit.digit-index)

pub loop-digit-preserved : goal.loop-digit-preserved
loop-digit-preserved c =
    omega (arith, value_of_more c.args.digits.now c.loop-digit.digit-index (omega arith), c.loop-digit.invariant)

pub returns-clause-below : goal.returns-clause-below
returns-clause-below c =
    omega (arith, value_of-take-few c.args.digits.now c.loop-digit.digit-index (length c.args.digits.now) c.requires.digits (omega arith) (omega arith), c.loop-digit.invariant)
