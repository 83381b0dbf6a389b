use Rattle.std.proofs.Common.{refl, arith}
use Rattle.line_base.proofs.Digits.{value_of-append, joined-lt}
use Rattle.line_base.proofs.Nearest.{one_le_ten_pow}
use Rattle.line_base.proofs.decimal.joined_value.Goals as goal

pub overflow_mul-result : goal.overflow_mul-result
overflow_mul-result c =
    let few = c.requires.whole.few in
    let others = c.requires.fraction.few in
    let joined = joined-lt c.digits_value.result c.pow-weight.result 0 _ _ c.digits_value.ensures.below c.pow-weight.ensures (one_le_ten_pow _) few others in
    omega arith

pub overflow_add-result : goal.overflow_add-result
overflow_add-result c =
    let few = c.requires.whole.few in
    let others = c.requires.fraction.few in
    let joined = joined-lt c.digits_value.result c.pow-weight.result c.digits_value-2.result _ _ c.digits_value.ensures.below c.pow-weight.ensures c.digits_value-2.ensures.below few others in
    omega arith

pub returns-clause-same : goal.returns-clause-same
returns-clause-same c =
    rw (value_of-append c.args.whole.now c.args.fraction.now, c.digits_value.ensures.same, c.digits_value-2.ensures.same, c.pow-weight.ensures) refl

pub returns-clause-below : goal.returns-clause-below
returns-clause-below c =
    joined-lt c.digits_value.result c.pow-weight.result c.digits_value-2.result _ _ c.digits_value.ensures.below c.pow-weight.ensures c.digits_value-2.ensures.below c.requires.whole.few c.requires.fraction.few
