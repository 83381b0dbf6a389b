use Rattle.canonical_frames.proofs.Values.{pointed_value}
use Rattle.canonical_frames.proofs.digits.behind_pointed_decimal.Goals as goal

pub returns : goal.returns
returns c =
    pointed_value c.split_digits-whole.result.digits.now c.split_digits-fraction.result.digits.now c.args.bytes.now c.split_digits-whole.result.rest.now c.in_ok-point.point.now c.split_digits-fraction.result.rest.now c.in_ok-rest.rest.now
    c.split_digits-whole.ensures.digits c.split_digits-fraction.ensures.digits (c.is_whole.ensures c.if-not-is_whole.false) (c.is_fraction.ensures c.if-not-is_fraction.false)
    c.split_digits-whole.ensures.parts c.in_ok-point.ensures c.split_digits-fraction.ensures.parts c.in_ok-rest.ensures
