use Rattle.std.proofs.Common.{ℕ, List, ◌++◌, ap, ◌∙◌}
use Rattle.canonical_frames.proofs.Values.{decimal_value}
use Rattle.canonical_frames.proofs.Decimals.{whole_text}
use Rattle.canonical_frames.proofs.digits.behind_whole_decimal.Goals as goal

pub returns : goal.returns
returns c = decimal_value c.split_digits-whole.result.digits.now c.args.bytes.now c.in_ok-rest.rest.now (whole_text c.split_digits-whole.result.digits.now c.split_digits-whole.ensures.digits (c.is_whole.ensures c.if-not-is_whole.false)) (c.split_digits-whole.ensures.parts ∙ ap (λ (t : List ℕ). c.split_digits-whole.result.digits.now ++ t) c.in_ok-rest.ensures)
