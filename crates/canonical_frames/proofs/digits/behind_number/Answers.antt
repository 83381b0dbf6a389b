use Rattle.std.proofs.Common.{ℕ, List, ◌++◌, ap, ◌∙◌}
use Rattle.canonical_frames.proofs.Values.{number_value}
use Rattle.canonical_frames.proofs.digits.behind_number.Goals as goal

pub returns : goal.returns
returns c = number_value c.split_digits-number.result.digits.now c.args.bytes.now c.in_ok-rest.rest.now c.split_digits-number.ensures.digits (c.is_whole.ensures c.if-not-is_whole.false) (c.split_digits-number.ensures.parts ∙ ap (λ (t : List ℕ). c.split_digits-number.result.digits.now ++ t) c.in_ok-rest.ensures)
