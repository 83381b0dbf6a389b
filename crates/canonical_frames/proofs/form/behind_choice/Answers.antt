use Rattle.std.proofs.Common.{ℕ, List, ◌∷◌, ap, ◌∙◌}
use Rattle.canonical_frames.proofs.Values.{choice_value}
use Rattle.canonical_frames.proofs.form.behind_choice.Goals as goal

pub returns : goal.returns
returns c = choice_value c.args.low c.args.high c.in_ok-digit.digit.byte c.args.bytes.now c.in_ok-rest.rest.now (c.is_choice.ensures c.if-not-is_choice.false) (c.in_ok-digit.ensures ∙ ap (λ (t : List ℕ). c.in_ok-digit.digit.byte ∷ t) c.in_ok-rest.ensures)
