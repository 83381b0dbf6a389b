use Rattle.std.proofs.Common.{ℕ, List, ◌∷◌, ◌++◌, ap, ◌∙◌}
use Rattle.canonical_frames.proofs.moment.behind_two.Goals as goal

pub returns : goal.returns
returns c = record {
  below = c.in_ok-number.ensures.below;
  spelled = c.in_ok-first.ensures ∙ ap (λ (t : List ℕ). c.in_ok-first.first.byte ∷ t) c.in_ok-second.ensures ∙ ap (λ (t : List ℕ). t ++ c.in_ok-second.second.rest.now) c.in_ok-number.ensures.digits;
}
