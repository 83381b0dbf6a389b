use Rattle.std.proofs.Common.{ℕ, List, ◌++◌, ap, ◌∙◌}
use Rattle.canonical_frames.proofs.frame.is_row.Goals as goal

pub returns-in-Some : goal.returns-in-Some
returns-in-Some c = λ ends. record {
  kind = c.likely_kind-kind.result;
  recognised = c.ends_frame.ensures.recognised ends;
  row = c.in-Some.row.now;
  named = c.in-Some.ensures ∙ ap (λ (t : List ℕ). t ++ c.in-Some.row.now) (c.as_bytes.ensures.value ∙ c.text.ensures);
  assigned = c.ends_frame.ensures.assigned ends;
}
