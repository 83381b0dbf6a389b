use Rattle.std.proofs.Common.{sym, ◌∙◌, subst, inl, refl, Err}
use Rattle.hermes_element.specs.Machine.{outcome}
use Rattle.hermes_element.specs.Steps.{ReadsOutcome, Meets}
use Rattle.hermes_element.proofs.Exact.{outcome_stop}
use Rattle.hermes_element.proofs.read.read_by_outcome.Goals as goal

pub returns-in-Err-Shape : goal.returns-in-Err-Shape
returns-in-Err-Shape c =
    let bytes = c.args.bytes.now in
    let stops = subst (λ s. Meets (outcome bytes) s) c.in-Err-Shape.field-0-is c.in-Err-Shape.ensures in
    subst (λ e. ReadsOutcome bytes (Err e)) (sym c.shape_refusal.ensures) (inl (sym (outcome_stop bytes) ∙ stops, refl))
