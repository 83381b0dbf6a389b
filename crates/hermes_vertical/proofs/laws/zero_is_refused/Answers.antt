use Rattle.std.proofs.Common.{◌∷◌, ◌++◌}
use Rattle.hermes_horizontal.specs.declared.fault.Fault.TheVariants as faults
use Rattle.hermes_vertical.specs.Spelling.{refusal_of}
use Rattle.hermes_horizontal.proofs.Answering.{formless_so}
use Rattle.hermes_vertical.proofs.laws.zero_is_refused.Goals as goal

pub returns : goal.returns
returns c = λ front rest.
    let form = c.zero_is_refused.ensures front rest in
    record { at = form.at; why = faults.Form form.reason; near = form.near; refused = formless_so refusal_of (front ++ 0 ∷ rest) form.at form.reason form.refused }
