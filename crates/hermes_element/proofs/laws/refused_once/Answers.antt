use Rattle.hermes_element.proofs.Exact.{one_refusal}
use Rattle.hermes_element.proofs.laws.refused_once.Goals as goal

pub returns : goal.returns
returns c = one_refusal
