use Rattle.hermes_element.proofs.Zeros.{zero_is_refused}
use Rattle.hermes_element.proofs.laws.zero_is_refused.Goals as goal

pub returns : goal.returns
returns c = zero_is_refused
