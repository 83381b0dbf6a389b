use Rattle.step_rules.proofs.Steps.{step_made}
use Rattle.step_rules.proofs.laws.a_step_is_made_of_pieces.Goals as goal

pub returns : goal.returns
returns c = step_made
