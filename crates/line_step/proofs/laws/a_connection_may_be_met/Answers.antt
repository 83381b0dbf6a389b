use Rattle.line_step.proofs.Connecting.{above_may, above_there}
use Rattle.line_step.proofs.laws.a_connection_may_be_met.Goals as goal

pub returns-clause-there : goal.returns-clause-there
returns-clause-there c = above_there

pub returns-clause-may : goal.returns-clause-may
returns-clause-may c = above_may
