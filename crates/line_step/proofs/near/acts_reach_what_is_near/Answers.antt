use Rattle.line_step.proofs.Nearby.{acts_near}
use Rattle.line_step.proofs.near.acts_reach_what_is_near.Goals as goal

pub returns : goal.returns
returns c = acts_near
