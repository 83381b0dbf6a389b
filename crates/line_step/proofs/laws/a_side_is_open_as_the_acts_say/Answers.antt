use Rattle.step_rules.proofs.Opening.{steps_open}
use Rattle.line_step.proofs.laws.a_side_is_open_as_the_acts_say.Goals as goal

pub returns : goal.returns
returns c = steps_open
