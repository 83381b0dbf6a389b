use Rattle.step_rules.proofs.SpokenSteps.{each_spoken}
use Rattle.step_rules.proofs.spoken.each_step_is_spoken.Goals as goal

pub returns : goal.returns
returns c = each_spoken
