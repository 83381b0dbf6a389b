use Rattle.node_run.proofs.Settling.{settings_are_the_last}
use Rattle.node_run.proofs.laws.the_settings_are_those_of_the_last_set.Goals as goal

pub returns : goal.returns
returns c = settings_are_the_last
