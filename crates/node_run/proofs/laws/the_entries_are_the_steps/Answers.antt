use Rattle.node_run.proofs.Replaying.{entries_are_the_steps}
use Rattle.node_run.proofs.laws.the_entries_are_the_steps.Goals as goal

pub returns : goal.returns
returns c = entries_are_the_steps
