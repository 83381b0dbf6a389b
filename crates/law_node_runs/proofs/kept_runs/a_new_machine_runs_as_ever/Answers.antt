use Rattle.law_node_runs.proofs.Staging.{new_as_ever}
use Rattle.law_node_runs.proofs.kept_runs.a_new_machine_runs_as_ever.Goals as goal

pub returns : goal.returns
returns c = new_as_ever
