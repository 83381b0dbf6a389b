use Rattle.law_node_runs.proofs.Turning.{runs_as_ever}
use Rattle.law_node_runs.proofs.kept_runs.behind_turn_0_a_run_is_as_ever.Goals as goal

pub returns : goal.returns
returns c = runs_as_ever
