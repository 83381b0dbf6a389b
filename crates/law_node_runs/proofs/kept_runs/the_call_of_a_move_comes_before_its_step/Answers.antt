use Rattle.law_node_runs.proofs.Calling.{calls_first}
use Rattle.law_node_runs.proofs.kept_runs.the_call_of_a_move_comes_before_its_step.Goals as goal

pub returns : goal.returns
returns c = calls_first
