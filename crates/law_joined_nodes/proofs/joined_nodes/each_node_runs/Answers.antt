use Rattle.law_joined_nodes.proofs.Projected.{each_node_runs}
use Rattle.law_joined_nodes.proofs.joined_nodes.each_node_runs.Goals as goal

pub returns : goal.returns
returns c = each_node_runs
