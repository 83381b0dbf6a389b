use Rattle.law_node_runs.proofs.Whole.{connections_are_in_order}
use Rattle.law_node_runs.proofs.node_connections.the_bytes_of_a_connection_are_in_order.Goals as goal

pub returns : goal.returns
returns c = connections_are_in_order
