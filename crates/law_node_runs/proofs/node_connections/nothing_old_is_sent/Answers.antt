use Rattle.law_node_runs.proofs.OldBytes.{nothing_old}
use Rattle.law_node_runs.proofs.node_connections.nothing_old_is_sent.Goals as goal

pub returns : goal.returns
returns c = nothing_old
