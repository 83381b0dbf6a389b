use Rattle.law_joined_nodes.proofs.Asking.{asks_where_it_may}
use Rattle.law_joined_nodes.proofs.joined_nodes.a_connection_is_asked_for_where_it_can_be_taken.Goals as goal

pub returns : goal.returns
returns c = asks_where_it_may
