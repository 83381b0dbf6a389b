use Rattle.law_joined_nodes.proofs.JoinedBytes.{found_was_said}
use Rattle.law_joined_nodes.proofs.joined_nodes.what_is_found_was_said.Goals as goal

pub returns : goal.returns
returns c = found_was_said
