use Rattle.law_joined_nodes.proofs.EachMove.{each_move_does}
use Rattle.law_joined_nodes.proofs.joined_nodes.each_move_does.Goals as goal

pub returns : goal.returns
returns c = each_move_does
