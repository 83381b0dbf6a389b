use Rattle.law_custody.proofs.Promised.{board_across}
use Rattle.law_custody.proofs.laws.a_board_across_the_gap_is_held_downstream.Goals as goal

pub returns : goal.returns
returns c = λ g l a k e. board_across g l a k e
