use Rattle.law_custody.proofs.Promised.{board_begun}
use Rattle.law_custody.proofs.laws.a_board_in_the_gap_is_held_upstream.Goals as goal

pub returns : goal.returns
returns c = λ g l a k e. board_begun g l a k e
