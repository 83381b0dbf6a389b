use Rattle.law_custody.proofs.Promised.{description_was_said}
use Rattle.law_custody.proofs.laws.a_board_settles_only_when_it_is_said.Goals as goal

pub returns-clause-description : goal.returns-clause-description
returns-clause-description c = λ g l service rest row q s k is keep recalls. description_was_said g l service rest row q s k is keep recalls
