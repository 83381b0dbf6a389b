use Rattle.law_custody.proofs.Promised.{description_was_let_go}
use Rattle.law_custody.proofs.laws.a_settled_board_was_let_go.Goals as goal

pub returns-clause-description : goal.returns-clause-description
returns-clause-description c = λ g l service rest row q last k is keep lets. description_was_let_go g l service rest row q last k is keep lets
