use Rattle.law_custody.proofs.ExitEvents.{offers_front_board}
use Rattle.law_custody.proofs.keeps.an_exit_announces.Goals as goal

pub returns-clause-offer : goal.returns-clause-offer
returns-clause-offer c = λ gone g l q ks k x o none c. offers_front_board g l q ks k x o none c
