use Rattle.law_machine_custody.proofs.Joining.{first_accepts, first_calls}
use Rattle.law_machine_custody.proofs.laws.a_first_connection_keeps_both_links.Goals as goal

pub returns-clause-call : goal.returns-clause-call
returns-clause-call c = λ afar above ga gb desk unread body scene good apart free. (first_calls desk unread body scene good apart free).goes

pub returns-clause-real : goal.returns-clause-real
returns-clause-real c = λ afar above ga gb desk unread body scene good apart free. (first_calls desk unread body scene good apart free).real

pub returns-clause-take : goal.returns-clause-take
returns-clause-take c = λ afar above ga gb desk unread body scene service good apart shakes. first_accepts desk unread body scene service good apart shakes
