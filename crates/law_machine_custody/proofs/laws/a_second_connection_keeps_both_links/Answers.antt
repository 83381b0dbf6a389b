use Rattle.law_machine_custody.proofs.Answering.{seconds_go}
use Rattle.law_machine_custody.proofs.Connecting.{connects_go}
use Rattle.law_machine_custody.proofs.laws.a_second_connection_keeps_both_links.Goals as goal

pub returns-clause-call : goal.returns-clause-call
returns-clause-call c = λ afar above ga gb desk unread body scene good apart free off. connects_go desk unread body scene good apart free off

pub returns-clause-answer : goal.returns-clause-answer
returns-clause-answer c = λ afar above ga gb desk unread body scene good. seconds_go desk unread body scene good
