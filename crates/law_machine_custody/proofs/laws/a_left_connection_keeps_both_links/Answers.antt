use Rattle.law_machine_custody.proofs.Answering.{lefts_go}
use Rattle.law_machine_custody.proofs.laws.a_left_connection_keeps_both_links.Goals as goal

pub returns : goal.returns
returns c = λ afar above ga gb desk unread body scene good. lefts_go desk unread body scene good
