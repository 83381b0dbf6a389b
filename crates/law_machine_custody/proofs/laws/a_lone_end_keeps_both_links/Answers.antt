use Rattle.law_machine_custody.proofs.ComingLast.{comes_alone_go}
use Rattle.law_machine_custody.proofs.TakingAlone.{takes_go}
use Rattle.law_machine_custody.proofs.laws.a_lone_end_keeps_both_links.Goals as goal

pub returns-clause-above : goal.returns-clause-above
returns-clause-above c = λ afar above ga gb desk unread body scene up good away call. takes_go desk unread body scene up good away call

pub returns-clause-below : goal.returns-clause-below
returns-clause-below c = λ afar above ga gb desk unread body scene down good away may quiet. comes_alone_go desk unread body scene down good away may quiet
