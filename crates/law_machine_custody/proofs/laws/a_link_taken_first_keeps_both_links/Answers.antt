use Rattle.law_machine_custody.proofs.ComingLast.{comes_go}
use Rattle.law_machine_custody.proofs.laws.a_link_taken_first_keeps_both_links.Goals as goal

pub returns : goal.returns
returns c = λ afar above ga gb desk unread body scene down good away may shakes up quiet. comes_go desk unread body scene down good away may shakes up quiet
