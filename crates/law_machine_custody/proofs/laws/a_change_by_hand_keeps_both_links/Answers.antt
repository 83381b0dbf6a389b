use Rattle.law_machine_custody.proofs.Step.{gets_goes, gives_goes, insert_goes, mark_goes, remove_goes, replace_goes, sub_goes}
use Rattle.law_machine_custody.proofs.laws.a_change_by_hand_keeps_both_links.Goals as goal

pub returns-clause-insert : goal.returns-clause-insert
returns-clause-insert c = λ afar above ga gb gone desk unread id barcode body scene good idle grows here. insert_goes gone desk unread id barcode body scene good idle grows here

pub returns-clause-remove : goal.returns-clause-remove
returns-clause-remove c = λ afar above ga gb gone desk unread id body scene good unique there grows is_gone here. remove_goes gone desk unread id body scene good unique there grows is_gone here

pub returns-clause-replace : goal.returns-clause-replace
returns-clause-replace c = λ afar above ga gb gone desk unread old new body scene good unique there grows is_gone here. replace_goes gone desk unread old new body scene good unique there grows is_gone here

pub returns-clause-mark : goal.returns-clause-mark
returns-clause-mark c = λ afar above ga gb desk unread id quality body scene good plain. mark_goes desk unread id quality body scene good plain

pub returns-clause-sub : goal.returns-clause-sub
returns-clause-sub c = λ afar above ga gb desk unread id sub body scene good plain. sub_goes desk unread id sub body scene good plain

pub returns-clause-gives : goal.returns-clause-gives
returns-clause-gives c = λ afar above ga gb desk unread id to body scene good other. gives_goes desk unread id to body scene good other

pub returns-clause-gets : goal.returns-clause-gets
returns-clause-gets c = λ afar above ga gb desk unread board body scene good idle here. gets_goes desk unread board body scene good idle here
