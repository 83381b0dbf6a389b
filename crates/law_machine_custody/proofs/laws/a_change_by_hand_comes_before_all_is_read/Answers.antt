use Rattle.law_machine_custody.proofs.FrontRead.{reads_front}
use Rattle.law_machine_custody.proofs.Step.{insert_ahead, mark_ahead, remove_ahead, replace_ahead, sub_ahead}
use Rattle.law_machine_custody.proofs.laws.a_change_by_hand_comes_before_all_is_read.Goals as goal

pub returns-clause-insert : goal.returns-clause-insert
returns-clause-insert v = λ afar above ga gb gone desk read rest id barcode body c g r idle grows here. insert_ahead gone desk read id barcode body c (reads_front desk read rest body c g r) idle grows here

pub returns-clause-remove : goal.returns-clause-remove
returns-clause-remove v = λ afar above ga gb gone desk read rest id body c g r u there grows is_gone here. remove_ahead gone desk read id body c (reads_front desk read rest body c g r) u there grows is_gone here

pub returns-clause-replace : goal.returns-clause-replace
returns-clause-replace v = λ afar above ga gb gone desk read rest old new body c g r u there grows is_gone here. replace_ahead gone desk read old new body c (reads_front desk read rest body c g r) u there grows is_gone here

pub returns-clause-mark : goal.returns-clause-mark
returns-clause-mark v = λ afar above ga gb desk read rest id quality body c g r plain. mark_ahead desk read id quality body c (reads_front desk read rest body c g r) plain

pub returns-clause-sub : goal.returns-clause-sub
returns-clause-sub v = λ afar above ga gb desk read rest id sub body c g r plain. sub_ahead desk read id sub body c (reads_front desk read rest body c g r) plain
