use Rattle.law_machine_custody.proofs.Cutting.{all_met_cut, cut_good}
use Rattle.law_machine_custody.proofs.laws.a_cut_keeps_both_links.Goals as goal

pub returns-clause-kept : goal.returns-clause-kept
returns-clause-kept c = λ afar above unread ga gb body scene side good. cut_good side good

pub returns-clause-commutes : goal.returns-clause-commutes
returns-clause-commutes c = λ side told scene. all_met_cut side told scene
