use Rattle.law_machine_custody.proofs.Fronts.{fronts_go}
use Rattle.law_machine_custody.proofs.laws.a_step_reads_a_front.Goals as goal

pub returns-clause-links : goal.returns-clause-links
returns-clause-links c = λ afar above ga gb desk read rest body scene good free. (fronts_go desk read rest body scene good free).goes

pub returns-clause-free : goal.returns-clause-free
returns-clause-free c = λ afar above ga gb desk read rest body scene good free. (fronts_go desk read rest body scene good free).read
