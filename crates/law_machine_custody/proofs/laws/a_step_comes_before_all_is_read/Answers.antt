use Rattle.law_machine_custody.proofs.Step.{plain_front}
use Rattle.law_machine_custody.proofs.laws.a_step_comes_before_all_is_read.Goals as goal

pub returns-clause-links : goal.returns-clause-links
returns-clause-links v = λ afar above ga gb desk read rest event body c plain in_time offers g r n. (plain_front desk read rest event body c plain in_time offers g r n).goes

pub returns-clause-free : goal.returns-clause-free
returns-clause-free v = λ afar above ga gb desk read rest event body c plain in_time offers g r n. (plain_front desk read rest event body c plain in_time offers g r n).read
