use Rattle.law_running_logs.proofs.LogRight.{own_line}
use Rattle.law_running_logs.proofs.laws.a_merged_line_is_the_machines_own.Goals as goal

pub returns : goal.returns
returns c = λ machine number turn act. own_line machine number turn act
