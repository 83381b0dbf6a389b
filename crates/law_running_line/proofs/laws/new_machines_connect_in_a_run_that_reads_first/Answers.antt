use Rattle.law_running_line.proofs.Begins.{begins}
use Rattle.law_running_line.proofs.laws.new_machines_connect_in_a_run_that_reads_first.Goals as goal

pub returns : goal.returns
returns c = begins
