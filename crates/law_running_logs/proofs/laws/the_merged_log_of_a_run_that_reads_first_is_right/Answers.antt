use Rattle.law_running_line.specs.Reading.{Strictly}
use Rattle.law_running_logs.proofs.LogExample.{has_a_log}
use Rattle.law_running_logs.proofs.LogRight.{log_is_right}
use Rattle.law_running_logs.proofs.laws.the_merged_log_of_a_run_that_reads_first_is_right.Goals as goal

pub returns-clause-right : goal.returns-clause-right
returns-clause-right c = log_is_right Strictly c.the_ledger_follows_each_run_that_reads_first.ensures.follows c.the_ledger_follows_each_run_that_reads_first.ensures.stands

pub returns-clause-some : goal.returns-clause-some
returns-clause-some c = has_a_log
