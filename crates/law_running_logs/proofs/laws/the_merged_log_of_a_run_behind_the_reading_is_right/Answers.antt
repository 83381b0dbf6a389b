use Rattle.law_running_line.specs.Reading.{Behind}
use Rattle.law_running_logs.proofs.LogRight.{log_is_right}
use Rattle.law_running_logs.proofs.laws.the_merged_log_of_a_run_behind_the_reading_is_right.Goals as goal

pub returns : goal.returns
returns c = log_is_right Behind c.the_ledger_follows_each_run_behind_the_reading.ensures.follows c.the_ledger_follows_each_run_behind_the_reading.ensures.stands
