use Rattle.law_running_logs.proofs.LogRight.{log_is_right}
use Rattle.law_running_logs.proofs.laws.the_merged_log_is_right_where_the_relation_goes_on.Goals as goal

pub returns : goal.returns
returns c = λ reading goes. log_is_right reading (c.the_ledger_follows_where_the_relation_goes_on.ensures.follows reading goes) (c.the_ledger_follows_where_the_relation_goes_on.ensures.stands reading goes)
