use Rattle.law_running_logs.proofs.LedgerRuns.{acts_told}
use Rattle.law_running_logs.proofs.ledger.the_points_tell_all_that_is_done.Goals as goal

pub returns : goal.returns
returns c = λ reading s u acts run. acts_told run
