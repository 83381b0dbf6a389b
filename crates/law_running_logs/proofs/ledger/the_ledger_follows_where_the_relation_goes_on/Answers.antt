use Rattle.law_running_logs.proofs.LedgerRuns.{ledger_follows, stands_along}
use Rattle.law_running_logs.proofs.ledger.the_ledger_follows_where_the_relation_goes_on.Goals as goal

pub returns-clause-follows : goal.returns-clause-follows
returns-clause-follows c = λ reading goes. ledger_follows reading goes

pub returns-clause-stands : goal.returns-clause-stands
returns-clause-stands c = λ reading goes. stands_along reading goes
