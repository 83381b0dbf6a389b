use Rattle.law_running_line.specs.Reading.{Behind}
use Rattle.law_running_logs.proofs.LedgerRuns.{ledger_follows, stands_along}
use Rattle.law_running_logs.proofs.ledger.the_ledger_follows_each_run_behind_the_reading.Goals as goal

pub returns-clause-goes_on : goal.returns-clause-goes_on
returns-clause-goes_on c = c.the_relation_goes_on_behind_the_reading.ensures.steps

pub returns-clause-follows : goal.returns-clause-follows
returns-clause-follows c = ledger_follows Behind c.the_relation_goes_on_behind_the_reading.ensures.steps

pub returns-clause-stands : goal.returns-clause-stands
returns-clause-stands c = stands_along Behind c.the_relation_goes_on_behind_the_reading.ensures.steps
