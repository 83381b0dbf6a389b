use Rattle.law_running_line.specs.Reading.{Strictly}
use Rattle.law_running_logs.proofs.LedgerRuns.{ledger_follows, stands_along, strictly_goes}
use Rattle.law_running_logs.proofs.ledger.the_ledger_follows_each_run_that_reads_first.Goals as goal

pub returns-clause-goes_on : goal.returns-clause-goes_on
returns-clause-goes_on c = strictly_goes c.the_relation_goes_on_in_a_turn.ensures.related

pub returns-clause-follows : goal.returns-clause-follows
returns-clause-follows c = ledger_follows Strictly (strictly_goes c.the_relation_goes_on_in_a_turn.ensures.related)

pub returns-clause-stands : goal.returns-clause-stands
returns-clause-stands c = stands_along Strictly (strictly_goes c.the_relation_goes_on_in_a_turn.ensures.related)
