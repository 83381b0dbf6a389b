use Rattle.law_lanes.proofs.Reached.{none_reached, reached_more}
use Rattle.law_lanes.proofs.laws.a_run_over_lanes_goes_on.Goals as goal

pub returns-clause-first : goal.returns-clause-first
returns-clause-first c = none_reached

pub returns-clause-more : goal.returns-clause-more
returns-clause-more c = reached_more
