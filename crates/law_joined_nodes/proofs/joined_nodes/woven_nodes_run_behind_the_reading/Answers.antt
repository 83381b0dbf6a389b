use Rattle.law_running_line.specs.Reading.{Behind}
use Rattle.law_joined_nodes.proofs.Weaving.{nodes_run, nodes_stand}
use Rattle.law_joined_nodes.proofs.joined_nodes.woven_nodes_run_behind_the_reading.Goals as goal

pub returns-clause-runs : goal.returns-clause-runs
returns-clause-runs c = nodes_run c.the_relation_goes_on_behind_the_reading.ensures.steps (c.the_relation_goes_on_behind_the_reading.ensures.new Behind)

pub returns-clause-stand : goal.returns-clause-stand
returns-clause-stand c = nodes_stand c.the_relation_goes_on_behind_the_reading.ensures.steps (c.the_relation_goes_on_behind_the_reading.ensures.new Behind) c.one_standing_in_the_relation.ensures
