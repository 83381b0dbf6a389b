use Rattle.law_running_line.specs.Reading.{Strictly}
use Rattle.law_joined_nodes.proofs.Weaving.{first_goes, nodes_run, nodes_stand}
use Rattle.law_joined_nodes.proofs.joined_nodes.woven_nodes_run_that_read_first.Goals as goal

pub returns-clause-runs : goal.returns-clause-runs
returns-clause-runs c = nodes_run (first_goes c.the_relation_goes_on_in_a_turn.ensures.related) (c.the_relation_goes_on_behind_the_reading.ensures.new Strictly)

pub returns-clause-stand : goal.returns-clause-stand
returns-clause-stand c = nodes_stand (first_goes c.the_relation_goes_on_in_a_turn.ensures.related) (c.the_relation_goes_on_behind_the_reading.ensures.new Strictly) c.one_standing_in_the_relation.ensures
