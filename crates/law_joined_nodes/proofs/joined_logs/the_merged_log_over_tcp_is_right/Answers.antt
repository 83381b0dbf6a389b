use Rattle.law_running_line.specs.Reading.{Behind}
use Rattle.law_joined_nodes.proofs.PouredLogging.{poured_log_right}
use Rattle.law_joined_nodes.proofs.joined_logs.the_merged_log_over_tcp_is_right.Goals as goal

pub returns : goal.returns
returns c = poured_log_right c.the_relation_goes_on_behind_the_reading.ensures.steps (c.the_relation_goes_on_behind_the_reading.ensures.new Behind) c.the_merged_log_of_a_run_behind_the_reading_is_right.ensures
