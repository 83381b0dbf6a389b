use Rattle.node_commands.specs.Command.{is_one}
use Rattle.node_cli.proofs.Answering.{answers_so, one_answer, outside_answers}
use Rattle.node_cli.proofs.main_call.node_main.Goals as goal

pub returns-clause-does : goal.returns-clause-does
returns-clause-does g c = c.run_named.ensures.does

pub returns-clause-fits : goal.returns-clause-fits
returns-clause-fits g c = c.run_named.ensures.fits

pub returns-clause-causes : goal.returns-clause-causes
returns-clause-causes g c = c.run_named.ensures.causes

pub returns-clause-owns : goal.returns-clause-owns
returns-clause-owns g c = c.what_a_machine_owns_is_read_off_its_log.ensures

pub returns-clause-bounded : goal.returns-clause-bounded
returns-clause-bounded g c = c.too_much_text_closes_a_way.ensures

pub returns-clause-complete : goal.returns-clause-complete
returns-clause-complete g c = answers_so (is_one c.args.words.now) _ _ _ _ _ _ _ _ _ _ _ _ _ c.run_named.ensures.does c.run_named.ensures.causes

pub returns-clause-determined : goal.returns-clause-determined
returns-clause-determined g c = one_answer c.a_run_is_one.ensures.whole

pub returns-clause-each : goal.returns-clause-each
returns-clause-each g c = outside_answers c.each_outside_has_one_run.ensures

pub returns-clause-one : goal.returns-clause-one
returns-clause-one g c = c.a_run_is_one.ensures.whole

pub returns-clause-part : goal.returns-clause-part
returns-clause-part g c = c.a_run_is_one.ensures.part

pub returns-clause-connections : goal.returns-clause-connections
returns-clause-connections g c = c.the_bytes_of_a_connection_are_in_order.ensures

pub returns-clause-settles : goal.returns-clause-settles
returns-clause-settles g c = c.the_settings_are_those_of_the_last_set.ensures

pub returns-clause-neighbours : goal.returns-clause-neighbours
returns-clause-neighbours g c = c.woven_nodes_run_behind_the_reading.ensures.stand

pub returns-clause-over_tcp : goal.returns-clause-over_tcp
returns-clause-over_tcp g c = c.what_carries_bytes_in_order_is_enough.ensures.stand

pub returns-clause-since : goal.returns-clause-since
returns-clause-since g c = c.nothing_old_is_sent.ensures

pub returns-clause-runs : goal.returns-clause-runs
returns-clause-runs g c = c.woven_nodes_run_behind_the_reading.ensures.runs

pub returns-clause-woven : goal.returns-clause-woven
returns-clause-woven g c = c.what_carries_bytes_in_order_is_enough.ensures.woven

pub returns-clause-logs : goal.returns-clause-logs
returns-clause-logs g c = c.the_merged_log_over_tcp_is_right.ensures
