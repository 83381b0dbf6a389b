use Rattle.node_commands.specs.Command.{is_one}
use Rattle.node_commands.proofs.Beginning.{begin_again}
use Rattle.node_cli.proofs.BookAnswering.{answers_so, one_book_answer}
use Rattle.node_cli.proofs.book_call.node_book_main.Goals as goal

pub returns-clause-does : goal.returns-clause-does
returns-clause-does g c = c.run_with_book.ensures.does

pub returns-clause-fits : goal.returns-clause-fits
returns-clause-fits g c = c.run_with_book.ensures.fits

pub returns-clause-causes : goal.returns-clause-causes
returns-clause-causes g c = c.run_with_book.ensures.causes

pub returns-clause-unread : goal.returns-clause-unread
returns-clause-unread g c = c.run_with_book.ensures.unread

pub returns-clause-one_book : goal.returns-clause-one_book
returns-clause-one_book g c = c.a_book_has_one_answer.ensures

pub returns-clause-again : goal.returns-clause-again
returns-clause-again g c = begin_again c.a_kept_book_is_resumed.ensures c.the_entries_are_the_steps.ensures

pub returns-clause-owns : goal.returns-clause-owns
returns-clause-owns g c = c.what_a_machine_owns_is_read_off_its_log.ensures

pub returns-clause-bounded : goal.returns-clause-bounded
returns-clause-bounded g c = c.too_much_text_closes_a_way.ensures

pub returns-clause-complete : goal.returns-clause-complete
returns-clause-complete g c = answers_so (is_one c.args.words.now) _ _ _ _ _ _ _ _ _ _ _ _ _ _ _ c.run_with_book.ensures.does c.run_with_book.ensures.causes

pub returns-clause-determined : goal.returns-clause-determined
returns-clause-determined g c = one_book_answer c.a_book_has_one_answer.ensures c.a_run_over_a_book_is_one.ensures

pub returns-clause-one_kept : goal.returns-clause-one_kept
returns-clause-one_kept g c = c.a_run_over_a_book_is_one.ensures

pub returns-clause-first : goal.returns-clause-first
returns-clause-first g c = c.the_call_of_a_move_comes_before_its_step.ensures

pub returns-clause-connections : goal.returns-clause-connections
returns-clause-connections g c = c.the_bytes_of_a_connection_are_in_order.ensures

pub returns-clause-settles : goal.returns-clause-settles
returns-clause-settles g c = c.the_settings_are_those_of_the_last_set.ensures

pub returns-clause-neighbours : goal.returns-clause-neighbours
returns-clause-neighbours g c = c.woven_nodes_run_behind_the_reading.ensures.stand

pub returns-clause-over_tcp : goal.returns-clause-over_tcp
returns-clause-over_tcp g c = c.what_carries_bytes_in_order_is_enough.ensures.stand

pub returns-clause-as_ever : goal.returns-clause-as_ever
returns-clause-as_ever g c = c.behind_turn_0_a_run_is_as_ever.ensures

pub returns-clause-anew : goal.returns-clause-anew
returns-clause-anew g c = c.a_new_machine_runs_as_ever.ensures

pub returns-clause-power_cut : goal.returns-clause-power_cut
returns-clause-power_cut g c = c.a_power_cut_is_survived.ensures

pub returns-clause-stop : goal.returns-clause-stop
returns-clause-stop g c = c.a_stop_is_turn_0.ensures.one

pub returns-clause-since : goal.returns-clause-since
returns-clause-since g c = c.nothing_old_is_sent.ensures

pub returns-clause-runs : goal.returns-clause-runs
returns-clause-runs g c = c.woven_nodes_run_behind_the_reading.ensures.runs

pub returns-clause-woven : goal.returns-clause-woven
returns-clause-woven g c = c.what_carries_bytes_in_order_is_enough.ensures.woven

pub returns-clause-logs : goal.returns-clause-logs
returns-clause-logs g c = c.the_merged_log_over_tcp_is_right.ensures
