use Rattle.line_step.proofs.FloorLaws.{ids_stay}
use Rattle.line_commands.specs.Command.{is_check, is_read, is_run}
use Rattle.line_commands.specs.Making.{made_number}
use Rattle.line_commands.proofs.FitScript.{scripts_are_fit}
use Rattle.line_commands.proofs.Fronts.{has_one_report}
use Rattle.line_cli.proofs.LedgerTold.{fronts_tell, reports_stand, reports_start, reports_tell}
use Rattle.line_cli.proofs.MadeOnce.{has_one_make_text}
use Rattle.stream_text.proofs.ReadFronts.{has_one_read_text}
use Rattle.line_cli.proofs.Spared.{spares}
use Rattle.line_cli.proofs.Tracks.{lanes_do, own_ids, shifts_keep}
use Rattle.line_cli.proofs.command.line_main.Goals as goal

pub returns-clause-does : goal.returns-clause-does
returns-clause-does g c = c.do_words.ensures.does

pub returns-clause-fits : goal.returns-clause-fits
returns-clause-fits g c = c.do_words.ensures.fits

pub returns-clause-causes : goal.returns-clause-causes
returns-clause-causes g c = c.do_words.ensures.causes

pub returns-clause-complete : goal.returns-clause-complete
returns-clause-complete g c = c.do_words.ensures.complete

pub returns-clause-report : goal.returns-clause-report
returns-clause-report g c = has_one_report c.each_script_on_lanes_has_a_run.ensures c.one_report.ensures

pub returns-clause-reading : goal.returns-clause-reading
returns-clause-reading g c = has_one_read_text c.read_once.ensures

pub returns-clause-made : goal.returns-clause-made
returns-clause-made g c = has_one_make_text c.each_script_on_lanes_has_a_run.ensures c.one_make_text.ensures

pub returns-clause-lanes : goal.returns-clause-lanes
returns-clause-lanes g c = c.each_lane_is_run.ensures.lanes

pub returns-clause-lane_fronts : goal.returns-clause-lane_fronts
returns-clause-lane_fronts g c = c.each_lane_is_run.ensures.fronts

pub returns-clause-lane_standing : goal.returns-clause-lane_standing
returns-clause-lane_standing g c = c.each_lane_is_run.ensures.standing

pub returns-clause-one_lane : goal.returns-clause-one_lane
returns-clause-one_lane g c = c.each_lane_is_run.ensures.one_lane

pub returns-clause-lane_lines : goal.returns-clause-lane_lines
returns-clause-lane_lines g c = lanes_do c.each_lane_does_its_lines.ensures

pub returns-clause-shifts : goal.returns-clause-shifts
returns-clause-shifts g c = shifts_keep c.each_shift_leaves_the_record.ensures

pub returns-clause-lane_ids : goal.returns-clause-lane_ids
returns-clause-lane_ids g c = own_ids c.ids_are_new_on_all_lanes.ensures

pub returns-clause-alone : goal.returns-clause-alone
returns-clause-alone g c = c.a_script_of_one_lane_is_a_track.ensures

pub returns-clause-ids : goal.returns-clause-ids
returns-clause-ids g c = ids_stay

pub returns-clause-standing : goal.returns-clause-standing
returns-clause-standing g c = c.one_standing_after_each_line.ensures

pub returns-clause-there : goal.returns-clause-there
returns-clause-there g c = c.standings_name_what_is_there.ensures

pub returns-clause-custody : goal.returns-clause-custody
returns-clause-custody g c = c.the_custody_facts_hold_after_each_line.ensures

pub returns-clause-ledger : goal.returns-clause-ledger
returns-clause-ledger g c = c.the_ledger_follows_the_report.ensures

pub returns-clause-tells : goal.returns-clause-tells
returns-clause-tells g c = reports_tell c.a_report_tells_the_ledger_of_each_lane.ensures

pub returns-clause-told : goal.returns-clause-told
returns-clause-told g c = reports_stand c.a_report_tells_the_standings_of_each_lane.ensures

pub returns-clause-starts : goal.returns-clause-starts
returns-clause-starts g c = reports_start c.a_report_tells_the_starts_of_each_lane.ensures

pub returns-clause-fronts : goal.returns-clause-fronts
returns-clause-fronts g c = fronts_tell c.a_front_tells_the_ledger_of_each_lane.ensures

pub returns-clause-order : goal.returns-clause-order
returns-clause-order g c = c.boards_go_in_the_order_in_which_they_came.ensures

pub returns-clause-contents : goal.returns-clause-contents
returns-clause-contents g c = c.contents_are_kept_over_each_line.ensures

pub returns-clause-whole : goal.returns-clause-whole
returns-clause-whole g c = c.contents_stay_whole.ensures

pub returns-clause-blame : goal.returns-clause-blame
returns-clause-blame g c = c.a_breach_is_told_only_behind_a_spoiled_text.ensures

pub returns-clause-opens : goal.returns-clause-opens
returns-clause-opens g c = c.a_machine_opens_exactly_when_announced.ensures

pub returns-clause-answers : goal.returns-clause-answers
returns-clause-answers g c = c.each_query_has_one_answer.ensures

pub returns-clause-replay : goal.returns-clause-replay
returns-clause-replay g c = c.the_replay_agrees_with_the_marks.ensures

pub returns-clause-fit : goal.returns-clause-fit
returns-clause-fit g c = scripts_are_fit

pub returns-clause-said : goal.returns-clause-said
returns-clause-said g c = c.boards_settle_when_it_is_said.ensures

pub returns-clause-settles : goal.returns-clause-settles
returns-clause-settles g c = c.what_settles_is_what_left.ensures

pub returns-clause-offered : goal.returns-clause-offered
returns-clause-offered g c = c.what_settles_was_offered.ensures

pub returns-clause-started : goal.returns-clause-started
returns-clause-started g c = c.what_an_intake_holds_was_started_last.ensures

pub returns-clause-asked : goal.returns-clause-asked
returns-clause-asked g c = c.what_opens_was_started_last.ensures

pub returns-clause-steps : goal.returns-clause-steps
returns-clause-steps g c = c.an_undisturbed_handover_ends_within_twelve_link_steps.ensures

pub returns-clause-lane_steps : goal.returns-clause-lane_steps
returns-clause-lane_steps g c = c.an_undisturbed_handover_of_a_lane_ends.ensures

pub returns-clause-goes_on : goal.returns-clause-goes_on
returns-clause-goes_on g c = c.whoever_goes_on_ends_it.ensures

pub returns-clause-lane_goes_on : goal.returns-clause-lane_goes_on
returns-clause-lane_goes_on g c = c.whoever_goes_on_a_lane_ends_it.ensures

pub returns-clause-right : goal.returns-clause-right
returns-clause-right g c =
    spares c.the_merged_log_of_a_run_that_reads_first_is_right.ensures.right c.the_merged_log_of_a_run_behind_the_reading_is_right.ensures
    (is_run c.args.words.now) (is_read c.args.words.now) (is_check c.args.words.now) (made_number c.args.words.now) (g.S.Source.left c.args.script.now) (g.S.Source.left c.do_words.new.script)
    (g.K.Sink.contents c.args.report.now) (g.K.Sink.contents c.do_words.new.report) (g.K.Sink.faults c.args.report.now) (g.K.Sink.faults c.do_words.new.report) c.do_words.result c.do_words.ensures.does

pub returns-clause-determined : goal.returns-clause-determined
returns-clause-determined g c = c.each_input_has_one_answer.ensures

pub returns-clause-announced : goal.returns-clause-announced
returns-clause-announced g c = c.an_announced_state_is_reached.ensures
