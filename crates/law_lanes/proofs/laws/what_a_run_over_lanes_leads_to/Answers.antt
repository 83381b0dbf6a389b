use Rattle.law_lanes.proofs.Along.{floors_apart, ids_on_lanes, one_lane_along, stands_on_lanes, tracks_along}
use Rattle.law_lanes.proofs.Home.{honest_track}
use Rattle.law_lanes.proofs.laws.what_a_run_over_lanes_leads_to.Goals as goal

pub returns-clause-tracks : goal.returns-clause-tracks
returns-clause-tracks c = tracks_along (honest_track (record {
  oldest = c.the_words_of_a_piece_are_the_oldest_messages.ensures;
  wrong = c.a_frame_with_a_nul_is_a_wrong_word.ensures;
  sayable = c.fit_messages_are_sayable.ensures;
  fit_words = c.the_words_of_fit_messages_are_fit.ensures;
  fit_wrong = c.the_words_behind_a_nul_are_fit.ensures;
}))

pub returns-clause-standing : goal.returns-clause-standing
returns-clause-standing c = stands_on_lanes (honest_track (record {
  oldest = c.the_words_of_a_piece_are_the_oldest_messages.ensures;
  wrong = c.a_frame_with_a_nul_is_a_wrong_word.ensures;
  sayable = c.fit_messages_are_sayable.ensures;
  fit_words = c.the_words_of_fit_messages_are_fit.ensures;
  fit_wrong = c.the_words_behind_a_nul_are_fit.ensures;
}))

pub returns-clause-ids : goal.returns-clause-ids
returns-clause-ids c = ids_on_lanes (honest_track (record {
  oldest = c.the_words_of_a_piece_are_the_oldest_messages.ensures;
  wrong = c.a_frame_with_a_nul_is_a_wrong_word.ensures;
  sayable = c.fit_messages_are_sayable.ensures;
  fit_words = c.the_words_of_fit_messages_are_fit.ensures;
  fit_wrong = c.the_words_behind_a_nul_are_fit.ensures;
})) c.what_a_run_leads_to.ensures.ids

pub returns-clause-apart : goal.returns-clause-apart
returns-clause-apart c = floors_apart (honest_track (record {
  oldest = c.the_words_of_a_piece_are_the_oldest_messages.ensures;
  wrong = c.a_frame_with_a_nul_is_a_wrong_word.ensures;
  sayable = c.fit_messages_are_sayable.ensures;
  fit_words = c.the_words_of_fit_messages_are_fit.ensures;
  fit_wrong = c.the_words_behind_a_nul_are_fit.ensures;
}))

pub returns-clause-one_lane : goal.returns-clause-one_lane
returns-clause-one_lane c = one_lane_along (honest_track (record {
  oldest = c.the_words_of_a_piece_are_the_oldest_messages.ensures;
  wrong = c.a_frame_with_a_nul_is_a_wrong_word.ensures;
  sayable = c.fit_messages_are_sayable.ensures;
  fit_words = c.the_words_of_fit_messages_are_fit.ensures;
  fit_wrong = c.the_words_behind_a_nul_are_fit.ensures;
}))
