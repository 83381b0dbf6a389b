use Rattle.law_lanes.proofs.Along.{each_front_is, each_lane_is, each_record_is, each_stands}
use Rattle.law_lanes.proofs.Home.{honest_track}
use Rattle.law_lanes.proofs.laws.each_lane_is_a_track.Goals as goal

pub returns-clause-tracks : goal.returns-clause-tracks
returns-clause-tracks c = each_lane_is (honest_track (record {
  oldest = c.the_words_of_a_piece_are_the_oldest_messages.ensures;
  wrong = c.a_frame_with_a_nul_is_a_wrong_word.ensures;
  sayable = c.fit_messages_are_sayable.ensures;
  fit_words = c.the_words_of_fit_messages_are_fit.ensures;
  fit_wrong = c.the_words_behind_a_nul_are_fit.ensures;
}))

pub returns-clause-standing : goal.returns-clause-standing
returns-clause-standing c = each_stands (honest_track (record {
  oldest = c.the_words_of_a_piece_are_the_oldest_messages.ensures;
  wrong = c.a_frame_with_a_nul_is_a_wrong_word.ensures;
  sayable = c.fit_messages_are_sayable.ensures;
  fit_words = c.the_words_of_fit_messages_are_fit.ensures;
  fit_wrong = c.the_words_behind_a_nul_are_fit.ensures;
}))

pub returns-clause-one_lane : goal.returns-clause-one_lane
returns-clause-one_lane c = each_record_is (honest_track (record {
  oldest = c.the_words_of_a_piece_are_the_oldest_messages.ensures;
  wrong = c.a_frame_with_a_nul_is_a_wrong_word.ensures;
  sayable = c.fit_messages_are_sayable.ensures;
  fit_words = c.the_words_of_fit_messages_are_fit.ensures;
  fit_wrong = c.the_words_behind_a_nul_are_fit.ensures;
}))

pub returns-clause-fronts : goal.returns-clause-fronts
returns-clause-fronts c = each_front_is (honest_track (record {
  oldest = c.the_words_of_a_piece_are_the_oldest_messages.ensures;
  wrong = c.a_frame_with_a_nul_is_a_wrong_word.ensures;
  sayable = c.fit_messages_are_sayable.ensures;
  fit_words = c.the_words_of_fit_messages_are_fit.ensures;
  fit_wrong = c.the_words_behind_a_nul_are_fit.ensures;
}))
