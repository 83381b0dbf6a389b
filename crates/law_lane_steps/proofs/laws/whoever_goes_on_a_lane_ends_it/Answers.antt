use Rattle.law_lanes.proofs.Home.{honest_track}
use Rattle.law_lane_steps.proofs.Going.{goes_on}
use Rattle.law_lane_steps.proofs.laws.whoever_goes_on_a_lane_ends_it.Goals as goal

pub returns : goal.returns
returns c = goes_on (honest_track (record {
  oldest = c.the_words_of_a_piece_are_the_oldest_messages.ensures;
  wrong = c.a_frame_with_a_nul_is_a_wrong_word.ensures;
  sayable = c.fit_messages_are_sayable.ensures;
  fit_words = c.the_words_of_fit_messages_are_fit.ensures;
  fit_wrong = c.the_words_behind_a_nul_are_fit.ensures;
})) c.whoever_goes_on_ends_it.ensures
