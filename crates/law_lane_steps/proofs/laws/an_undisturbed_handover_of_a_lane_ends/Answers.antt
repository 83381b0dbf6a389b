use Rattle.law_lanes.proofs.Home.{honest_track}
use Rattle.law_lane_steps.proofs.Ending.{ends_on}
use Rattle.law_lane_steps.proofs.laws.an_undisturbed_handover_of_a_lane_ends.Goals as goal

pub returns : goal.returns
returns c = ends_on (honest_track (record {
  oldest = c.the_words_of_a_piece_are_the_oldest_messages.ensures;
  wrong = c.a_frame_with_a_nul_is_a_wrong_word.ensures;
  sayable = c.fit_messages_are_sayable.ensures;
  fit_words = c.the_words_of_fit_messages_are_fit.ensures;
  fit_wrong = c.the_words_behind_a_nul_are_fit.ensures;
})) c.an_undisturbed_handover_ends_within_twelve_link_steps.ensures
