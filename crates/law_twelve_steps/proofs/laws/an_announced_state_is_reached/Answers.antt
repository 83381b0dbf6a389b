use Rattle.law_twelve_steps.proofs.Played.{is_reached_announced}
use Rattle.law_twelve_steps.proofs.laws.an_announced_state_is_reached.Goals as goal

pub returns : goal.returns
returns c = is_reached_announced (record {
  oldest = c.the_words_of_a_piece_are_the_oldest_messages.ensures;
  wrong = c.a_frame_with_a_nul_is_a_wrong_word.ensures;
  sayable = c.fit_messages_are_sayable.ensures;
  fit_words = c.the_words_of_fit_messages_are_fit.ensures;
  fit_wrong = c.the_words_behind_a_nul_are_fit.ensures;
})
