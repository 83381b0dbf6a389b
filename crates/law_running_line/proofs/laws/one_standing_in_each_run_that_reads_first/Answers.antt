use Rattle.law_running_line.proofs.TurnWhole.{runs_have_one_standing, runs_have_unique_ids}
use Rattle.law_running_line.proofs.laws.one_standing_in_each_run_that_reads_first.Goals as goal

pub returns-clause-standing : goal.returns-clause-standing
returns-clause-standing c = λ s u told new differ run. runs_have_one_standing (record {
  oldest = c.the_words_of_a_piece_are_the_oldest_messages.ensures;
  wrong = c.a_frame_with_a_nul_is_a_wrong_word.ensures;
  sayable = c.fit_messages_are_sayable.ensures;
  fit_words = c.the_words_of_fit_messages_are_fit.ensures;
  fit_wrong = c.the_words_behind_a_nul_are_fit.ensures;
}) s u told new differ run

pub returns-clause-ids : goal.returns-clause-ids
returns-clause-ids c = λ s u told new differ run. runs_have_unique_ids (record {
  oldest = c.the_words_of_a_piece_are_the_oldest_messages.ensures;
  wrong = c.a_frame_with_a_nul_is_a_wrong_word.ensures;
  sayable = c.fit_messages_are_sayable.ensures;
  fit_words = c.the_words_of_fit_messages_are_fit.ensures;
  fit_wrong = c.the_words_behind_a_nul_are_fit.ensures;
}) s u told new differ run
