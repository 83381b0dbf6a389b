use Rattle.law_running_line.proofs.BehindRuns.{new_related, step_related}
use Rattle.law_running_line.proofs.laws.the_relation_goes_on_behind_the_reading.Goals as goal

pub returns-clause-new : goal.returns-clause-new
returns-clause-new c = λ reading s new differ. new_related reading s new differ

pub returns-clause-steps : goal.returns-clause-steps
returns-clause-steps c = λ before after told steps r. step_related (record {
  oldest = c.the_words_of_a_piece_are_the_oldest_messages.ensures;
  wrong = c.a_frame_with_a_nul_is_a_wrong_word.ensures;
  sayable = c.fit_messages_are_sayable.ensures;
  fit_words = c.the_words_of_fit_messages_are_fit.ensures;
  fit_wrong = c.the_words_behind_a_nul_are_fit.ensures;
}) steps r
