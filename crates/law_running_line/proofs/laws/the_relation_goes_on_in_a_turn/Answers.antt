use Rattle.law_running_line.proofs.TurnWhole.{turn_goes_on, turns_first}
use Rattle.law_running_line.proofs.laws.the_relation_goes_on_in_a_turn.Goals as goal

pub returns-clause-turned : goal.returns-clause-turned
returns-clause-turned c = λ t j input moment before after told st turn. turns_first (record {
  oldest = c.the_words_of_a_piece_are_the_oldest_messages.ensures;
  wrong = c.a_frame_with_a_nul_is_a_wrong_word.ensures;
  sayable = c.fit_messages_are_sayable.ensures;
  fit_words = c.the_words_of_fit_messages_are_fit.ensures;
  fit_wrong = c.the_words_behind_a_nul_are_fit.ensures;
}) t j input moment before after told st turn

pub returns-clause-related : goal.returns-clause-related
returns-clause-related c = λ machine input moment before after told turn r. turn_goes_on (record {
  oldest = c.the_words_of_a_piece_are_the_oldest_messages.ensures;
  wrong = c.a_frame_with_a_nul_is_a_wrong_word.ensures;
  sayable = c.fit_messages_are_sayable.ensures;
  fit_words = c.the_words_of_fit_messages_are_fit.ensures;
  fit_wrong = c.the_words_behind_a_nul_are_fit.ensures;
}) machine input moment before after told turn r
