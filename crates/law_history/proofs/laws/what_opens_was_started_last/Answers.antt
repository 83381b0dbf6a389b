use Rattle.law_one_standing.proofs.Connected.{connects_bear}
use Rattle.law_history.proofs.OpenedRun.{what_opens_started}
use Rattle.law_history.proofs.laws.what_opens_was_started_last.Goals as goal

pub returns : goal.returns
returns c = what_opens_started (record {
  oldest = c.the_words_of_a_piece_are_the_oldest_messages.ensures;
  wrong = c.a_frame_with_a_nul_is_a_wrong_word.ensures;
  sayable = c.fit_messages_are_sayable.ensures;
  fit_words = c.the_words_of_fit_messages_are_fit.ensures;
  fit_wrong = c.the_words_behind_a_nul_are_fit.ensures;
}) connects_bear
