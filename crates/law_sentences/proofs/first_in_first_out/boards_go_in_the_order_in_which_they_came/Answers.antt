use Rattle.law_one_standing.proofs.Connected.{connects_bear}
use Rattle.law_sentences.proofs.Orders.{first_in_first_out}
use Rattle.law_sentences.proofs.first_in_first_out.boards_go_in_the_order_in_which_they_came.Goals as goal

pub returns : goal.returns
returns c = first_in_first_out (record {
  oldest = c.the_words_of_a_piece_are_the_oldest_messages.ensures;
  wrong = c.a_frame_with_a_nul_is_a_wrong_word.ensures;
  sayable = c.fit_messages_are_sayable.ensures;
  fit_words = c.the_words_of_fit_messages_are_fit.ensures;
  fit_wrong = c.the_words_behind_a_nul_are_fit.ensures;
}) connects_bear
