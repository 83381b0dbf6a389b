use Rattle.law_one_standing.proofs.Connected.{connects_bear}
use Rattle.law_one_standing.proofs.Reached.{custody_along, ids_along, ledger_along, stands_along}
use Rattle.law_one_standing.proofs.laws.what_a_run_leads_to.Goals as goal

pub returns-clause-standing : goal.returns-clause-standing
returns-clause-standing c = stands_along (record {
  oldest = c.the_words_of_a_piece_are_the_oldest_messages.ensures;
  wrong = c.a_frame_with_a_nul_is_a_wrong_word.ensures;
  sayable = c.fit_messages_are_sayable.ensures;
  fit_words = c.the_words_of_fit_messages_are_fit.ensures;
  fit_wrong = c.the_words_behind_a_nul_are_fit.ensures;
}) connects_bear

pub returns-clause-custody : goal.returns-clause-custody
returns-clause-custody c = custody_along (record {
  oldest = c.the_words_of_a_piece_are_the_oldest_messages.ensures;
  wrong = c.a_frame_with_a_nul_is_a_wrong_word.ensures;
  sayable = c.fit_messages_are_sayable.ensures;
  fit_words = c.the_words_of_fit_messages_are_fit.ensures;
  fit_wrong = c.the_words_behind_a_nul_are_fit.ensures;
}) connects_bear

pub returns-clause-ids : goal.returns-clause-ids
returns-clause-ids c = ids_along (record {
  oldest = c.the_words_of_a_piece_are_the_oldest_messages.ensures;
  wrong = c.a_frame_with_a_nul_is_a_wrong_word.ensures;
  sayable = c.fit_messages_are_sayable.ensures;
  fit_words = c.the_words_of_fit_messages_are_fit.ensures;
  fit_wrong = c.the_words_behind_a_nul_are_fit.ensures;
}) connects_bear

pub returns-clause-ledger : goal.returns-clause-ledger
returns-clause-ledger c = ledger_along (record {
  oldest = c.the_words_of_a_piece_are_the_oldest_messages.ensures;
  wrong = c.a_frame_with_a_nul_is_a_wrong_word.ensures;
  sayable = c.fit_messages_are_sayable.ensures;
  fit_words = c.the_words_of_fit_messages_are_fit.ensures;
  fit_wrong = c.the_words_behind_a_nul_are_fit.ensures;
}) connects_bear
