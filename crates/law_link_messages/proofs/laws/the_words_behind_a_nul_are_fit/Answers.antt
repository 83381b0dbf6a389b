use Rattle.law_link_messages.proofs.Fitting.{fit_words_of_spoiled}
use Rattle.law_link_messages.proofs.Spoiling.{nul_spells_none}
use Rattle.law_link_messages.proofs.laws.the_words_behind_a_nul_are_fit.Goals as goal

pub returns : goal.returns
returns c = λ old piece coming new still words spoiled are. fit_words_of_spoiled c.zero_is_refused.ensures c.refused_once.ensures (nul_spells_none c.zero_is_refused.ensures c.refused_or_spelled.ensures) old piece coming new still words spoiled are
