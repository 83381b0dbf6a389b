use Rattle.law_link_messages.proofs.Fitting.{fit_words_of_whole}
use Rattle.law_link_messages.proofs.laws.the_words_of_fit_messages_are_fit.Goals as goal

pub returns : goal.returns
returns c = λ old piece coming new still words messages sayable fit flows are. fit_words_of_whole c.one_meaning.ensures old piece coming new still words messages sayable fit flows are
