use Rattle.law_link_messages.proofs.Hearing.{hears_whole}
use Rattle.law_link_messages.proofs.laws.the_words_of_a_piece_are_the_oldest_messages.Goals as goal

pub returns : goal.returns
returns c = λ old piece coming new still words messages sayable flows are. hears_whole c.one_meaning.ensures old piece coming new still words messages sayable flows are
