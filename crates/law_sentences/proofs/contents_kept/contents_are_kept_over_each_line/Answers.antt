use Rattle.law_sentences.proofs.Whole.{contents_are_kept}
use Rattle.law_sentences.proofs.contents_kept.contents_are_kept_over_each_line.Goals as goal

pub returns : goal.returns
returns c = contents_are_kept c.contents_stay_whole.ensures
