use Rattle.law_sentences.proofs.Along.{stays_within}
use Rattle.law_sentences.proofs.Links.{links_stay_within}
use Rattle.law_sentences.proofs.line_bounds.a_line_stays_within_its_bounds.Goals as goal

pub returns-clause-machines : goal.returns-clause-machines
returns-clause-machines c = stays_within

pub returns-clause-links : goal.returns-clause-links
returns-clause-links c = links_stay_within
