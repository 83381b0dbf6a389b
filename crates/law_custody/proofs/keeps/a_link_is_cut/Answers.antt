use Rattle.law_custody.proofs.LinkEvents.{cut_contents}
use Rattle.law_custody.proofs.keeps.a_link_is_cut.Goals as goal

pub returns-clause-contents : goal.returns-clause-contents
returns-clause-contents c = λ gone l kept c. cut_contents l kept c
