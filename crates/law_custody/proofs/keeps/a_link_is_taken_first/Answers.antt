use Rattle.law_custody.proofs.Taken.{come_contents, comes_below}
use Rattle.law_custody.proofs.keeps.a_link_is_taken_first.Goals as goal

pub returns-clause-link : goal.returns-clause-link
returns-clause-link c = λ g l service down k may x up y d. comes_below g l service down k may x up y d

pub returns-clause-contents : goal.returns-clause-contents
returns-clause-contents c = λ gone g l service down kept k y d. come_contents g l service down kept k y d
