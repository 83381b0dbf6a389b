use Rattle.std.proofs.Common.{◌≡◌, true}
use Rattle.law_custody.proofs.Promised.{new_contents}
use Rattle.law_custody.proofs.laws.a_new_link_stands.Goals as goal

pub returns-clause-contents : goal.returns-clause-contents
returns-clause-contents c = λ gone. new_contents (λ id. gone id ≡ true)
