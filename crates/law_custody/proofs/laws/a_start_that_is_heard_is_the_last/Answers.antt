use Rattle.law_custody.proofs.Promised.{start_is_last}
use Rattle.law_custody.proofs.laws.a_start_that_is_heard_is_the_last.Goals as goal

pub returns : goal.returns
returns c = λ l z rest last dropped a. start_is_last l z rest last dropped a
