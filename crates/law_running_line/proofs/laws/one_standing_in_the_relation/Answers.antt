use Rattle.law_running_line.proofs.OneStand.{one_standing_of}
use Rattle.law_running_line.proofs.laws.one_standing_in_the_relation.Goals as goal

pub returns : goal.returns
returns c = λ s r. one_standing_of r.trace s r.stands
