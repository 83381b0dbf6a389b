use Rattle.hermes_element.proofs.Exact.{never_both}
use Rattle.hermes_element.proofs.laws.refused_or_spelled.Goals as goal

pub returns : goal.returns
returns c = never_both
