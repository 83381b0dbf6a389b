use Rattle.hermes_element.proofs.Back.{one_spelling}
use Rattle.hermes_element.proofs.laws.one_spelling.Goals as goal

pub returns : goal.returns
returns c = one_spelling
