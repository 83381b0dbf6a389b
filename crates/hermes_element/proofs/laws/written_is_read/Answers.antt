use Rattle.hermes_element.proofs.Back.{read_back}
use Rattle.hermes_element.proofs.laws.written_is_read.Goals as goal

pub returns : goal.returns
returns c = read_back
