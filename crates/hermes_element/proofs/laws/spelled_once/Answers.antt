use Rattle.hermes_element.proofs.Back.{spelled_once}
use Rattle.hermes_element.proofs.laws.spelled_once.Goals as goal

pub returns : goal.returns
returns c = spelled_once
