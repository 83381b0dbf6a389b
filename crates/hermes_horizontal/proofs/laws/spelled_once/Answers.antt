use Rattle.hermes_horizontal.proofs.Answering.{one_message}
use Rattle.hermes_horizontal.proofs.Messages.{horizontal}
use Rattle.hermes_horizontal.proofs.laws.spelled_once.Goals as goal

pub returns : goal.returns
returns c = λ bytes. one_message horizontal bytes (c.spelled_once.ensures bytes)
