use Rattle.hermes_horizontal.proofs.Answering.{one_message}
use Rattle.hermes_vertical.proofs.Messages.{vertical}
use Rattle.hermes_vertical.proofs.laws.spelled_once.Goals as goal

pub returns : goal.returns
returns c = λ bytes. one_message vertical bytes (c.spelled_once.ensures bytes)
