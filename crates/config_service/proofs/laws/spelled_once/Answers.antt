use Rattle.config_service.proofs.Answering.{one_message}
use Rattle.config_service.proofs.laws.spelled_once.Goals as goal

pub returns : goal.returns
returns c = λ bytes. one_message bytes (c.spelled_once.ensures bytes)
