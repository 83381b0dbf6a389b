use Rattle.config_service.proofs.Answering.{one_refusal}
use Rattle.config_service.proofs.laws.refused_once.Goals as goal

pub returns : goal.returns
returns c = λ bytes. one_refusal bytes (c.spelled_once.ensures bytes) (c.refused_once.ensures bytes) (c.refused_or_spelled.ensures bytes)
