use Rattle.config_service.proofs.Answering.{never_said}
use Rattle.config_service.proofs.laws.refused_or_spelled.Goals as goal

pub returns : goal.returns
returns c = λ bytes. never_said bytes (c.spelled_once.ensures bytes) (c.refused_or_spelled.ensures bytes)
