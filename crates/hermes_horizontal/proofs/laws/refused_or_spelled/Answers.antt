use Rattle.hermes_horizontal.proofs.Answering.{never_both}
use Rattle.hermes_horizontal.proofs.Messages.{horizontal}
use Rattle.hermes_horizontal.proofs.laws.refused_or_spelled.Goals as goal

pub returns : goal.returns
returns c = λ bytes. never_both horizontal bytes (c.spelled_once.ensures bytes) (c.refused_or_spelled.ensures bytes)
