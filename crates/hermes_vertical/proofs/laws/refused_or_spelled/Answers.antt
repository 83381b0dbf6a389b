use Rattle.hermes_horizontal.proofs.Answering.{never_both}
use Rattle.hermes_vertical.proofs.Messages.{vertical}
use Rattle.hermes_vertical.proofs.laws.refused_or_spelled.Goals as goal

pub returns : goal.returns
returns c = λ bytes. never_both vertical bytes (c.spelled_once.ensures bytes) (c.refused_or_spelled.ensures bytes)
