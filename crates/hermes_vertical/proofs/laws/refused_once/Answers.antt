use Rattle.hermes_vertical.specs.Spelling.{refusal_of}
use Rattle.hermes_horizontal.proofs.Answering.{one_refusal}
use Rattle.hermes_vertical.proofs.laws.refused_once.Goals as goal

pub returns : goal.returns
returns c = λ bytes. one_refusal refusal_of bytes (c.spelled_once.ensures bytes) (c.refused_once.ensures bytes) (c.refused_or_spelled.ensures bytes)
