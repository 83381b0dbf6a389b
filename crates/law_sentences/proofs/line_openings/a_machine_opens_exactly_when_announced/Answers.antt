use Rattle.law_sentences.proofs.OpeningRunning.{opens_when_announced}
use Rattle.law_sentences.proofs.line_openings.a_machine_opens_exactly_when_announced.Goals as goal

pub returns : goal.returns
returns c = opens_when_announced
