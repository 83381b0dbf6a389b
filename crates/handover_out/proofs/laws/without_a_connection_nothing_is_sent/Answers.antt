use Rattle.handover_out.proofs.Deeds.{all_silent}
use Rattle.handover_out.proofs.laws.without_a_connection_nothing_is_sent.Goals as goal

pub returns-clause-run : goal.returns-clause-run
returns-clause-run c = λ s inputs unlinked own. all_silent s inputs unlinked own
