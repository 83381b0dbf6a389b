use Rattle.node_run.proofs.Bounded.{bounded}
use Rattle.node_run.proofs.laws.too_much_text_closes_a_way.Goals as goal

pub returns : goal.returns
returns c = bounded
