use Rattle.node_core.proofs.Meaning.{one_word}
use Rattle.node_core.proofs.laws.one_meaning.Goals as goal

pub returns : goal.returns
returns c = one_word c.spelled_once.ensures c.refused_once.ensures
