use Rattle.law_node_runs.proofs.PowerCut.{survived}
use Rattle.law_node_runs.proofs.kept_runs.a_power_cut_is_survived.Goals as goal

pub returns : goal.returns
returns c = survived c.a_kept_book_is_resumed.ensures
