use Rattle.node_run.proofs.Owns.{own_follows}
use Rattle.node_run.proofs.laws.what_a_machine_owns_follows_from_its_log.Goals as goal

pub returns : goal.returns
returns c = own_follows
