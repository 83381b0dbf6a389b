use Rattle.law_node_runs.proofs.Owning.{kept_owns}
use Rattle.law_node_runs.proofs.kept_runs.what_a_machine_owns_is_read_off_its_log.Goals as goal

pub returns : goal.returns
returns c = kept_owns c.the_entries_are_the_steps.ensures
