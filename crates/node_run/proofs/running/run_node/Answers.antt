use Rattle.node_run.proofs.Moving.{ends_before, ends_started}
use Rattle.node_run.proofs.running.run_node.Goals as goal

pub returns-in-Err-clause-runs : goal.returns-in-Err-clause-runs
returns-in-Err-clause-runs g c = ends_before _ _ _ _ _

pub returns-in-Err-new_run-clause-runs : goal.returns-in-Err-new_run-clause-runs
returns-in-Err-new_run-clause-runs g c = ends_before _ _ _ _ _

pub returns-clause-runs : goal.returns-clause-runs
returns-clause-runs g c = ends_started _ _ _ _ c.in-Ok-new_run.run' _ _ _ _ c.run_on-status.result c.in-Ok-new_run.ensures c.run_on-status.ensures.runs
