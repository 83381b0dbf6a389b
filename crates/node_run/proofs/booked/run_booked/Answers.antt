use Rattle.node_run.proofs.Booking.{ends_before_booked, ends_booked_started, memory_booked}
use Rattle.node_run.proofs.booked.run_booked.Goals as goal

pub returns-in-Err-clause-runs : goal.returns-in-Err-clause-runs
returns-in-Err-clause-runs g c = ends_before_booked _ _ _ _ _ _ _ c.requires.size

pub returns-in-Err-resumed_run-clause-runs : goal.returns-in-Err-resumed_run-clause-runs
returns-in-Err-resumed_run-clause-runs g c = ends_before_booked _ _ _ _ _ _ _ c.requires.size

pub returns-clause-runs : goal.returns-clause-runs
returns-clause-runs g c = ends_booked_started _ _ _ _ c.in-Ok-resumed_run.run' _ _ _ _ _ _ _ c.run_kept-status.result c.in-Ok-resumed_run.ensures c.run_kept-status.ensures.runs

pub returns-in-Err-clause-causes : goal.returns-in-Err-clause-causes
returns-in-Err-clause-causes g c = memory_booked _ _ _

pub returns-in-Err-resumed_run-clause-causes : goal.returns-in-Err-resumed_run-clause-causes
returns-in-Err-resumed_run-clause-causes g c = memory_booked _ _ _
