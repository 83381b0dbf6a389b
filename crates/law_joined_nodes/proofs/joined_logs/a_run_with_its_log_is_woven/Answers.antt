use Rattle.law_joined_nodes.proofs.Logging.{woven_too}
use Rattle.law_joined_nodes.proofs.joined_logs.a_run_with_its_log_is_woven.Goals as goal

pub returns : goal.returns
returns c = woven_too
