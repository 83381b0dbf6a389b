use Rattle.law_joined_nodes.proofs.PouredLogging.{poured_too}
use Rattle.law_joined_nodes.proofs.joined_logs.a_run_over_tcp_with_its_log_is_one.Goals as goal

pub returns : goal.returns
returns c = poured_too
