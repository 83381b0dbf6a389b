use Rattle.line_cli.proofs.ReadOnce.{read-once}
use Rattle.line_cli.proofs.laws.read_once.Goals as goal

pub returns : goal.returns
returns c = read-once (record { spelled = c.spelled_once.ensures; refused = c.refused_once.ensures; apart = c.refused_or_spelled.ensures })
