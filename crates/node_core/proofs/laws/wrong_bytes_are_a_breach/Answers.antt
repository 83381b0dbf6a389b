use Rattle.node_core.proofs.Breaking.{refused_breach, endless_breach}
use Rattle.node_core.proofs.laws.wrong_bytes_are_a_breach.Goals as goal

pub returns-clause-refused : goal.returns-clause-refused
returns-clause-refused c = refused_breach c.refused_or_spelled.ensures

pub returns-clause-endless : goal.returns-clause-endless
returns-clause-endless c = endless_breach
