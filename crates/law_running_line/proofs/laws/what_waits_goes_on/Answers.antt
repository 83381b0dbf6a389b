use Rattle.law_running_line.proofs.Waiting.{entry_lets_be, exit_lets_be, node_asks}
use Rattle.law_running_line.proofs.laws.what_waits_goes_on.Goals as goal

pub returns-clause-asked : goal.returns-clause-asked
returns-clause-asked c = λ above below unread wires may waits. node_asks below may waits

pub returns-clause-lost : goal.returns-clause-lost
returns-clause-lost c = λ above below unread wires place wire there awaits waits. exit_lets_be place wire there awaits waits

pub returns-clause-given_up : goal.returns-clause-given_up
returns-clause-given_up c = λ above below unread wires place wire there awaits waits. entry_lets_be place wire there awaits waits
