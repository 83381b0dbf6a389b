use Rattle.std.specs.Prelude.{ℕ}
use Rattle.node_run.specs.declared.status.NodeStatus.{NodeStatus}
use Rattle.node_run.specs.declared.status.NodeStatus.TheVariants as statuses

-- the number with which the program ends
abbrev pub exit_number : NodeStatus → ℕ
exit_number statuses.Done = 0
exit_number statuses.Usage = 2
exit_number (statuses.ConfigRefused key why) = 3
exit_number statuses.ReadFault = 4
exit_number statuses.LogFault = 5
exit_number statuses.Memory = 6
exit_number (statuses.ListenFault address) = 7
exit_number statuses.TurnsUsed = 8
