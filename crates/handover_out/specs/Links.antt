-- An outlet without a connection.
use Rattle.std.specs.Prelude.{Bool, true, false, not, List, [], ◌∷◌, ◌++◌, option_to_list}
use Rattle.handover_out.specs.declared.act.OutSend.{OutSend}
use Rattle.handover_out.specs.declared.input.OutInput.{OutInput}
use Rattle.handover_out.specs.declared.input.OutInput.TheVariants.{Sensed, Fault, Closed}
use Rattle.handover_out.specs.declared.phase.Phase.{Phase}
use Rattle.handover_out.specs.declared.phase.Phase.TheVariants.{Idle, Stuck}
use Rattle.handover_out.specs.State.{OutState}
use Rattle.handover_out.specs.Run.{step}

-- no handover is under way on a connection: none at all, or a board lies between the machines and
-- its connection was closed
abbrev pub is_unlinked_phase : Phase → Bool
is_unlinked_phase Idle = true
is_unlinked_phase (Stuck _ linked _) = not linked
is_unlinked_phase _ = false

-- what an outlet meets without a message of the neighbour or a wish of its machine
abbrev pub is_own : OutInput → Bool
is_own (Sensed _) = true
is_own Fault = true
is_own Closed = true
is_own _ = false

-- what is sent over a list of inputs, in order
abbrev pub all_sent : OutState → List OutInput → List OutSend
all_sent s [] = []
all_sent s (input ∷ inputs) =
    option_to_list (step s input).act.send ++ all_sent (step s input).after inputs
