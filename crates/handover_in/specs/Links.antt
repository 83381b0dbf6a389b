-- An intake without a connection.
use Rattle.std.specs.Prelude.{Bool, true, false, List, [], ◌∷◌, ◌++◌, option_to_list}
use Rattle.handover_in.specs.declared.act.InSend.{InSend}
use Rattle.handover_in.specs.declared.input.InInput.{InInput}
use Rattle.handover_in.specs.declared.input.InInput.TheVariants.{Sensed, Fault, Closed}
use Rattle.handover_in.specs.declared.phase.Phase.{Phase}
use Rattle.handover_in.specs.declared.phase.Phase.TheVariants.{Idle, Waiting}
use Rattle.handover_in.specs.State.{InState}
use Rattle.handover_in.specs.Run.{step}

-- the phases in which an intake can be without a connection: no handover is open, or its
-- connection was closed
abbrev pub is_unlinked_phase : Phase → Bool
is_unlinked_phase Idle = true
is_unlinked_phase (Waiting _ _ _) = true
is_unlinked_phase _ = false

-- what comes also without a connection: no message, no new connection, and nothing that the
-- machine says or starts
abbrev pub is_own : InInput → Bool
is_own (Sensed _) = true
is_own Fault = true
is_own Closed = true
is_own _ = false

-- what is sent over a list of inputs
abbrev pub all_sent : InState → List InInput → List InSend
all_sent s [] = []
all_sent s (input ∷ inputs) =
    option_to_list (step s input).act.send ++ all_sent (step s input).after inputs
