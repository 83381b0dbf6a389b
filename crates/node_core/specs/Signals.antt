-- THE FOURTH POINT of the machine step: a bridge sets its own signals by what its two handovers
-- do, and tells of each that changed.
use Rattle.std.specs.Prelude.{Bool, List, [], ◌∷◌, ◌++◌, Option, Some, None}
use Rattle.line_base.specs.declared.states.Quality.{Quality}
use Rattle.smema_bridge.specs.declared.edges.BridgeEdges.{BridgeEdges}
use Rattle.smema_bridge.specs.Levels.{BridgeLevels, OwnLevels}
use Rattle.smema_bridge.specs.Signals.{bridge_edges, signals_of}
use Rattle.smema_bridge.specs.Calls.{bridge_after_call, level, settle}
use Rattle.handover_out.specs.State.{name_of_phase}
use Rattle.handover_in.specs.declared.phase.Phase.{Phase}
use Rattle.handover_in.specs.declared.phase.Phase.TheVariants.{Idle, Taking, Stopped, Waiting}
use Rattle.node_core.specs.declared.act.Act.{Act}
use Rattle.node_core.specs.declared.act.Act.TheVariants as acts
use Rattle.node_core.specs.declared.act.Signal.{Signal}
use Rattle.node_core.specs.declared.act.Signal.TheVariants as signals
use Rattle.node_core.specs.declared.input.Input.{Input}
use Rattle.node_core.specs.declared.input.Input.TheVariants as inputs
use Rattle.node_core.specs.declared.lane.Body.{Body}
use Rattle.node_core.specs.May.{is_moving}

-- the quality of the board that is being taken
abbrev pub quality_taken : Phase → Option Quality
quality_taken Idle = None
quality_taken (Taking board own heard) = Some board.quality
quality_taken (Stopped board own heard) = None
quality_taken (Waiting board own heard) = None

-- a board moves out
abbrev pub moves_out : Body → Bool
moves_out body = is_moving (name_of_phase body.outlet.phase)

abbrev pub signal_told : Signal → Option Bool → List Act
signal_told signal None = []
signal_told signal (Some on) = acts.Signals signal on ∷ []

-- in this order
abbrev pub edges_told : BridgeEdges → List Act
edges_told edges =
    signal_told signals.EntryAvailable edges.available
    ++ (signal_told signals.EntryFailed edges.failed ++ signal_told signals.ExitReady edges.ready)

-- the levels of the own signals that say what the handovers of a body do
abbrev pub own_signals : Body → OwnLevels
own_signals body = signals_of (quality_taken body.intake.phase) (moves_out body)

-- what a bridge with these levels tells of its own signals, and a machine that is no bridge
-- nothing. The body stays as it is
abbrev pub signalled : Option BridgeLevels → Body → List Act
signalled None body = []
signalled (Some before) body = edges_told (bridge_edges before.own (own_signals body))

-- ---- the levels after a step

-- an input that is a level sets it
abbrev pub after_level : Input → BridgeLevels → BridgeLevels
after_level (inputs.Level line on) before = bridge_after_call before (level line on)
after_level _ before = before

abbrev pub levels_told : Input → Option BridgeLevels → Option BridgeLevels
levels_told input None = None
levels_told input (Some before) = Some (after_level input before)

-- the own signals are set by the handovers of this body
abbrev pub levels_settled : Body → Option BridgeLevels → Option BridgeLevels
levels_settled body None = None
levels_settled body (Some before) =
    Some (bridge_after_call before (settle (quality_taken body.intake.phase) (moves_out body)))

-- the levels after a step of this input that left this body
abbrev pub levels_after : Input → Body → Option BridgeLevels → Option BridgeLevels
levels_after input body bridge = levels_settled body (levels_told input bridge)
