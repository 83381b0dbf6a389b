-- How a side stands, in the standard's words: the first row of the table that fits.
use Rattle.std.specs.Prelude.{Bool, true, false, is_some}
use Rattle.line_base.specs.declared.states.Side.{Side}
use Rattle.line_base.specs.declared.states.Side.TheVariants.{Entry, Exit}
use Rattle.session_core.specs.declared.state.SessionState.{SessionState}
use Rattle.session_core.specs.declared.state.SessionState.TheVariants.{NotConnected, Handshake, Standing}
use Rattle.handover_out.specs.State as out_state
use Rattle.handover_out.specs.declared.phase.OutPhase.{OutPhase}
use Rattle.handover_out.specs.declared.phase.OutPhase.TheVariants as outs
use Rattle.handover_in.specs.State as in_state
use Rattle.handover_in.specs.declared.phase.InPhase.{InPhase}
use Rattle.handover_in.specs.declared.phase.InPhase.TheVariants as ins
use Rattle.node_core.specs.declared.hermes.HermesState.{HermesState}
use Rattle.node_core.specs.declared.hermes.HermesState.TheVariants as states
use Rattle.node_core.specs.declared.lane.Body.{Body}
use Rattle.node_core.specs.Sides.{session_at}

-- by whether a board is offered, and whether there is a place for it
abbrev pub free_state : Bool → Bool → HermesState
free_state false false = states.NotAvailableNotReady
free_state true false = states.BoardAvailable
free_state false true = states.MachineReady
free_state true true = states.AvailableAndReady

-- the exit of a standing session: by the outlet's phase, and whether a stop was heard of a board
-- that is stuck
abbrev pub outlet_state : OutPhase → Bool → Bool → Bool → HermesState
outlet_state outs.Moving stopped offered ready = states.Transporting
outlet_state outs.Stuck false offered ready = states.Transporting
outlet_state outs.Stuck true offered ready = states.TransportStopped
outlet_state outs.Ended stopped offered ready = states.TransportFinished
outlet_state outs.Idle stopped offered ready = free_state offered ready

-- the entry of a standing session: by the intake's phase, and whether the end of the open handover
-- was heard
abbrev pub intake_state : InPhase → Bool → Bool → Bool → HermesState
intake_state ins.Taking false offer ready = states.Transporting
intake_state ins.Stopped false offer ready = states.TransportStopped
intake_state ins.Taking true offer ready = states.TransportFinished
intake_state ins.Stopped true offer ready = free_state offer ready
intake_state ins.Waiting heard offer ready = free_state offer ready
intake_state ins.Idle heard offer ready = free_state offer ready

abbrev pub standing_state : Side → Body → HermesState
standing_state Entry body =
    intake_state (in_state.name_of_phase body.intake.phase) (in_state.has_heard body.intake.phase)
    (is_some body.intake.offer) body.intake.ready
standing_state Exit body =
    outlet_state (out_state.name_of_phase body.outlet.phase)
    (out_state.is_stopped_phase body.outlet.phase) (is_some body.outlet.offered) body.outlet.ready

abbrev pub state_in : SessionState → Side → Body → HermesState
state_in NotConnected side body = states.NotConnected
state_in Handshake side body = states.ServiceDescription
state_in Standing side body = standing_state side body

abbrev pub hermes_state : Side → Body → HermesState
hermes_state side body = state_in (session_at side body).state side body
