-- When a session closes its connection, when it comes to stand, and when its state stays.
use Rattle.std.specs.Prelude.{Bool, true, false, ◌&&◌, not, Option, Some, None, is_some}
use Rattle.line_base.specs.declared.states.Role.{Role}
use Rattle.line_base.specs.declared.states.Role.TheVariants.{Upstream, Downstream}
use Rattle.session_core.specs.declared.actions.Actions.{Actions}
use Rattle.session_core.specs.declared.actions.Action.{Action}
use Rattle.session_core.specs.declared.actions.Action.TheVariants as act
use Rattle.session_core.specs.declared.state.SessionState.{SessionState}
use Rattle.session_core.specs.declared.state.SessionState.TheVariants.{NotConnected, Handshake, Standing}
use Rattle.session_core.specs.Acts.{actions_list, has_action}
use Rattle.session_core.specs.End.{SessionEnd, raised, is_given_up}
use Rattle.session_core.specs.Input.{Input, opened, heard, tick, shutdown, closed}
use Rattle.session_core.specs.Standing.{described, comes_unsettled}

abbrev pub is_close : Action → Bool
is_close act.Close = true
is_close _ = false

-- the machine closes the connection
abbrev pub closes : Actions → Bool
closes actions = has_action is_close (actions_list actions)

abbrev pub is_stand : Action → Bool
is_stand act.Stand = true
is_stand _ = false

-- the intake is told that the session stands
abbrev pub tells_intake : Actions → Bool
tells_intake actions = has_action is_stand (actions_list actions)

abbrev pub is_upstream : Role → Bool
is_upstream Upstream = true
is_upstream Downstream = false

-- where the machine closes: at a shutdown, at a tick that gives the peer up, and where the peer
-- describes itself to an upstream end whose outlet holds a board
abbrev pub closes_at : SessionEnd → Input → Bool
closes_at s (heard message unsettled) =
    is_some (described (heard message unsettled)) && (is_upstream s.role && unsettled)
closes_at s tick = is_given_up s.state (raised s.silent) s.peer
closes_at _ shutdown = true
closes_at _ _ = false

-- where a session comes to stand: where the peer describes itself otherwise
abbrev pub stands_at : SessionEnd → Input → Bool
stands_at s (heard message unsettled) =
    is_some (described (heard message unsettled)) && not (is_upstream s.role && unsettled)
stands_at _ _ = false

abbrev pub state_by : Bool → Bool → SessionState → SessionState
state_by true _ _ = NotConnected
state_by false true _ = Standing
state_by false false state = state

-- the state after an input that has a row
abbrev pub state_after : SessionEnd → Input → SessionState
state_after _ opened = Handshake
state_after _ closed = NotConnected
state_after s input = state_by (closes_at s input) (stands_at s input) s.state
