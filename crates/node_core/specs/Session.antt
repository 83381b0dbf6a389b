-- What the sessions of a body's sides have it do.
use Rattle.std.specs.Prelude.{ℕ, List, [], ◌∷◌, ◌++◌, Option, Some, None, decimal}
use Rattle.line_base.specs.declared.states.Side.{Side}
use Rattle.line_base.specs.declared.states.Severity.TheVariants as severity
use Rattle.hermes_horizontal.specs.declared.message.Horizontal.TheVariants as bodies
use Rattle.hermes_horizontal.specs.declared.message.Ping.TheVariants as pings
use Rattle.session_core.specs.declared.actions.Action.{Action}
use Rattle.session_core.specs.declared.actions.Action.TheVariants as action
use Rattle.session_core.specs.declared.actions.Actions.{Actions}
use Rattle.session_core.specs.Row.{SessionRow}
use Rattle.handover_in.specs.declared.input.InInput.TheVariants as in_input
use Rattle.node_core.specs.declared.act.Act.TheVariants as acts
use Rattle.node_core.specs.Desk.{Desk}
use Rattle.node_core.specs.declared.lane.Body.{Body}
use Rattle.node_core.specs.Done.{Done, done, stays, behind, and_then}
use Rattle.node_core.specs.Sides.{with_session}
use Rattle.node_core.specs.Told.{sends, service_of, tells, notification}
use Rattle.node_core.specs.Halves.{at_intake, half_closed, ended}

-- the machine closes the connection of a side, whose session has ended
abbrev pub closes : Desk → Side → Body → Done
closes desk side body = behind (acts.Closes side ∷ []) (half_closed desk side body)

abbrev pub action_did : Desk → Side → Action → Body → Done
action_did desk side action.SendService body = done body (sends desk side (service_of desk))
action_did desk side (action.Pong id) body =
    done body (sends desk side (bodies.CheckAlive (Some pings.Answer) id))
action_did desk side (action.Ping number) body =
    done body (sends desk side (bodies.CheckAlive (Some pings.Ask) (Some (decimal number))))
action_did desk side (action.Tell what) body = done body (sends desk side (tells what))
action_did desk side action.Close body = closes desk side body
action_did desk side action.Stand body = at_intake desk in_input.Stand body
action_did desk side (action.Pass what) body = stays body

abbrev pub maybe_did : Desk → Side → Option Action → Body → Done
maybe_did desk side None body = stays body
maybe_did desk side (Some action) body = action_did desk side action body

-- what a session has its machine do, in order
abbrev pub actions_did : Desk → Side → Actions → Body → Done
actions_did desk side actions body =
    and_then (maybe_did desk side actions.first body) (λ one.
    and_then (maybe_did desk side actions.second one) (maybe_did desk side actions.third))

-- an input to a side's session that is no message: what its row says, or nothing
abbrev pub session_did : Desk → Side → Option SessionRow → Body → Done
session_did desk side None body = stays body
session_did desk side (Some row) body =
    actions_did desk side row.actions (with_session side row.after body)

-- THE BREACH: it is told with its text, the neighbour is told too, and the connection is closed
abbrev pub breaches : Desk → Side → List ℕ → Body → Done
breaches desk side text body =
    behind (acts.Breaches side text ∷ (sends desk side (notification 1 severity.Fatal text)
    ++ acts.Closes side ∷ [])) (ended desk side body)
