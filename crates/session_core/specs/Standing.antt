use Rattle.std.specs.Prelude.{Bool, true, false, Option, Some, None}
use Rattle.hermes_horizontal.specs.declared.message.Features.{Features}
use Rattle.hermes_horizontal.specs.declared.message.Horizontal.TheVariants as bodies
use Rattle.session_core.specs.declared.actions.Actions.{Actions}
use Rattle.session_core.specs.declared.actions.Action.{Action}
use Rattle.session_core.specs.declared.actions.Action.TheVariants as act
use Rattle.session_core.specs.Acts.{actions_list, has_action}
use Rattle.session_core.specs.Input.{Input, heard}

-- the features that the peer lists, where it is a description that is heard
abbrev pub described : Input → Option Features
described (heard (bodies.ServiceDescription service) _) = Some service.features
described _ = None

-- a message is heard while the outlet holds a board
abbrev pub comes_unsettled : Input → Bool
comes_unsettled (heard _ unsettled) = unsettled
comes_unsettled _ = false

abbrev pub is_service : Action → Bool
is_service act.SendService = true
is_service _ = false

-- the machine's own description is sent
abbrev pub describes : Actions → Bool
describes actions = has_action is_service (actions_list actions)
