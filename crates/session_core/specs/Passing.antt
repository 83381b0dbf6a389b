use Rattle.std.specs.Prelude.{Bool, true, List, [], ◌∷◌, flat_map, Option, Some}
use Rattle.hermes_horizontal.specs.Parts.{kind_of}
use Rattle.hermes_horizontal.specs.declared.message.Horizontal.{Horizontal}
use Rattle.session_core.specs.declared.actions.Actions.{Actions}
use Rattle.session_core.specs.declared.actions.Action.{Action}
use Rattle.session_core.specs.declared.actions.Action.TheVariants as act
use Rattle.session_core.specs.declared.handling.Handling.{Handling}
use Rattle.session_core.specs.declared.handling.Handling.TheVariants.{Pass}
use Rattle.session_core.specs.declared.state.SessionState.{SessionState}
use Rattle.session_core.specs.declared.state.SessionState.TheVariants.{Standing}
use Rattle.session_core.specs.Acts.{actions_list}
use Rattle.session_core.specs.End.{SessionEnd, is_connected_state}
use Rattle.session_core.specs.Handling.{handling_of}
use Rattle.session_core.specs.Input.{Input, heard}

abbrev pub passed_by : Action → List Horizontal
passed_by (act.Pass message) = message ∷ []
passed_by _ = []

-- the messages that are passed on
abbrev pub passed : Actions → List Horizontal
passed actions = flat_map passed_by (actions_list actions)

abbrev pub passing_at : Handling → SessionState → Horizontal → List Horizontal
passing_at Pass Standing message = message ∷ []
passing_at _ _ _ = []

-- the messages that are to be passed on: the one that is heard, where the session stands and its
-- kind is one that the other part sends
abbrev pub passing : SessionEnd → Input → List Horizontal
passing s (heard message _) = passing_at (handling_of (kind_of message) s.role) s.state message
passing _ _ = []

-- a message is passed on only where there is a connection
abbrev pub pass_open : Option Action → SessionState → Bool
pass_open (Some (act.Pass _)) state = is_connected_state state
pass_open _ _ = true
