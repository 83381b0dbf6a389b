use Rattle.std.specs.Prelude.{ℕ, List, [], ◌∷◌, flat_map, Option, Some}
use Rattle.hermes_horizontal.specs.declared.message.Horizontal.{Horizontal}
use Rattle.hermes_horizontal.specs.declared.message.Horizontal.TheVariants.{CheckAlive}
use Rattle.hermes_horizontal.specs.declared.message.Ping.TheVariants as ping
use Rattle.session_core.specs.declared.actions.Actions.{Actions}
use Rattle.session_core.specs.declared.actions.Action.{Action}
use Rattle.session_core.specs.declared.actions.Action.TheVariants as act
use Rattle.session_core.specs.Acts.{actions_list}
use Rattle.session_core.specs.Input.{Input, heard}

abbrev pub pong_by : Action → List (Option (List ℕ))
pong_by (act.Pong id) = id ∷ []
pong_by _ = []

-- the Ids of the pongs that are sent
abbrev pub pongs : Actions → List (Option (List ℕ))
pongs actions = flat_map pong_by (actions_list actions)

abbrev pub asked_by : Horizontal → List (Option (List ℕ))
asked_by (CheckAlive (Some ping.Ask) id) = id ∷ []
asked_by _ = []

-- the Ids of the pings that are heard
abbrev pub asked : Input → List (Option (List ℕ))
asked (heard message _) = asked_by message
asked _ = []
