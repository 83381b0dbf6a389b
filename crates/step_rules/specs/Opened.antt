-- Whether a side has a connection, folded over the acts of its machine.
use Rattle.std.specs.Prelude.{Bool, true, false, List, [], ◌∷◌}
use Rattle.line_base.specs.declared.states.Side.{Side}
use Rattle.line_base.specs.declared.states.Side.TheVariants.{Entry, Exit}
use Rattle.node_core.specs.declared.act.Act.{Act}
use Rattle.node_core.specs.declared.act.Act.TheVariants as acts
use Rattle.node_core.specs.declared.input.Input.{Input}
use Rattle.node_core.specs.declared.input.Input.TheVariants as inputs

-- a side, where the connection of this or of the other one ends
abbrev pub closed_at : Side → Side → Bool → Bool
closed_at Entry Entry opened = false
closed_at Entry Exit opened = opened
closed_at Exit Entry opened = opened
closed_at Exit Exit opened = false

-- a machine closes a connection, or finds it closed
abbrev pub open_act : Side → Bool → Act → Bool
open_act side opened (acts.Closes at) = closed_at side at opened
open_act side opened (acts.Notices at) = closed_at side at opened
open_act side opened _ = opened

-- a side after some acts
abbrev pub open_after : Side → Bool → List Act → Bool
open_after side opened [] = opened
open_after side opened (act ∷ others) = open_after side (open_act side opened act) others

-- a side has a connection where its input makes one
abbrev pub opened_by : Input → Side → Bool → Bool
opened_by inputs.Connect Entry opened = true
opened_by inputs.Accepted Exit opened = true
opened_by _ side opened = opened
