-- NEW MACHINES: nothing has happened to them, nothing lies under them, and nothing is between them.
use Rattle.std.specs.Prelude.{ℕ, zero, suc, [], Some, length, ◌<◌, ◌^◌, ◌≡◌, ◌≤◌}
use Rattle.std.specs.List.{AllByRecursion}
use Rattle.line_base.specs.Text.{IsText}
use Rattle.line_world.specs.FloorPlan.{FloorPlan, no_floor, one_machine_more}
use Rattle.node_core.specs.Node.{NodeState, new_node}
use Rattle.node_core.specs.declared.profile.NodeProfile.{NodeProfile}
use Rattle.law_running_line.specs.Running.{Running, node_of}

-- a machine as it was made, with a text for its name, a lane of at most nine digits and a number of 32
-- bits. How many ids were made under its number before, it is told
pub record IsNewNode (node : NodeState) : Type 0 where
  pub profile : NodeProfile
  pub name : IsText profile.machine
  pub lane : profile.lane ≤ 999_999_999
  pub number : profile.number < 2 ^ 32
  pub is : node ≡ new_node profile

-- the floor under so many machines, without boards and events, and with all drives off
abbrev pub new_floor : ℕ → FloorPlan
new_floor zero = no_floor
new_floor (suc machines) = one_machine_more (new_floor machines)

pub record IsNew (s : Running) : Type 0 where
  pub nodes : AllByRecursion IsNewNode s.machines
  pub floor : s.floor ≡ new_floor (length s.machines)
  pub wires : (link : ℕ) → s.wires link ≡ []

-- no two machines make ids under one number
pub record NumbersDiffer (s : Running) : Type 0 where
  pub apart : (machine other : ℕ) (node next : NodeState) → node_of machine s ≡ Some node
      → node_of other s ≡ Some next → node.maker.machine ≡ next.maker.machine → machine ≡ other
