-- What stands together in a line between two steps.
use Rattle.std.specs.Prelude.{◌≡◌, ℕ, ◌-◌, ◌≤◌, Bool, Some, is_some, length}
use Rattle.line_base.specs.declared.states.Side.{Side}
use Rattle.line_link.specs.Link.{number_of}
use Rattle.node_core.specs.Node.{NodeState}
use Rattle.node_core.specs.Sides.{is_open}
use Rattle.line_step.specs.World.{WorldParts, end_of, link_at, link_of}
use Rattle.line_step.specs.State.{LineState, machine_in, most_machines}

-- a side's end of its link has a connection
abbrev pub is_linked : ℕ → Side → WorldParts → Bool
is_linked machine side world =
    is_some (number_of (end_of side) (link_at (link_of machine side) world))

-- there are at most 64 machines and 1,000,000 lines; each machine has its place on the floor, and
-- each but the first a link before it; and a side's end of its link has a connection exactly where
-- the machine's session at that side is open. A side without a link, at the first machine's entry
-- and the last one's exit, has none
pub record IsLineTogether (s : LineState) : Type 0 where
  pub few : length s.machines ≤ most_machines
  pub short : s.lines ≤ 1000000
  pub floor : length s.world.floor.machines ≡ length s.machines
  pub links : length s.world.links ≡ length s.machines - 1
  pub joined : (machine : ℕ) (side : Side) (node : NodeState) → machine_in machine s ≡ Some node
      → is_linked machine side s.world ≡ is_open side node.lane.body
