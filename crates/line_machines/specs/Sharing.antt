-- What the lanes of a machine share, of a line of one lane.
use Rattle.std.specs.Prelude.{◌≡◌, ◌-◌, ℕ, Option, Some, None, option_map, slice_set}
use Rattle.node_core.specs.Node.{NodeState}
use Rattle.node_core.specs.Shared.{SharedParts, shared_of, with_shared}
use Rattle.line_step.specs.State.{LineState, machine_in}

-- each machine's maker has its number
abbrev pub AreNumbered : LineState → Type 0
AreNumbered s =
    (machine : ℕ) (node : NodeState) → machine_in machine s ≡ Some node
    → node.maker.machine ≡ machine

abbrev pub sharing_at : ℕ → SharedParts → Option NodeState → LineState → LineState
sharing_at machine shared None s = s
sharing_at machine shared (Some node) s =
    record s { machines = slice_set s.machines (machine - 1) (with_shared shared node) }

-- a machine follows another of its lanes in what they share; where it isn't there nothing changes
abbrev pub sharing : ℕ → SharedParts → LineState → LineState
sharing machine shared s = sharing_at machine shared (machine_in machine s) s

-- what a machine has to share
abbrev pub shared_in : ℕ → LineState → Option SharedParts
shared_in machine s = option_map shared_of (machine_in machine s)
