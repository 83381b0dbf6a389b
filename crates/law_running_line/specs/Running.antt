-- Running machines, the floor under them, and the connections between them.
use Rattle.std.specs.Prelude.{ℕ, zero, suc, ◌+◌, ◌-◌, List, Option, None, Some, length, map, nat_eq, slice_get, slice_set, if◌then◌else◌}
use Rattle.line_base.specs.declared.states.Side.{Side}
use Rattle.line_base.specs.declared.states.Side.TheVariants.{Entry, Exit}
use Rattle.board_record.specs.declared.sensed.Sensed.{Sensed}
use Rattle.line_world.specs.FloorPlan.{FloorPlan, machine_at, with_unread}
use Rattle.node_core.specs.Node.{NodeState}
use Rattle.law_custody.specs.Words.{events_at}
use Rattle.line_step.specs.World.{link_of}
use Rattle.law_running_line.specs.Wire.{Wire, read_at}

-- the machines in downstream direction, and the connections of each link, the oldest first. Machines
-- are numbered from 1; link k, and gap k under it, lie between machines k and k + 1
pub record Running : Type 0 where
  pub machines : List NodeState
  pub floor : FloorPlan
  pub wires : ℕ → List Wire

abbrev pub node_of : ℕ → Running → Option NodeState
node_of machine s = elim machine [ zero ↦ None | suc before ↦ slice_get s.machines before ]

abbrev pub with_node : ℕ → NodeState → Running → Running
with_node machine node s = record s { machines = slice_set s.machines (machine - 1) node }

abbrev pub with_floor : FloorPlan → Running → Running
with_floor floor s = record s { floor = floor }

-- the connections of one link, changed
abbrev pub with_wires : ℕ → (List Wire → List Wire) → Running → Running
with_wires link change s =
    record s { wires = λ (k : ℕ). if nat_eq k link then change (s.wires k) else s.wires k }

-- each of them, at a side of a machine
abbrev pub at_side : ℕ → Side → (Wire → Wire) → Running → Running
at_side machine side change s = with_wires (link_of machine side) (map change) s

-- and the one at a place among them
abbrev pub at_place : ℕ → (Wire → Wire) → List Wire → List Wire
at_place place change wires = elim (slice_get wires place) [ None ↦ wires | Some wire ↦ slice_set wires place (change wire) ]

-- ---- sensor events

abbrev pub unread_by : ℕ → Running → List Sensed
unread_by machine s = (machine_at s.floor machine).unread

-- how many events a side of a machine has not read
abbrev pub count_unread : ℕ → Side → Running → ℕ
count_unread machine side s = length (events_at side (unread_by machine s))

-- where what is said at a side of a machine arrives
abbrev pub count_beyond : ℕ → Side → Running → ℕ
count_beyond machine Exit s = count_unread (machine + 1) Entry s
count_beyond machine Entry s = count_unread (machine - 1) Exit s

-- a machine has read these events, and the rest is unread
abbrev pub with_reading : ℕ → List Sensed → List Sensed → Running → Running
with_reading machine read rest s =
    at_side machine Exit (read_at Exit (length (events_at Exit read)))
    (at_side machine Entry (read_at Entry (length (events_at Entry read)))
    (with_floor (with_unread s.floor machine rest) s))
