-- A line: its machines in downstream direction, what lies between and under them, and what was
-- done so far.
use Rattle.std.specs.Prelude.{ℕ, ◌+◌, ◌-◌, ◌++◌, zero, suc, List, [], ◌∷◌, Bool, false, Option, None, codes, decimal, length, map, slice_get, slice_set}
use Rattle.line_world.specs.FloorPlan.{one_machine_more}
use Rattle.node_core.specs.Node.{NodeState, new_node}
use Rattle.node_core.specs.declared.profile.NodeProfile.{NodeProfile}
use Rattle.node_core.specs.Own.{own_of}
use Rattle.standings.specs.Marks.{Owned, marks_of}
use Rattle.standings.specs.declared.mark.Mark.{Mark}
use Rattle.line_step.specs.World.{WorldParts, links_more, no_world}

-- spent: memory ran out in a step. lines: how many lines were done. unvouched: the first that told
-- what was not so, or moved a board unseen
pub record LineState : Type 0 where
  pub spent : Bool
  pub machines : List NodeState
  pub world : WorldParts
  pub lines : ℕ
  pub unvouched : Option ℕ

abbrev pub no_line : LineState
no_line = record { spent = false; machines = []; world = no_world; lines = 0; unvouched = None }

-- the most machines in a line
abbrev pub most_machines : ℕ
most_machines = 64

-- machines are numbered from 1
abbrev pub machine_in : ℕ → LineState → Option NodeState
machine_in machine s = elim machine [ zero ↦ None | suc before ↦ slice_get s.machines before ]

abbrev pub with_machine : ℕ → NodeState → LineState → LineState
with_machine machine node s = record s { machines = slice_set s.machines (machine - 1) node }

abbrev pub with_world : WorldParts → LineState → LineState
with_world world s = record s { world = world }

-- ---- one machine more

-- the id text of a machine of the line
abbrev pub machine_text : ℕ → List ℕ
machine_text number = codes "M" ++ decimal number

-- what a machine of the line is made from, on a lane, be it a bridge or none: its LaneId is the
-- number of the lane
abbrev pub profile_of : ℕ → Bool → ℕ → ℕ → ℕ → NodeProfile
profile_of lane is_bridge number capacity used = record {
  number = number;
  machine = machine_text number;
  lane = lane;
  capacity = capacity;
  used = used;
  bridge = is_bridge;
}

abbrev pub one_more : ℕ → Bool → ℕ → ℕ → LineState → LineState
one_more lane is_bridge capacity used s = record s {
  machines =
      s.machines ++ new_node (profile_of lane is_bridge (length s.machines + 1) capacity used) ∷ [];
  world = record s.world {
    links = links_more (length s.machines) s.world.links;
    floor = one_machine_more s.world.floor;
  };
}

-- ---- who has whose record

abbrev pub owned_by : NodeState → Owned
owned_by node =
    record {
      kept = (own_of node.lane.body).kept;
      held = (own_of node.lane.body).held;
      taking = (own_of node.lane.body).taking;
    }

abbrev pub owned : LineState → List Owned
owned s = map owned_by s.machines

-- the marks of an id along the line
abbrev pub marks_in : LineState → ℕ → List Mark
marks_in s id = marks_of (owned s) id
