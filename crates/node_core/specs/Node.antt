-- A machine: whether it is spent, what it knows of itself, its id maker, its lane, the levels of a
-- bridge, the forecasts of the machine upstream, whether it is supervised, and the work orders
-- that it asked for.
use Rattle.std.specs.Prelude.{ℕ, ℤ, Bool, true, false, not, List, [], Option, Some, None, length}
use Rattle.line_base.specs.declared.states.Role.TheVariants.{Upstream, Downstream}
use Rattle.board_record.specs.Maker.{Maker}
use Rattle.hermes_horizontal.specs.declared.message.Info.{Info}
use Rattle.session_core.specs.End as ends
use Rattle.handover_out.specs.State as outlet
use Rattle.handover_in.specs.State as intake
use Rattle.smema_bridge.specs.Levels.{BridgeLevels}
use Rattle.smema_bridge.specs.Calls.{bridge_off}
use Rattle.supervisory_core.specs.declared.order.Order.{Order}
use Rattle.node_core.specs.Desk.{Desk}
use Rattle.node_core.specs.declared.lane.Body.{Body}
use Rattle.node_core.specs.declared.lane.Lane.{Lane}
use Rattle.node_core.specs.declared.profile.NodeProfile.{NodeProfile}

pub record NodeState : Type 0 where
  pub spent : Bool
  pub name : List ℕ
  pub number : ℕ
  pub capacity : ℕ
  pub maker : Maker
  pub lane : Lane
  pub bridge : Option BridgeLevels
  pub forecasts : List Info
  pub supervised : Bool
  pub orders : List Order

-- what it knows of itself at a moment
abbrev pub desk_of : NodeState → ℤ → Desk
desk_of s moment = record {
  name = s.name;
  lane = s.number;
  capacity = s.capacity;
  moment = moment;
  bridge = s.bridge;
  supervised = s.supervised;
  asked = length s.orders;
}

-- nothing is kept, nothing was ever offered, and no session has a connection. A machine is willing on both sides, and a
-- bridge on none, as no level of its segment is on
abbrev pub first_body : Bool → Body
first_body is_bridge = record {
  kept = [];
  outlet = outlet.at_rest;
  intake = intake.at_rest;
  entry = record { session = ends.at_rest Downstream; willing = not is_bridge };
  exit = record { session = ends.at_rest Upstream; willing = not is_bridge };
  last_offer = None;
}

-- that of a machine that is no bridge
abbrev pub new_body : Body
new_body = first_body false

-- the levels of a new bridge are off, and a machine that is no bridge has none
abbrev pub first_levels : Bool → Option BridgeLevels
first_levels true = Some bridge_off
first_levels false = None

-- a new machine
abbrev pub new_node : NodeProfile → NodeState
new_node profile = record {
  spent = false;
  name = profile.machine;
  number = profile.lane;
  capacity = profile.capacity;
  maker = record { machine = profile.number; used = profile.used };
  lane = record { body = first_body profile.bridge; entry_bytes = []; exit_bytes = [] };
  bridge = first_levels profile.bridge;
  forecasts = [];
  supervised = false;
  orders = [];
}
