-- How a machine is seen.
use Rattle.std.specs.Prelude.{ℕ, Bool, ◌&&◌, ◌||◌, not, [], ◌∷◌, is_some, length}
use Rattle.line_base.specs.declared.states.Side.{Side}
use Rattle.line_base.specs.declared.states.Side.TheVariants.{Entry, Exit}
use Rattle.handover_out.specs.State as outlet
use Rattle.handover_in.specs.State as intake
use Rattle.node_core.specs.Hermes.{hermes_state}
use Rattle.machine_port.specs.Port.{PortState, way_at}
use Rattle.machine_port.specs.Numbers.{flag, state_number}
use Rattle.machine_port.specs.declared.view.HermesView.{HermesView}

-- a drive runs where its level is on, and none where memory was wanting
abbrev pub runs : PortState → Bool → ℕ
runs s on = flag (not s.spent && on)

-- a connection is to be closed where its way says so, and each where memory was wanting
abbrev pub closes : PortState → Side → ℕ
closes s side = flag (s.spent || (way_at side s).closes)

-- and so that to its supervisor
abbrev pub closes_supervisor : PortState → ℕ
closes_supervisor s = flag (s.spent || s.supervisor.closes)

-- how a machine is seen; of two, the first is the entry's
abbrev pub view_of : PortState → HermesView
view_of s = record {
  size = 136;
  spent = flag s.spent;
  bridge = flag (is_some s.node.bridge);
  supervised = flag s.node.supervised;
  state = state_number (hermes_state Entry s.node.lane.body)
      ∷ state_number (hermes_state Exit s.node.lane.body) ∷ [];
  held = flag (is_some (intake.held s.node.lane.body.intake))
      ∷ flag (is_some (outlet.held s.node.lane.body.outlet)) ∷ [];
  drive = runs s s.levels.entry_drive ∷ runs s s.levels.exit_drive ∷ [];
  signal = flag s.levels.entry_available ∷ flag s.levels.entry_failed
      ∷ flag s.levels.exit_ready ∷ 0 ∷ [];
  close = closes s Entry ∷ closes s Exit ∷ closes_supervisor s ∷ 0 ∷ [];
  kept = length s.node.lane.body.kept;
  acts = length s.last;
  unsent = length s.entry.text ∷ length s.exit.text ∷ length s.supervisor.text
      ∷ length s.refusal ∷ [];
  ids_made = s.made;
  steps = s.steps;
}
