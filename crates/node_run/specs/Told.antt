-- What a run did with what its ports, its clock and its log tell.
use Rattle.std.specs.Prelude.{◌≡◌, ◌≤◌, ℕ, ℤ, List, Option}
use Rattle.line_outside.specs.Faults.{Rose}
use Rattle.line_outside.specs.Given.{Given}
use Rattle.line_outside.specs.declared.way.Address.{Address}
use Rattle.node_core.specs.Node.{new_node}
use Rattle.node_core.specs.declared.profile.NodeProfile.{NodeProfile}
use Rattle.config_service.specs.declared.message.Settings.{Settings as Neighbours}
use Rattle.node_settings.specs.declared.settings.Settings.{Settings}
use Rattle.node_run.specs.State.{started}
use Rattle.node_run.specs.Runs.{RunEnds}
use Rattle.node_run.specs.declared.rules.Rules.{Rules}
use Rattle.node_run.specs.declared.status.NodeStatus.{NodeStatus}
use Rattle.node_run.specs.declared.status.NodeStatus.TheVariants as statuses

-- what settings make of a run
abbrev pub rules_of : Settings → Rules
rules_of settings = record {
  number = settings.identity.number;
  machine_id = settings.identity.machine_id;
  connections = settings.connections;
  turns = settings.turns;
  panel = settings.panel;
}

abbrev pub profile_of : Settings → NodeProfile
profile_of settings = record {
  number = settings.identity.number;
  machine = settings.identity.machine_id;
  lane = settings.identity.lane;
  capacity = settings.places.capacity;
  used = settings.places.used;
  bridge = settings.bridge;
}

-- where the file says that the neighbours are
abbrev pub neighbours_of : Settings → Neighbours
neighbours_of settings = record {
  upstream = settings.connections.upstream;
  port = settings.connections.downstream_port;
}

-- how the run that settings ask for ends, over a clock that tells its moment or not
abbrev pub RunEndsTold : Option ℤ → Settings → Option (List Given) → Option (List Given)
    → Option (List ℕ) → Option (List ℕ) → NodeStatus → Type 0
RunEndsTold told settings given_old given_new log_old log_new status =
    RunEnds told (rules_of settings)
    (started (neighbours_of settings) (new_node (profile_of settings))) given_old given_new log_old
    log_new status

-- no count falls, and a fault comes only where the count of that object rose
pub record HasRunCauses (status : NodeStatus)
    (ports_before ports_now log_before log_now : ℕ) : Type 0 where
  pub ports : ports_before ≤ ports_now
  pub log : log_before ≤ log_now
  pub listen_fault : (address : Address) → status ≡ statuses.ListenFault address
      → Rose ports_before ports_now
  pub log_fault : status ≡ statuses.LogFault → Rose log_before log_now
