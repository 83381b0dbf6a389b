-- JOINED NODES: the runs of several nodes in downstream direction, and beside them their machines
-- as a running line, which says what lies under them, and what was said to each and not heard.
use Rattle.std.specs.Prelude.{ℕ, zero, suc, false, List, Option, None, ◌≡◌, ◌-◌, map, slice_get, slice_set}
use Rattle.std.specs.List.{AllByRecursion}
use Rattle.config_service.specs.declared.message.Settings.{Settings}
use Rattle.node_core.specs.Node.{NodeState}
use Rattle.node_run.specs.State.{RunState, started}
use Rattle.node_run.specs.declared.rules.Rules.{Rules}
use Rattle.law_running_line.specs.New.{IsNew, NumbersDiffer}
use Rattle.law_running_line.specs.Running.{Running}

-- a node's run: what it goes by, and its state
pub record NodeRun : Type 0 where
  pub rules : Rules
  pub state : RunState

-- its machine. Whether that has run out of memory once isn't looked at
abbrev pub unspent : NodeState → NodeState
unspent node = record node { spent = false }

abbrev pub machine_of : NodeRun → NodeState
machine_of run = unspent run.state.node

pub record Joined : Type 0 where
  pub runs : List NodeRun
  pub line : Running

-- nodes are numbered as their machines are
abbrev pub run_of : ℕ → Joined → Option NodeRun
run_of machine j = elim machine [ zero ↦ None | suc before ↦ slice_get j.runs before ]

-- the runs, with this state of one of them
abbrev pub with_state : ℕ → NodeRun → RunState → List NodeRun → List NodeRun
with_state machine run state runs =
    slice_set runs (machine - 1) (record { rules = run.rules; state = state })

-- the machines are those of the nodes
abbrev pub AreTheirs : Joined → Type 0
AreTheirs j = j.line.machines ≡ map machine_of j.runs

-- ---- how they begin: each node's run has not begun, its machine is new, and makes ids under the
-- number under which the node logs

pub record IsStarted (run : NodeRun) : Type 0 where
  pub settings : Settings
  pub is : run.state ≡ started settings run.state.node
  pub number : run.rules.number ≡ run.state.node.maker.machine

pub record HaveBegun (j : Joined) : Type 0 where
  pub new : IsNew j.line
  pub differ : NumbersDiffer j.line
  pub theirs : AreTheirs j
  pub runs : AllByRecursion IsStarted j.runs
