-- THE LAWS of joined nodes.
use Rattle.std.specs.Prelude.{ℕ, ℤ, List, [], ◌∷◌, Option, Some, ◌≡◌}
use Rattle.config_service.specs.declared.message.Settings.{Settings}
use Rattle.line_base.specs.declared.states.Side.{Side}
use Rattle.line_outside.specs.Given.{Connects, Given}
use Rattle.line_outside.specs.declared.ports.Opened.{Opened}
use Rattle.line_outside.specs.declared.way.Address.{Address}
use Rattle.line_outside.specs.declared.way.Way.TheVariants as ways
use Rattle.node_core.specs.May.{may_do, may_of}
use Rattle.node_core.specs.Node.{NodeState}
use Rattle.node_core.specs.declared.input.Input.TheVariants as inputs
use Rattle.node_core.specs.declared.act.Act.{Act}
use Rattle.node_run.specs.Runs.{Moves, Runs}
use Rattle.node_run.specs.State.{RunState, started}
use Rattle.node_run.specs.declared.rules.Rules.{Rules}
use Rattle.law_one_standing.specs.Standing.{HasOneStanding}
use Rattle.law_running_line.specs.Reading.{Reading}
use Rattle.law_running_line.specs.RunSteps.{RunsTo}
use Rattle.law_running_line.specs.Stands.{line_of}
use Rattle.law_joined_nodes.specs.Does.{Does, Taken}
use Rattle.law_joined_nodes.specs.Joined.{AreTheirs, HaveBegun, Joined, NodeRun, run_of}
use Rattle.law_joined_nodes.specs.Ways.{ReadsNone, Stays, Ways}
use Rattle.law_joined_nodes.specs.Woven.{WovenTo}

-- each move does one of these things, and one to what goes over the way of each side
pub record DoesOne (rules : Rules) (moment : ℤ) (s t : RunState)
    (given : List Given) : Type 0 where
  pub taken : Option Taken
  pub does : Does moment s t given taken
  pub ways : (side : Side) → Ways rules moment side s t taken given
  pub stays : (side : Side) → Stays side s t given taken
  pub reads : ReadsNone taken

abbrev pub EachMoveDoes : Type 0
EachMoveDoes =
    (rules : Rules) (moment : ℤ) (s t : RunState) (given : List Given) (log : List ℕ)
    → Moves rules moment s given t log → DoesOne rules moment s t given

-- a node asks for a connection only where its machine can take one
abbrev pub AsksWhereItMay : Type 0
AsksWhereItMay =
    (rules : Rules) (settings : Settings) (node : NodeState) (moments : List ℤ) (s t : RunState)
    (before : List Given) (first : List ℕ) (moment : ℤ) (address : Address) (opened : Opened)
    (log : List ℕ) → Runs rules (started settings node) moments before s first
    → Moves rules moment s (Connects ways.Upstream address opened ∷ []) t log
    → may_of s.node inputs.Connect ≡ may_do

-- a woven run is a run of running machines, which are those of the nodes
pub record AreRunning (reading : Reading) (s u : Joined) (told : List Act) : Type 0 where
  pub runs : RunsTo reading s.line told u.line
  pub theirs : AreTheirs u

abbrev pub NodesRun : Reading → Type 0
NodesRun reading =
    (s u : Joined) (told : List Act) → HaveBegun s → WovenTo reading s told u
    → AreRunning reading s u told

-- the part of each node in it is a run of that node
pub record RunsOn (machine : ℕ) (run : NodeRun) (u : Joined) : Type 0 where
  pub next : RunState
  pub there : run_of machine u ≡ Some (record { rules = run.rules; state = next })
  pub moments : List ℤ
  pub given : List Given
  pub log : List ℕ
  pub runs : Runs run.rules run.state moments given next log

abbrev pub EachNodeRuns : Reading → Type 0
EachNodeRuns reading =
    (s u : Joined) (told : List Act) (machine : ℕ) (run : NodeRun) → WovenTo reading s told u
    → run_of machine s ≡ Some run → RunsOn machine run u

-- and each board's record has one standing behind it
abbrev pub NodesStand : Reading → Type 0
NodesStand reading =
    (s u : Joined) (told : List Act) → HaveBegun s → WovenTo reading s told u
    → HasOneStanding (line_of u.line)
