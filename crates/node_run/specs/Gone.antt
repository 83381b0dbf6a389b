-- TURN 0 OF A MACHINE THAT BEGINS AGAIN: behind the listens it hears of each connection that it had
-- that it is gone, and that it isn't supervised any more, at the places where those ways are polled
-- in other turns. Nobody is there yet: what it says in such a step is said to nobody.
use Rattle.std.specs.Prelude.{◌≡◌, ◌&&◌, ℕ, ℤ, Bool, true, false, nat_lt, List, [], Option, None, Some, Result, Ok, Err}
use Rattle.line_base.specs.declared.states.Side.TheVariants.{Entry, Exit}
use Rattle.book_entry.specs.Given.{entry_of}
use Rattle.machine_log.specs.Account.{AreProper}
use Rattle.machine_log.specs.Texts.{lines_of}
use Rattle.node_core.specs.May.{may_of}
use Rattle.node_core.specs.Node.{NodeState}
use Rattle.node_core.specs.Step.{Steps}
use Rattle.node_core.specs.declared.act.Act.{Act}
use Rattle.node_core.specs.declared.input.Input.{Input}
use Rattle.node_core.specs.declared.input.Input.TheVariants as inputs
use Rattle.node_core.specs.declared.input.No.{No}
use Rattle.node_run.specs.Next.{moved_on}
use Rattle.node_run.specs.State.{RunState}
use Rattle.node_run.specs.Steps.{with_node}
use Rattle.node_run.specs.declared.place.Place.{Place}
use Rattle.node_run.specs.declared.place.Place.TheVariants as places
use Rattle.node_run.specs.declared.rules.Rules.{Rules}
use Rattle.node_run.specs.declared.status.NodeStatus.{NodeStatus}

abbrev pub is_behind_listens : Place → Bool
is_behind_listens places.ListenPanel = false
is_behind_listens places.ListenDownstream = false
is_behind_listens places.ListenSupervisory = false
is_behind_listens places.ListenConfiguration = false
is_behind_listens _ = true

-- where a listen failed it has ended
abbrev pub begins_by : Option NodeStatus → ℕ → Place → Bool
begins_by (Some status) turn place = false
begins_by None turn place = nat_lt turn 1 && is_behind_listens place

abbrev pub begins_again : RunState → Bool
begins_again s = begins_by s.ended s.turn s.place

-- what the machine is given at a place: its entry first
abbrev pub gone_at : Place → Option Input
gone_at places.PollUpstream = Some (inputs.Notice Entry)
gone_at places.PollDownstream = Some (inputs.Notice Exit)
gone_at places.PollSupervisory = Some (inputs.Supervise false)
gone_at _ = None

-- a step whose messages go nowhere
pub record StepsAlone (rules : Rules) (moment : ℤ) (input : Input) (s t : RunState)
    (log : List ℕ) : Type 0 where
  pub node : NodeState
  pub told : List Act
  pub steps : Steps s.node [] input moment node told
  pub proper : AreProper told
  pub after : t ≡ with_node (entry_of [] input moment) node told s
  pub lines : log ≡ lines_of rules.panel.drives s.turn rules.number told

abbrev pub StepsIf : Result (Unit {0}) No → Rules → ℤ → Input → RunState → RunState → List ℕ
    → Type 0
StepsIf (Ok done) rules moment input s t log = StepsAlone rules moment input s t log
StepsIf (Err why) rules moment input s t log = (t ≡ s) × (log ≡ [])

-- ONE STEP, where the machine had the connection, or was supervised
abbrev pub HearsIf : Option Input → Rules → ℤ → RunState → RunState → List ℕ → Type 0
HearsIf None rules moment s t log = (t ≡ s) × (log ≡ [])
HearsIf (Some input) rules moment s t log =
    StepsIf (may_of s.node input) rules moment input s t log

abbrev pub HearsGone : Rules → ℤ → RunState → RunState → List ℕ → Type 0
HearsGone rules moment s t log = HearsIf (gone_at s.place) rules moment (moved_on s) t log
