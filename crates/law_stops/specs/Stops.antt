-- A MACHINE THAT LOSES ITS POWER and begins again with its records: it notices at its entry, and behind
-- that at its exit, that its connection is gone, each where it has one. It reads nothing meanwhile.
use Rattle.std.specs.Prelude.{◌≡◌, ℕ, ℤ, false, List, [], Some, Result, Ok, Err}
use Rattle.book_entry.specs.declared.entry.Entry.{Entry}
use Rattle.config_service.specs.declared.message.Settings.{Settings}
use Rattle.line_base.specs.declared.states.Side.{Side}
use Rattle.line_base.specs.declared.states.Side.TheVariants.{Entry as In, Exit as Out}
use Rattle.line_outside.specs.Given.{Given}
use Rattle.line_step.specs.Parts.{IsPlay, stop_parts}
use Rattle.line_step.specs.Runs.{Point, state_behind}
use Rattle.line_step.specs.State.{LineState, machine_in}
use Rattle.line_step.specs.Steps.{unread_by}
use Rattle.line_step.specs.Together.{IsLineTogether}
use Rattle.machine_log.specs.declared.drives.Drives.{Drives}
use Rattle.node_core.specs.May.{may_of}
use Rattle.node_core.specs.Node.{NodeState}
use Rattle.node_core.specs.Step.{Steps}
use Rattle.node_core.specs.declared.act.Act.{Act}
use Rattle.node_core.specs.declared.input.Input.TheVariants as inputs
use Rattle.node_core.specs.declared.input.No.{No}
use Rattle.node_run.specs.Booked.{RunsKept}
use Rattle.node_run.specs.State.{RunState, resumed}
use Rattle.node_run.specs.declared.place.Place.TheVariants as places
use Rattle.node_run.specs.declared.rules.Rules.{Rules}
use Rattle.restart_book.specs.Exactly.{AreOne}

-- it notices at a side, at whatever moment, where it may, and else nothing happens to it
abbrev pub NoticesIf : Result (Unit {0}) No → Side → NodeState → NodeState → Type 0
NoticesIf (Ok done) side s t =
    (moment : ℤ) × (acts : List Act) × Steps s [] (inputs.Notice side) moment t acts
NoticesIf (Err why) side s t = t ≡ s

pub record LosesPower (s t : NodeState) : Type 0 where
  pub between : NodeState
  pub entry : NoticesIf (may_of s (inputs.Notice In)) In s between
  pub exit : NoticesIf (may_of between (inputs.Notice Out)) Out between t

-- where it was supervised, it makes a step by which it isn't any more
abbrev pub UnsupervisedIf : Result (Unit {0}) No → NodeState → NodeState → Type 0
UnsupervisedIf (Ok done) s t =
    (moment : ℤ) × (acts : List Act) × Steps s [] (inputs.Supervise false) moment t acts
UnsupervisedIf (Err why) s t = t ≡ s

-- ---- a stop in a script, of a machine that has read all that its sensors saw

abbrev pub StopsLosePower : Type 0
StopsLosePower =
    (s : LineState) (machine : ℕ) (points : List Point) (node after : NodeState) → IsLineTogether s
    → machine_in machine s ≡ Some node → unread_by machine s.world ≡ []
    → IsPlay s (stop_parts machine) points
    → machine_in machine (state_behind s points) ≡ Some after → LosesPower node after

-- ---- turn 0 of a node, at its last place, where nothing is done

pub record IsGoneBehind (s t : NodeState) : Type 0 where
  pub after : NodeState
  pub loses : LosesPower s after
  pub unsupervised : UnsupervisedIf (may_of after (inputs.Supervise false)) after t

abbrev pub TurnZeroLosesPower : Type 0
TurnZeroLosesPower =
    (rules : Rules) (settings : Settings) (node : NodeState) (drives : Drives) (moments : List ℤ)
    (t : RunState) (calls : List Given) (log : List ℕ) (entries : List Entry)
    → RunsKept rules (resumed settings node drives) moments calls t log entries → t.turn ≡ 0
    → t.place ≡ places.TurnDone → IsGoneBehind node t.node

-- ---- THE LAW: of one machine of a line and of a node, the stop of the one and turn 0 of the other make
-- one machine; but for the supervisor, of whom a script's stop says nothing

pub record IsStopped (after t : NodeState) : Type 0 where
  pub alone : NodeState
  pub one : AreOne after alone
  pub unsupervised : UnsupervisedIf (may_of alone (inputs.Supervise false)) alone t

abbrev pub StopIsTurnZero : Type 0
StopIsTurnZero =
    (s : LineState) (machine : ℕ) (points : List Point) (node after own : NodeState) (rules : Rules)
    (settings : Settings) (drives : Drives) (moments : List ℤ) (t : RunState) (calls : List Given)
    (log : List ℕ) (entries : List Entry) → IsLineTogether s → machine_in machine s ≡ Some node
    → unread_by machine s.world ≡ [] → IsPlay s (stop_parts machine) points
    → machine_in machine (state_behind s points) ≡ Some after → AreOne node own
    → RunsKept rules (resumed settings own drives) moments calls t log entries → t.turn ≡ 0
    → t.place ≡ places.TurnDone → IsStopped after t.node
