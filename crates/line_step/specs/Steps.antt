-- One machine of the line makes a step.
use Rattle.std.specs.Prelude.{◌≡◌, ℕ, ℤ, pos, Bool, true, false, List, [], ◌++◌, Some}
use Rattle.board_record.specs.declared.sensed.Sensed.{Sensed}
use Rattle.line_world.specs.FloorPlan.{machine_at, with_unread}
use Rattle.node_core.specs.declared.act.Act.{Act}
use Rattle.node_core.specs.declared.input.Input.{Input}
use Rattle.node_core.specs.declared.input.Input.TheVariants as inputs
use Rattle.node_core.specs.Node.{NodeState}
use Rattle.node_core.specs.Step.{Steps}
use Rattle.line_step.specs.World.{WorldParts, with_floor}
use Rattle.line_step.specs.State.{LineState, machine_in, with_machine, with_world}
use Rattle.line_step.specs.Acts.{acts_did}
use Rattle.line_report.specs.declared.happening.Happening.{Happening}

-- the moment of script line L is L milliseconds
abbrev pub moment_of : ℕ → ℤ
moment_of number = pos number

-- the sensor events that a machine has not read, and the world in which it has read them
abbrev pub unread_by : ℕ → WorldParts → List Sensed
unread_by machine world = (machine_at world.floor machine).unread

abbrev pub read_by : ℕ → WorldParts → WorldParts
read_by machine world = with_floor (with_unread world.floor machine []) world

abbrev pub is_second : Input → Bool
is_second inputs.Second = true
is_second _ = false

-- a machine that is there makes a step of an input: it reads its unread events, and its acts do
-- what they do to the links and the floor, in their order. Nothing else of the line changes
pub record MachineSteps (number machine : ℕ) (input : Input) (before after : LineState)
    (told : List Happening) : Type 0 where
  pub node : NodeState
  pub next : NodeState
  pub acts : List Act
  pub there : machine_in machine before ≡ Some node
  pub steps : Steps node (unread_by machine before.world) input (moment_of number) next acts
  pub unspent : next.spent ≡ node.spent
  pub after_is : after
      ≡ with_world (acts_did (is_second input) machine acts (read_by machine before.world)).world
      (with_machine machine next before)
  pub told_is : told
      ≡ (acts_did (is_second input) machine acts (read_by machine before.world)).told

-- one step and then another
pub record StepsTwice (First Second : LineState → LineState → List Happening
    → Type 0) (before after : LineState) (told : List Happening) : Type 0 where
  pub between : LineState
  pub earlier : List Happening
  pub later : List Happening
  pub first : First before between earlier
  pub second : Second between after later
  pub told_is : told ≡ earlier ++ later

-- a machine makes a step, and what it did is told behind what was told before
pub record TellsStep (number machine : ℕ) (input : Input) (before after : LineState)
    (old new : List Happening) : Type 0 where
  pub told : List Happening
  pub behind : new ≡ old ++ told
  pub steps : MachineSteps number machine input before after told
