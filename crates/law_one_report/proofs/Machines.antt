-- A machine makes a step of each input, and a machine of a line does so with its acts.
use Rattle.std.proofs.Common.{◌≡◌, ◌++◌, ℕ, ℤ, List, [], Some, refl}
use Rattle.line_base.specs.declared.states.Side.TheVariants.{Entry, Exit}
use Rattle.board_record.specs.declared.sensed.Sensed.{Sensed}
use Rattle.hermes_stream.specs.Frames.{frames_of}
use Rattle.line_report.specs.declared.happening.Happening.{Happening}
use Rattle.node_core.specs.Done.{Done}
use Rattle.node_core.specs.Event.{event_of, maker_after}
use Rattle.node_core.specs.Forecasts.{forecasts_after}
use Rattle.node_core.specs.Node.{NodeState, desk_of}
use Rattle.node_core.specs.Signals.{levels_after, signalled}
use Rattle.node_core.specs.Step.{Brings, Steps, entry_after, exit_after, machine_step}
use Rattle.node_core.specs.Supervising.{orders_after, supervised_after}
use Rattle.node_core.specs.declared.act.Act.{Act}
use Rattle.node_core.specs.declared.input.Input.{Input}
use Rattle.node_core.specs.declared.input.Input.TheVariants as inputs
use Rattle.node_core.specs.declared.lane.Lane.{Lane}
use Rattle.node_core.specs.declared.word.Word.{Word}
use Rattle.line_step.specs.Acts.{acts_did}
use Rattle.line_step.specs.State.{LineState, machine_in, with_machine, with_world}
use Rattle.line_step.specs.Steps.{MachineSteps, is_second, moment_of, read_by, unread_by}
use Rattle.law_one_report.proofs.Words.{has_words}

-- ---- a machine

-- a machine's step of an input, which leaves memory as it is
pub record HasSteps (s : NodeState) (unread : List Sensed) (input : Input) (moment : ℤ) : Type 0 where
  pub next : NodeState
  pub acts : List Act
  pub steps : Steps s unread input moment next acts
  pub unspent : next.spent ≡ s.spent

-- what the lane does with these words
abbrev did : NodeState → List Sensed → Input → ℤ → List Word → Done
did s unread input moment words = machine_step (desk_of s moment) unread (event_of s.maker input words) s.lane.body

abbrev acts_of : NodeState → List Sensed → Input → ℤ → List Word → List Act
acts_of s unread input moment words = (did s unread input moment words).acts ++ signalled s.bridge (did s unread input moment words).body

abbrev lane_of : NodeState → List Sensed → Input → ℤ → List Word → List ℕ → List ℕ → Lane
lane_of s unread input moment words entry exit = record { body = (did s unread input moment words).body; entry_bytes = entry; exit_bytes = exit }

abbrev node_of : NodeState → List Sensed → Input → ℤ → List Word → List ℕ → List ℕ → NodeState
node_of s unread input moment words entry exit = record {
  spent = s.spent;
  name = s.name;
  number = s.number;
  capacity = s.capacity;
  maker = maker_after input s.maker;
  lane = lane_of s unread input moment words entry exit;
  bridge = levels_after input (did s unread input moment words).body s.bridge;
  forecasts = forecasts_after s.forecasts (acts_of s unread input moment words);
  supervised = supervised_after input s.supervised;
  orders = orders_after input s.orders;
}

steps_with : (s : NodeState) (unread : List Sensed) (input : Input) (moment : ℤ) (words : List Word) (entry exit : List ℕ)
    → Brings input s.lane (lane_of s unread input moment words entry exit) words → HasSteps s unread input moment
steps_with s unread input moment words entry exit brings = record {
  next = node_of s unread input moment words entry exit;
  acts = acts_of s unread input moment words;
  steps = record {
    made = (did s unread input moment words).acts;
    lane = record { words = words; brings = brings; body = refl; told = refl; made = refl };
    told = refl;
    bridge = refl;
    forecasts = refl;
    supervised = refl;
    orders = refl;
    name = refl;
    number = refl;
    capacity = refl;
  };
  unspent = refl;
}

pub has_steps : (s : NodeState) (unread : List Sensed) (input : Input) (moment : ℤ) → HasSteps s unread input moment
has_steps s unread (inputs.Bytes Entry piece) moment =
    let frames = frames_of (s.lane.entry_bytes ++ piece.now) in
    let h = has_words (desk_of s moment) unread Entry s.lane.body frames.messages frames.rest in
    steps_with s unread (inputs.Bytes Entry piece) moment h.words h.left s.lane.exit_bytes (record { first = h.first; all = h.all }, refl)
has_steps s unread (inputs.Bytes Exit piece) moment =
    let frames = frames_of (s.lane.exit_bytes ++ piece.now) in
    let h = has_words (desk_of s moment) unread Exit s.lane.body frames.messages frames.rest in
    steps_with s unread (inputs.Bytes Exit piece) moment h.words s.lane.entry_bytes h.left (record { first = h.first; all = h.all }, refl)
has_steps s unread input moment = steps_with s unread input moment [] (entry_after input s.lane.entry_bytes) (exit_after input s.lane.exit_bytes) (refl, refl)

-- ---- a machine of a line

pub record HasMachineSteps (number machine : ℕ) (input : Input) (before : LineState) : Type 0 where
  pub after : LineState
  pub told : List Happening
  pub steps : MachineSteps number machine input before after told

pub has_machine_steps : (number machine : ℕ) (input : Input) (before : LineState) (node : NodeState) → machine_in machine before ≡ Some node → HasMachineSteps number machine input before
has_machine_steps number machine input before node there =
    let own = has_steps node (unread_by machine before.world) input (moment_of number) in
    record {
      after = with_world (acts_did (is_second input) machine own.acts (read_by machine before.world)).world (with_machine machine own.next before);
      told = (acts_did (is_second input) machine own.acts (read_by machine before.world)).told;
      steps = record { node = node; next = own.next; acts = own.acts; there = there; steps = own.steps; unspent = own.unspent; after_is = refl; told_is = refl };
    }
