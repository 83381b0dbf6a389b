-- THE RELATION OF RUNNING MACHINES, of their whole state: that of each link and each machine by
-- numbers, as a line of a script has it, and beside it what waits on each link and which messages
-- the bytes on their way are.
use Rattle.std.specs.Prelude.{ℕ, Bool, false, true, List, [], Some, filter, length, ◌&&◌, ◌+◌, ◌^◌, ◌<◌, ◌≡◌, ◌≤◌}
use Rattle.std.specs.List.{AllByRecursion, list_any}
use Rattle.board_record.specs.Maker.{made_id}
use Rattle.session_core.specs.declared.state.SessionState.TheVariants.{NotConnected}
use Rattle.hermes_horizontal.specs.declared.message.Horizontal.{Horizontal}
use Rattle.hermes_horizontal.specs.declared.message.Message.{Message}
use Rattle.handover_out.specs.declared.phase.Phase.TheVariants as out
use Rattle.handover_in.specs.declared.phase.Phase.TheVariants as inn
use Rattle.line_world.specs.Boards.{boards_on}
use Rattle.line_world.specs.FloorPlan.{IsWhole, gap_at, has_id}
use Rattle.line_world.specs.Ids.{IdsDiffer}
use Rattle.node_core.specs.Node.{NodeState}
use Rattle.node_core.specs.Sound.{IsSound}
use Rattle.law_custody.specs.Bytes.{Flows, texts_of}
use Rattle.law_link_messages.specs.Fit.{AreFit}
use Rattle.law_link_messages.specs.Heard.{bodies}
use Rattle.line_step.specs.Numbered.{node_at}
use Rattle.line_step.specs.Reasons.{has_link}
use Rattle.line_step.specs.State.{LineState, no_line}
use Rattle.line_step.specs.World.{no_world}
use Rattle.law_one_standing.specs.Carried.{IsFitMachine, Trace, stand_of}
use Rattle.law_one_standing.specs.Kept.{Keeps}
use Rattle.law_one_standing.specs.Relation.{Between}
use Rattle.law_running_line.specs.New.{NumbersDiffer}
use Rattle.law_running_line.specs.Running.{Running, node_of, unread_by}
use Rattle.law_running_line.specs.Waits.{Waits, had_above, had_below}
use Rattle.law_running_line.specs.Wire.{Awaits, Coming, Has, Wire, bytes_of, has}

-- ---- by numbers

-- the same machines over the same floor, as a line of a script has them, without its links
abbrev pub line_of : Running → LineState
line_of s = record no_line {
  machines = s.machines;
  world = record no_world { floor = s.floor };
}

abbrev pub node_in : Running → ℕ → NodeState
node_in s machine = node_at (line_of s) machine

-- both ends have the connection
abbrev pub is_joined : Wire → Bool
is_joined wire = has wire.above && has wire.below

-- what is between two machines: the link stands where both have one connection
abbrev pub between_of : Trace → Running → ℕ → Between
between_of t s link = record {
  ghost = t.ghost link;
  stands = list_any is_joined (s.wires link);
  gap = gap_at s.floor link;
  up = t.up link;
  down = t.down link;
  gone = t.gone link;
}

-- ---- bytes

-- what is on its way to a side, behind the bytes that wait there, is these messages, whole
pub record Carries (waiting : List ℕ) (coming : List Coming) (messages : List Horizontal)
    : Type 0 where
  pub said : List Message
  pub fit : AreFit said
  pub flows : Flows waiting (bytes_of coming) (texts_of said)
  pub are : messages ≡ bodies said

-- the messages that are sent and not heard come on the connection that their side has; to a side
-- without one there are none, and none on one that has not come, or was not taken, at the other end
pub record Carried (above below : NodeState) (upward downward : List Horizontal)
    (wires : List Wire) : Type 0 where
  pub up : AllByRecursion
      (λ (wire : Wire). wire.above ≡ Has → Carries above.lane.exit_bytes wire.up upward) wires
  pub down : AllByRecursion
      (λ (wire : Wire). wire.below ≡ Has → Carries below.lane.entry_bytes wire.down downward) wires
  pub quiet : AllByRecursion
      (λ (wire : Wire). wire.above ≡ Has → wire.below ≡ Awaits → upward ≡ []) wires
  pub called : AllByRecursion
      (λ (wire : Wire). wire.above ≡ Awaits → wire.below ≡ Has → downward ≡ []) wires
  pub none_up : list_any had_above wires ≡ false → upward ≡ []
  pub none_down : list_any had_below wires ≡ false → downward ≡ []

-- ---- ids

-- a machine that is there made the id: it bears the machine's number, and a count that the machine
-- has used
pub record IsMade (s : Running) (id : ℕ) : Type 0 where
  pub machine : ℕ
  pub node : NodeState
  pub there : node_of machine s ≡ Some node
  pub count : ℕ
  pub used : count ≤ node.maker.used
  pub small : count < 2 ^ 48
  pub is : id ≡ made_id node.maker.machine count

-- ---- and all of it

-- where there is no link no board is handed over, and there is no connection
pub record IsAtRest (s : Running) (link : ℕ) : Type 0 where
  pub outlet : (node_in s link).lane.body.outlet.phase ≡ out.Idle
  pub intake : (node_in s (link + 1)).lane.body.intake.phase ≡ inn.Idle
  pub exit : (node_in s link).lane.body.exit.session.state ≡ NotConnected
  pub entry : (node_in s (link + 1)).lane.body.entry.session.state ≡ NotConnected
  pub wires : s.wires link ≡ []

pub record Stands (t : Trace) (s : Running) : Type 0 where
  pub keeps : Keeps (stand_of (line_of s)) (between_of t s)
  pub waits : (link : ℕ)
      → Waits (node_in s link).lane.body (node_in s (link + 1)).lane.body
      (unread_by (link + 1) s) (s.wires link)
  pub carried : (link : ℕ)
      → Carried (node_in s link) (node_in s (link + 1)) (t.up link) (t.down link) (s.wires link)
  pub rest : (link : ℕ) → has_link link (line_of s) ≡ false → IsAtRest s link
  -- the records of each machine are fit to be told of, and it is sound between its steps
  pub fit : (machine : ℕ) → IsFitMachine (line_of s) machine
  pub sound : (machine : ℕ) → IsSound (node_in s machine).capacity (node_in s machine).lane.body
  pub many : length s.floor.machines ≡ length s.machines
  pub whole : IsWhole s.floor
  pub differ : IdsDiffer s.floor
  pub numbers : NumbersDiffer s
  -- the id of each board on the floor was made by a machine, and so was each that went from it
  pub made : (id : ℕ) → 1 ≤ length (filter (has_id id) (boards_on s.floor)) → IsMade s id
  pub olds : (link id : ℕ) → t.gone link id ≡ true → IsMade s id

-- running machines stand in it, with some trace
pub record AreInRelation (s : Running) : Type 0 where
  pub trace : Trace
  pub stands : Stands trace s
