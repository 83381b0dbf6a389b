-- A MACHINE BEHIND ITS PORT: the machine, what waits on the ways to its neighbours and to its
-- supervisor, what came of that, the levels of its drives and signals, and what it did last.
use Rattle.std.specs.Prelude.{◌≡◌, ◌+◌, ℕ, ℤ, Bool, true, false, List, [], ◌∷◌, Option, None, Some, Result, Ok, Err, drop, nat_lt, if◌then◌else◌}
use Rattle.line_base.specs.declared.states.Side.{Side}
use Rattle.line_base.specs.declared.states.Side.TheVariants.{Entry, Exit}
use Rattle.board_record.specs.declared.sensed.Sensed.{Sensed}
use Rattle.node_core.specs.Bounds.{IsBounded}
use Rattle.node_core.specs.Breaking.{IsBrokenOff}
use Rattle.node_core.specs.Bridge.{IsWilling}
use Rattle.node_core.specs.May.{may_of, no_if}
use Rattle.node_core.specs.Node.{NodeState, new_node}
use Rattle.node_core.specs.Own.{own_after, own_of}
use Rattle.node_core.specs.Step.{Steps}
use Rattle.node_core.specs.declared.act.Act.{Act}
use Rattle.node_core.specs.declared.input.Input.{Input}
use Rattle.node_core.specs.declared.input.Input.TheVariants as inputs
use Rattle.node_core.specs.declared.input.No.{No}
use Rattle.node_core.specs.declared.input.No.TheVariants as no
use Rattle.node_core.specs.declared.profile.NodeProfile.{NodeProfile}
use Rattle.machine_port.specs.Levels.{all_off, levels_after}
use Rattle.supervised_end.specs.Channel.{ChannelValue, no_session}
use Rattle.machine_port.specs.Ways.{WayState, at_rest, said_at, told_way, way_after, way_sent}
use Rattle.machine_port.specs.declared.levels.Levels.{Levels}

-- a port is spent once memory was wanting. `name` is its machine's, `number` the number in the ids
-- that its machine makes, and `made` how many it made, with those before it was new; `steps` is how many steps it
-- made; `channel` is what came of its supervisor, and the session there; `refusal` is the text for a
-- second connection, and `last` are the acts of the last call that was done
pub record PortState : Type 0 where
  pub spent : Bool
  pub name : List ℕ
  pub number : ℕ
  pub made : ℕ
  pub steps : ℕ
  pub node : NodeState
  pub entry : WayState
  pub exit : WayState
  pub supervisor : WayState
  pub channel : ChannelValue
  pub refusal : List ℕ
  pub levels : Levels
  pub last : List Act

-- a new machine without connections
abbrev pub new_port : NodeProfile → PortState
new_port profile = record {
  spent = false;
  name = profile.machine;
  number = profile.number;
  made = profile.used;
  steps = 0;
  node = new_node profile;
  entry = at_rest;
  exit = at_rest;
  supervisor = at_rest;
  channel = no_session;
  refusal = [];
  levels = all_off;
  last = [];
}

abbrev pub way_at : Side → PortState → WayState
way_at Entry s = s.entry
way_at Exit s = s.exit

abbrev pub with_way : Side → WayState → PortState → PortState
with_way Entry way s = record s { entry = way }
with_way Exit way s = record s { exit = way }

-- ---- what is against an input

-- a connection may not be made while the one before it is still to be closed: what waits there
-- would go out on the new one
abbrev pub may_take : PortState → Input → Result (Unit {0}) No
may_take s inputs.Connect =
    no_if s.entry.closes no.Connected (may_of s.node inputs.Connect)
may_take s inputs.Accepted =
    no_if s.exit.closes no.Connected (may_of s.node inputs.Accepted)
may_take s input = may_of s.node input

-- ---- what the acts of a step do

-- the side whose connection is found closed by an input
abbrev pub closed_by : Input → Option Side
closed_by (inputs.Notice side) = Some side
closed_by _ = None

-- what waits there is dropped
abbrev pub dropped : Option Side → PortState → PortState
dropped None s = s
dropped (Some side) s = with_way side at_rest s

-- each way after some acts
abbrev pub on_ways : List Act → PortState → PortState
on_ways told s =
    record s {
      entry = way_after Entry told s.entry;
      exit = way_after Exit told s.exit;
      supervisor = told_way s.channel.stands told s.supervisor;
    }

-- of the acts at a second connection the first is said on that one, and the others go their ways
abbrev pub first_said : List Act → List ℕ
first_said [] = []
first_said (first ∷ others) = said_at Exit first

abbrev pub behind_first : List Act → List Act
behind_first [] = []
behind_first (first ∷ others) = others

abbrev pub said_to_second : List Act → PortState → PortState
said_to_second told s =
    record (on_ways (behind_first told) s) { refusal = first_said told }

abbrev pub is_second : Input → Bool
is_second inputs.Second = true
is_second _ = false

-- WHERE THE MESSAGES OF A STEP GO: to the ways of their sides, and at a second connection the first
-- of them to that
abbrev pub routed : Bool → List Act → PortState → PortState
routed true told s = said_to_second told s
routed false told s = on_ways told s

-- how many ids are made once an input was given: a board that is put in, and one that replaces
-- another, has a new one
abbrev pub made_after : Input → ℕ → ℕ
made_after (inputs.Insert barcode) made = made + 1
made_after (inputs.Replace id) made = made + 1
made_after _ made = made

-- how many steps are made with one more, as far as 64 bits count
abbrev pub one_step_more : ℕ → ℕ
one_step_more steps = if nat_lt steps 18446744073709551615 then steps + 1 else steps

-- THE PORT AFTER A STEP of its machine, that did these acts
abbrev pub stepped : Input → NodeState → List Act → PortState → PortState
stepped input node told s =
    record (routed (is_second input) told (dropped (closed_by input) s)) {
      spent = false;
      made = made_after input s.made;
      steps = one_step_more s.steps;
      node = node;
      levels = levels_after s.levels told;
      last = told;
    }

-- ONE STEP: the machine's, with all that is promised of it, and what that does to its port
pub record HasStepped (sensed : List Sensed) (input : Input) (moment : ℤ) (s t : PortState)
    : Type 0 where
  pub step : Steps s.node sensed input moment t.node t.last
  pub wrong : IsBrokenOff s.node sensed input moment t.node t.last
  pub bounded : IsBounded t.node
  pub willing : IsWilling t.node.bridge t.node.lane.body
  pub own : own_of t.node.lane.body ≡ own_after (own_of s.node.lane.body) t.last
  pub after : t ≡ stepped input t.node t.last s

-- THE CONNECTION OF A SIDE IS CLOSED, by whomever: what waits there is dropped, and the machine
-- makes a step where it has a connection there still; else it does nothing
abbrev pub HasClosed : Result (Unit {0}) No → Side → ℤ → PortState → PortState → Type 0
HasClosed (Ok done) side moment s t = HasStepped [] (inputs.Notice side) moment s t
HasClosed (Err why) side moment s t = t ≡ record (with_way side at_rest s) { last = [] }

-- so many bytes from the front of a way are sent
abbrev pub sent : Side → ℕ → PortState → PortState
sent side count s = with_way side (way_sent count (way_at side s)) s

-- and of the text for a second connection
abbrev pub sent_refusal : ℕ → PortState → PortState
sent_refusal count s = record s { refusal = drop count s.refusal }
