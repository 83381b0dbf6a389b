-- ONE TURN of a running machine: it reads a front of its sensor events, takes an input, and its acts
-- do what they do to the floor and to the connections of its two sides.
use Rattle.std.specs.Prelude.{ℕ, ℤ, Bool, true, false, List, [], ◌∷◌, ◌≡◌, ◌≢◌, Option, None, Some, length, slice_get, take}
use Rattle.line_base.specs.Moment.{IsMomentMillis}
use Rattle.line_base.specs.declared.states.Side.{Side}
use Rattle.line_base.specs.declared.states.Side.TheVariants.{Entry, Exit}
use Rattle.board_record.specs.declared.sensed.Sensed.{Sensed}
use Rattle.hermes_horizontal.specs.Canonical.{canonical}
use Rattle.hermes_horizontal.specs.declared.message.Message.{Message}
use Rattle.node_core.specs.May.{may_do, may_of}
use Rattle.node_core.specs.Node.{NodeState}
use Rattle.node_core.specs.Step.{Steps}
use Rattle.node_core.specs.declared.act.Act.{Act}
use Rattle.node_core.specs.declared.act.Act.TheVariants as acts
use Rattle.node_core.specs.declared.input.Input.{Input}
use Rattle.node_core.specs.declared.input.Input.TheVariants as inputs
use Rattle.law_link_messages.specs.Fit.{IsFitInput}
use Rattle.line_step.specs.Acts.{answers, changes, drives_on, lays, takes_off}
use Rattle.line_step.specs.Steps.{is_second}
use Rattle.line_step.specs.World.{link_of}
use Rattle.law_running_line.specs.Reading.{MayTake, Reading, ReadsFront}
use Rattle.law_running_line.specs.Running.{Running, at_place, at_side, count_beyond, node_of, unread_by, with_floor, with_node, with_reading, with_wires}
use Rattle.law_running_line.specs.Wire.{Awaits, Coming, Has, Hold, Left, Wire, bytes_of, coming_to, end_at, given, has, if_reached, left, most_behind, said, text_behind, with_end, with_said_by}

-- ---- which connection an input is of

-- the connection at a place among those of a side
pub record IsAt (machine : ℕ) (side : Side) (place : ℕ) (hold : Hold) (s : Running) : Type 0 where
  pub wire : Wire
  pub there : slice_get (s.wires (link_of machine side)) place ≡ Some wire
  pub held : end_at side wire ≡ hold

-- the side has no connection
abbrev pub HasNone : ℕ → Side → Running → Type 0
HasNone machine side s =
    (place : ℕ) (wire : Wire) → slice_get (s.wires (link_of machine side)) place ≡ Some wire
    → has (end_at side wire) ≡ false

-- bytes come to a side: a piece that isn't empty, of the front of what is on its way to it
pub record Comes (machine : ℕ) (side : Side) (place : ℕ) (piece : List ℕ) (s : Running) : Type 0 where
  pub at : IsAt machine side place Has s
  pub some : piece ≢ []
  pub front : piece ≡ bytes_of (take (length piece) (coming_to side at.wire))

-- an input is of the connection at a place: bytes and a close of one that the side has; a
-- connection that is made, of one that the entry awaits; one that is taken or refused, of one that
-- the exit awaits, as it has none or has another. All other inputs are of none
abbrev pub Meets : ℕ → Input → ℕ → Running → Type 0
Meets machine (inputs.Bytes side piece) place s = Comes machine side place piece.now s
Meets machine (inputs.Notice side) place s = IsAt machine side place Has s
Meets machine inputs.Connect place s = IsAt machine Entry place Awaits s
Meets machine inputs.Accepted place s = IsAt machine Exit place Awaits s × HasNone machine Exit s
Meets machine inputs.Second place s = IsAt machine Exit place Awaits s
Meets machine input place s = Unit {0}

-- behind how many events that are unread still what an input brings was said: a turn's own reading
-- counts as read
abbrev pub wire_behind : Side → ℕ → Option Wire → ℕ
wire_behind side count None = 0
wire_behind side count (Some wire) = most_behind (take count (coming_to side wire))

abbrev pub said_behind : ℕ → Input → ℕ → Running → ℕ
said_behind machine (inputs.Bytes side piece) place s =
    wire_behind side (length piece.now) (slice_get (s.wires (link_of machine side)) place)
said_behind machine input place s = 0

-- ---- what it makes of that connection, before the acts

abbrev pub met : ℕ → Input → ℕ → Running → Running
met machine (inputs.Bytes side piece) place s =
    with_wires (link_of machine side) (at_place place (given side (length piece.now))) s
met machine inputs.Connect place s =
    with_wires (link_of machine Entry) (at_place place (with_end Entry Has)) s
met machine inputs.Accepted place s =
    with_wires (link_of machine Exit) (at_place place (with_end Exit Has)) s
met machine inputs.Second place s =
    with_wires (link_of machine Exit) (at_place place (with_end Exit Left)) s
met machine input place s = s

-- ---- what the acts do

-- a message is said on the connection that the side has
abbrev pub says : ℕ → Side → Message → Running → Running
says machine side message s =
    at_side machine side
    (said side (text_behind (count_beyond machine side s) (canonical message))) s

-- and the answer to a second connection on that one, which the exit has left
abbrev pub answered : List Coming → Wire → Wire
answered coming wire = if_reached wire.below (with_said_by Exit coming wire) wire

abbrev pub answers_at : ℕ → ℕ → Message → Running → Running
answers_at machine place message s =
    with_wires machine
    (at_place place (answered (text_behind (count_beyond machine Exit s) (canonical message)))) s

abbrev pub sent_by : Bool → ℕ → ℕ → Side → Message → Running → Running
sent_by true machine place side message s = answers_at machine place message s
sent_by false machine place side message s = says machine side message s

abbrev pub act_did : Bool → ℕ → ℕ → Act → Running → Running
act_did second machine place (acts.Sends side message) s =
    sent_by (answers second side message) machine place side message s
act_did second machine place (acts.Closes side) s = at_side machine side (left side) s
act_did second machine place (acts.Notices side) s = at_side machine side (left side) s
act_did second machine place (acts.Drive side on) s =
    with_floor (drives_on machine side on s.floor) s
act_did second machine place (acts.Inserts id) s = with_floor (lays machine id s.floor) s
act_did second machine place (acts.Removes id) s = with_floor (takes_off machine id s.floor) s
act_did second machine place (acts.Replaces old new) s =
    with_floor (changes machine old new s.floor) s
act_did second machine place (acts.Gives id to) s =
    with_floor (takes_off machine id s.floor) s
act_did second machine place (acts.Gets id) s = with_floor (lays machine id s.floor) s
act_did second machine place act s = s

abbrev pub did : Bool → ℕ → ℕ → List Act → Running → Running
did second machine place [] s = s
did second machine place (act ∷ others) s =
    did second machine place others (act_did second machine place act s)

-- ---- THE TURN

-- the barcodes of the input are texts, its place on a panel has at most nine digits, and the moment
-- is of the years 1 to 9999
pub record Turns (reading : Reading) (machine : ℕ) (input : Input) (moment : ℤ)
    (before after : Running) (told : List Act) : Type 0 where
  pub node : NodeState
  pub next : NodeState
  pub there : node_of machine before ≡ Some node
  pub read : List Sensed
  pub rest : List Sensed
  pub front : ReadsFront (unread_by machine before) read rest
  pub place : ℕ
  pub meets : Meets machine input place before
  pub in_time : MayTake reading input
      (said_behind machine input place (with_reading machine read rest before)) rest
  pub may : may_of node input ≡ may_do
  pub moments : IsMomentMillis moment
  pub texts : IsFitInput input
  pub steps : Steps node read input moment next told
  pub unspent : next.spent ≡ node.spent
  pub after_is : after
      ≡ did (is_second input) machine place told
      (met machine input place (with_node machine next (with_reading machine read rest before)))
