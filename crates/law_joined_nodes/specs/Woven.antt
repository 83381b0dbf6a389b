-- WHAT HAPPENS AMONG JOINED NODES, in any order: a node makes a move, a connection that an end
-- awaits is lost, a board moves, a board is let go behind the reading.
use Rattle.std.specs.Prelude.{ℕ, ℤ, false, List, [], ◌∷◌, ◌++◌, ◌+◌, ◌≡◌, ◌≢◌, Option, None, Some, Ok, slice_get}
use Rattle.line_base.specs.Moment.{IsMomentMillis}
use Rattle.line_base.specs.declared.states.Side.{Side}
use Rattle.line_base.specs.declared.states.Side.TheVariants.{Entry, Exit}
use Rattle.line_outside.specs.Given.{Connects, Given, Polls}
use Rattle.line_outside.specs.declared.answer.GotBytes.{GotBytes}
use Rattle.line_outside.specs.declared.answer.GotBytes.TheVariants as founds
use Rattle.line_outside.specs.declared.ports.Opened.TheVariants as openings
use Rattle.line_outside.specs.declared.way.Address.{Address}
use Rattle.line_outside.specs.declared.way.Way.{Way}
use Rattle.line_outside.specs.declared.way.Way.TheVariants as ways
use Rattle.board_record.specs.declared.record.Record.{Record}
use Rattle.board_record.specs.declared.sensed.Sensed.{Sensed}
use Rattle.handover_out.specs.declared.phase.Phase.TheVariants as out
use Rattle.line_world.specs.FloorPlan.{FloorPlan}
use Rattle.line_world.specs.Moves.{floor_move}
use Rattle.line_world.specs.declared.moves.Move.{Move}
use Rattle.line_world.specs.declared.moves.Move.TheVariants.{Begin}
use Rattle.node_core.specs.declared.act.Act.{Act}
use Rattle.node_core.specs.declared.input.Input.{Input}
use Rattle.node_core.specs.declared.input.Input.TheVariants as inputs
use Rattle.law_custody.specs.Words.{events_at}
use Rattle.line_step.specs.Steps.{is_second}
use Rattle.line_step.specs.World.{link_of}
use Rattle.law_node_runs.specs.Connections.{IsFront}
use Rattle.node_run.specs.Runs.{Moves}
use Rattle.node_run.specs.State.{RunState}
use Rattle.law_running_line.specs.Reading.{MayTake, Reading, ReadsFront}
use Rattle.law_running_line.specs.Running.{Running, unread_by, with_floor, with_node, with_reading}
use Rattle.law_running_line.specs.RunSteps.{Asks, LetsBe, Moves as BoardMoves}
use Rattle.law_running_line.specs.Turns.{IsAt, did, met, said_behind}
use Rattle.law_running_line.specs.Wire.{Awaits, Has, Wire, bytes_of, coming_to, end_at}
use Rattle.law_joined_nodes.specs.Does.{Does, Taken}
use Rattle.law_joined_nodes.specs.Joined.{Joined, NodeRun, run_of, unspent, with_state}

-- ---- what ports can answer, whose connections are those between the neighbours

-- bytes that a poll finds at a side, on the connection that it has: a front of what was said to
-- it there and not heard
pub record ComeTo (machine : ℕ) (side : Side) (bytes : List ℕ) (s : Running) : Type 0 where
  pub some : bytes ≢ []
  pub front : (place : ℕ) (wire : Wire)
      → slice_get (s.wires (link_of machine side)) place ≡ Some wire → end_at side wire ≡ Has
      → IsFront bytes (bytes_of (coming_to side wire))

abbrev pub FoundOn : ℕ → Way → GotBytes → Running → Type 0
FoundOn machine ways.Upstream (founds.Bytes bytes) s = ComeTo machine Entry bytes s
FoundOn machine ways.Downstream (founds.Bytes bytes) s = ComeTo machine Exit bytes s
FoundOn machine way found s = Unit {0}

abbrev pub CanAnswer : ℕ → List Given → Running → Type 0
CanAnswer machine (Polls way room found ∷ []) s = FoundOn machine way found s
CanAnswer machine given s = Unit {0}

-- a connection that arrives at a side, or is a second one there, is one that it awaits; what a side
-- hears, or notices, is of the one that it has
abbrev pub IsOf : ℕ → Input → ℕ → Running → Type 0
IsOf machine inputs.Connect place s = IsAt machine Entry place Awaits s
IsOf machine inputs.Accepted place s = IsAt machine Exit place Awaits s
IsOf machine inputs.Second place s = IsAt machine Exit place Awaits s
IsOf machine (inputs.Bytes side piece) place s = IsAt machine side place Has s
IsOf machine (inputs.Notice side) place s = IsAt machine side place Has s
IsOf machine input place s = Unit {0}

-- a connection that a node asks for is one between it and its neighbour from then on; or it never
-- comes to anything
pub data Calls : ℕ → List Given → Running → Running → Type 0 where
  calls_above : {above : ℕ} {address : Address} {before after : Running} → Asks above before after
      → Calls (above + 1) (Connects ways.Upstream address openings.Done ∷ []) before after
  calls_nobody : {machine : ℕ} {given : List Given} {line : Running} → Calls machine given line line

-- ---- a move

-- the machine's step in it, as a turn of the running line: the events that the panel told are a
-- front of those that its sensors saw, and no more is unread than the reading allows
pub record TakesTurn (reading : Reading) (machine : ℕ) (moment : ℤ) (s t : RunState)
    (taken : Taken) (before after : Running) : Type 0 where
  pub rest : List Sensed
  pub front : ReadsFront (unread_by machine before) taken.read rest
  pub place : ℕ
  pub of_it : IsOf machine taken.input place before
  pub in_time : MayTake reading taken.input
      (said_behind machine taken.input place (with_reading machine taken.read rest before)) rest
  pub moments : IsMomentMillis moment
  pub after_is : after
      ≡ did (is_second taken.input) machine place taken.told
      (met machine taken.input place
      (with_node machine (unspent t.node) (with_reading machine taken.read rest before)))

abbrev pub TakesIf : Reading → ℕ → ℤ → RunState → RunState → List Given → Option Taken → Running
    → Running → List Act → Type 0
TakesIf reading machine moment s t given None before after told =
    Calls machine given before after × (told ≡ [])
TakesIf reading machine moment s t given (Some taken) before after told =
    TakesTurn reading machine moment s t taken before after × (told ≡ taken.told)

-- a move of a node, that its ports can have answered so
pub record NodeMoves (reading : Reading) (machine : ℕ) (taken : Option Taken)
    (before after : Joined) (told : List Act) : Type 0 where
  pub run : NodeRun
  pub there : run_of machine before ≡ Some run
  pub next : RunState
  pub moment : ℤ
  pub given : List Given
  pub log : List ℕ
  pub moves : Moves run.rules moment run.state given next log
  pub does : Does moment run.state next given taken
  pub answers : CanAnswer machine given before.line
  pub takes : TakesIf reading machine moment run.state next given taken before.line after.line told
  pub after_is : after.runs ≡ with_state machine run next before.runs

-- ---- a board is let go behind the reading: the exit has read all, its outlet waits for the board to
-- begin, and as it begins the node reads so

pub record LetsGoRead (reading : Reading) (gap : ℕ) (taken : Taken) (before after : Joined)
    (told : List Act) : Type 0 where
  pub run : NodeRun
  pub there : run_of gap before ≡ Some run
  pub board : Record
  pub waits : run.state.node.lane.body.outlet.phase ≡ out.Moving board false
  pub read : events_at Exit (unread_by gap before.line) ≡ []
  pub floor : FloorPlan
  pub begins : floor_move gap Begin before.line.floor ≡ Ok floor
  pub moves : NodeMoves reading gap (Some taken)
      (record before { line = with_floor floor before.line }) after told
  pub plain : taken.input ≡ inputs.Nothing
  pub reads : events_at Exit (unread_by gap after.line) ≡ []

-- ---- A STEP, with the acts that are done in it

pub data Weaves (reading : Reading) : Joined → List Act → Joined → Type 0 where
  node_moves : {machine : ℕ} {taken : Option Taken} {before after : Joined} {told : List Act}
      → NodeMoves reading machine taken before after told → Weaves reading before told after
  is_lost : {machine : ℕ} {side : Side} {before after : Joined}
      → LetsBe machine side before.line after.line → after.runs ≡ before.runs
      → Weaves reading before [] after
  board_moves : {gap : ℕ} {step : Move} {before after : Joined}
      → BoardMoves reading gap step before.line after.line → after.runs ≡ before.runs
      → Weaves reading before [] after
  goes_read : {gap : ℕ} {taken : Taken} {before after : Joined} {told : List Act}
      → LetsGoRead reading gap taken before after told → Weaves reading before told after

-- A WOVEN RUN: one step behind the other, with all that is done
pub data WovenTo (reading : Reading) : Joined → List Act → Joined → Type 0 where
  at_rest : {j : Joined} → WovenTo reading j [] j
  goes_on : {i j k : Joined} {first later : List Act} → Weaves reading i first j
      → WovenTo reading j later k → WovenTo reading i (first ++ later) k
