-- JOINED NODES OVER CONNECTIONS that carry bytes in their order: what happens among them, and the
-- law.
use Rattle.std.specs.Prelude.{ℕ, ℤ, List, [], ◌++◌, ◌≡◌, false, Ok, Option, None, Some}
use Rattle.line_base.specs.declared.states.Side.{Side}
use Rattle.line_base.specs.declared.states.Side.TheVariants.{Exit}
use Rattle.line_outside.specs.Given.{Given}
use Rattle.board_record.specs.declared.record.Record.{Record}
use Rattle.handover_out.specs.declared.phase.Phase.TheVariants as out
use Rattle.line_world.specs.FloorPlan.{FloorPlan}
use Rattle.line_world.specs.Moves.{floor_move}
use Rattle.line_world.specs.declared.moves.Move.{Move}
use Rattle.line_world.specs.declared.moves.Move.TheVariants.{Begin}
use Rattle.node_core.specs.Sides.{is_open}
use Rattle.node_core.specs.declared.act.Act.{Act}
use Rattle.node_core.specs.declared.input.Input.TheVariants as inputs
use Rattle.law_custody.specs.Words.{events_at}
use Rattle.node_run.specs.Next.{next_of}
use Rattle.node_run.specs.Runs.{Moves}
use Rattle.node_run.specs.State.{RunState}
use Rattle.node_run.specs.declared.place.Next.TheVariants as nexts
use Rattle.law_one_standing.specs.Standing.{HasOneStanding}
use Rattle.law_running_line.specs.Reading.{Reading}
use Rattle.law_running_line.specs.Running.{Running, unread_by, with_floor}
use Rattle.law_running_line.specs.RunSteps.{LetsBe, Moves as BoardMoves}
use Rattle.law_running_line.specs.Stands.{line_of}
use Rattle.law_joined_nodes.specs.Does.{Taken}
use Rattle.law_joined_nodes.specs.Joined.{HaveBegun, Joined, NodeRun, run_of, with_state}
use Rattle.law_joined_nodes.specs.Laws.{DoesOne}
use Rattle.law_joined_nodes.specs.Woven.{TakesIf, WovenTo}
use Rattle.law_joined_nodes.specs.Pipes.{Flows, Pipes, no_pipes}

-- the connection that a step is of is the one that its call is of
abbrev pub IsHere : (reading : Reading) (machine : ℕ) (moment : ℤ) (s t : RunState)
    (given : List Given) (taken : Option Taken) (before after : Running) (told : List Act)
    → TakesIf reading machine moment s t given taken before after told → ℕ → Type 0
IsHere reading machine moment s t given None before after told takes place = Unit {0}
IsHere reading machine moment s t given (Some taken) before after told takes place =
    takes.0.place ≡ place

-- A MOVE of a node, over such connections, in which no side that has a connection is reset: what
-- the move does, each move does (`each_move_does` of joined_nodes)
pub record Pours (reading : Reading) (machine : ℕ) (i j : Joined) (told : List Act)
    (p q : Pipes) : Type 0 where
  pub run : NodeRun
  pub there : run_of machine i ≡ Some run
  pub next : RunState
  pub moment : ℤ
  pub given : List Given
  pub log : List ℕ
  pub moves : Moves run.rules moment run.state given next log
  pub does : DoesOne run.rules moment run.state next given
  pub unreset : (side : Side) → next_of run.rules run.state ≡ nexts.Reset side
      → is_open side run.state.node.lane.body ≡ false
  pub takes : TakesIf reading machine moment run.state next given does.taken i.line j.line told
  pub after_is : j.runs ≡ with_state machine run next i.runs
  pub place : ℕ
  pub flows : Flows machine place given does.taken p q
  pub here : IsHere reading machine moment run.state next given does.taken i.line j.line told takes
      place

-- a board is let go behind the reading, in such a move
pub record PoursGoing (reading : Reading) (gap : ℕ) (i j : Joined) (told : List Act)
    (p q : Pipes) : Type 0 where
  pub run : NodeRun
  pub there : run_of gap i ≡ Some run
  pub board : Record
  pub waits : run.state.node.lane.body.outlet.phase ≡ out.Moving board false
  pub read : events_at Exit (unread_by gap i.line) ≡ []
  pub floor : FloorPlan
  pub begins : floor_move gap Begin i.line.floor ≡ Ok floor
  pub moves : Pours reading gap (record i { line = with_floor floor i.line }) j told p q
  pub taken : Taken
  pub is : moves.does.taken ≡ Some taken
  pub plain : taken.input ≡ inputs.Nothing
  pub reads : events_at Exit (unread_by gap j.line) ≡ []

pub data Poured (reading : Reading) : Joined → Pipes → List Act → Joined → Pipes → Type 0 where
  node_pours : {machine : ℕ} {i j : Joined} {told : List Act} {p q : Pipes}
      → Pours reading machine i j told p q → Poured reading i p told j q
  goes_poured : {gap : ℕ} {i j : Joined} {told : List Act} {p q : Pipes}
      → PoursGoing reading gap i j told p q → Poured reading i p told j q
  is_lost : {machine : ℕ} {side : Side} {i j : Joined} {p : Pipes}
      → LetsBe machine side i.line j.line
      → j.runs ≡ i.runs → Poured reading i p [] j p
  board_moves : {gap : ℕ} {step : Move} {i j : Joined} {p : Pipes}
      → BoardMoves reading gap step i.line j.line → j.runs ≡ i.runs → Poured reading i p [] j p

-- A RUN: one behind the other, with all that is done
pub data PouredTo (reading : Reading) : Joined → Pipes → List Act → Joined → Pipes → Type 0 where
  at_rest : {j : Joined} {p : Pipes} → PouredTo reading j p [] j p
  goes_on : {i j k : Joined} {p q r : Pipes} {first later : List Act}
      → Poured reading i p first j q
      → PouredTo reading j q later k r → PouredTo reading i p (first ++ later) k r

-- ---- THE LAWS: such a run is a woven run, so each board's record has one standing behind it

abbrev pub TcpIsEnough : Reading → Type 0
TcpIsEnough reading =
    (s u : Joined) (told : List Act) (q : Pipes) → HaveBegun s
    → PouredTo reading s no_pipes told u q → WovenTo reading s told u

abbrev pub PouredStand : Reading → Type 0
PouredStand reading =
    (s u : Joined) (told : List Act) (q : Pipes) → HaveBegun s
    → PouredTo reading s no_pipes told u q → HasOneStanding (line_of u.line)
