-- WHAT HAPPENS AMONG RUNNING MACHINES, a step at a time: a machine's turn, a connection that is asked
-- for, given up or lost, a board that moves.
use Rattle.std.specs.Prelude.{ℕ, ℤ, false, List, [], ◌+◌, ◌++◌, ◌∷◌, ◌≡◌, Ok, Some, map}
use Rattle.line_base.specs.declared.states.Side.{Side}
use Rattle.line_base.specs.declared.states.Side.TheVariants.{Entry, Exit}
use Rattle.board_record.specs.declared.record.Record.{Record}
use Rattle.handover_out.specs.declared.phase.Phase.TheVariants as out
use Rattle.line_world.specs.FloorPlan.{FloorPlan}
use Rattle.line_world.specs.Moves.{floor_move}
use Rattle.line_world.specs.declared.moves.Move.{Move}
use Rattle.line_world.specs.declared.moves.Move.TheVariants.{Begin}
use Rattle.node_core.specs.May.{may_do, may_of}
use Rattle.node_core.specs.Node.{NodeState}
use Rattle.node_core.specs.declared.act.Act.{Act}
use Rattle.node_core.specs.declared.input.Input.{Input}
use Rattle.node_core.specs.declared.input.Input.TheVariants as inputs
use Rattle.law_custody.specs.Words.{events_at}
use Rattle.line_step.specs.World.{link_of}
use Rattle.law_running_line.specs.Reading.{MayMove, Reading}
use Rattle.law_running_line.specs.Running.{Running, at_place, node_of, unread_by, with_floor, with_wires}
use Rattle.law_running_line.specs.Turns.{IsAt, Turns}
use Rattle.law_running_line.specs.Wire.{Awaits, Hold, Left, Wire, asked_for, end_at, with_coming_to, with_end}

-- ---- connections

-- an end that awaits a connection leaves it, and what was on its way to it is gone
abbrev pub let_be : Side → Wire → Wire
let_be side wire = with_end side Left (with_coming_to side [] wire)

abbrev pub if_awaits : Hold → Wire → Wire → Wire
if_awaits Awaits new old = new
if_awaits _ new old = old

abbrev pub given_up : Side → Wire → Wire
given_up side wire = if_awaits (end_at side wire) (let_be side wire) wire

-- the machine below asks for a connection, where it could take one: the one that it asked for
-- before is given up
pub record Asks (machine : ℕ) (before after : Running) : Type 0 where
  pub above : NodeState
  pub above_there : node_of machine before ≡ Some above
  pub below : NodeState
  pub below_there : node_of (machine + 1) before ≡ Some below
  pub may : may_of below inputs.Connect ≡ may_do
  pub after_is : after
      ≡ with_wires machine (λ (wires : List Wire). map (given_up Entry) wires ++ asked_for ∷ []) before

-- a connection that an end awaits never comes there: it is refused or given up below, or lost
-- before it is taken above
pub record LetsBe (machine : ℕ) (side : Side) (before after : Running) : Type 0 where
  pub place : ℕ
  pub awaits : IsAt machine side place Awaits before
  pub after_is : after ≡ with_wires (link_of machine side) (at_place place (let_be side)) before

-- ---- boards

-- a board moves at a gap
pub record Moves (reading : Reading) (gap : ℕ) (step : Move) (before after : Running) : Type 0 where
  pub below : NodeState
  pub there : node_of (gap + 1) before ≡ Some below
  pub may : MayMove reading step below (unread_by (gap + 1) before)
  pub floor : FloorPlan
  pub moved : floor_move gap step before.floor ≡ Ok floor
  pub after_is : after ≡ with_floor floor before

-- a board is let go behind the reading: the exit has read all, its outlet waits for the board to
-- begin, and as it begins the machine reads so
pub record LetsGo (reading : Reading) (gap : ℕ) (moment : ℤ) (before after : Running)
    (told : List Act) : Type 0 where
  pub above : NodeState
  pub there : node_of gap before ≡ Some above
  pub board : Record
  pub waits : above.lane.body.outlet.phase ≡ out.Moving board false
  pub read : events_at Exit (unread_by gap before) ≡ []
  pub floor : FloorPlan
  pub begins : floor_move gap Begin before.floor ≡ Ok floor
  pub turns : Turns reading gap inputs.Nothing moment (with_floor floor before) after told
  pub reads : events_at Exit (unread_by gap after) ≡ []

-- ---- A STEP, with the acts that are done in it

pub data RunSteps (reading : Reading) : Running → List Act → Running → Type 0 where
  turns : {machine : ℕ} {input : Input} {moment : ℤ} {before after : Running} {told : List Act}
      → Turns reading machine input moment before after told → RunSteps reading before told after
  asks : {machine : ℕ} {before after : Running} → Asks machine before after
      → RunSteps reading before [] after
  lets_be : {machine : ℕ} {side : Side} {before after : Running}
      → LetsBe machine side before after → RunSteps reading before [] after
  moves : {gap : ℕ} {step : Move} {before after : Running} → Moves reading gap step before after
      → RunSteps reading before [] after
  lets_go : {gap : ℕ} {moment : ℤ} {before after : Running} {told : List Act}
      → LetsGo reading gap moment before after told → RunSteps reading before told after

-- a run: one step behind the other, with all that is done
pub data RunsTo (reading : Reading) : Running → List Act → Running → Type 0 where
  at_rest : {s : Running} → RunsTo reading s [] s
  goes_on : {s t u : Running} {first later : List Act} → RunSteps reading s first t
      → RunsTo reading t later u → RunsTo reading s (first ++ later) u
