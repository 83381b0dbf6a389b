-- A run under the reading that reads all first: where the relation goes on in each turn it goes on along the run.
use Rattle.std.proofs.Common.{List, ℕ, ℤ}
use Rattle.line_world.specs.declared.moves.Move.TheVariants.{Begin}
use Rattle.node_core.specs.declared.act.Act.{Act}
use Rattle.node_core.specs.declared.input.Input.{Input}
use Rattle.node_core.specs.declared.input.Input.TheVariants as inputs
use Rattle.law_running_line.specs.Reading.{Strictly}
use Rattle.law_running_line.specs.Running.{Running, with_floor}
use Rattle.law_running_line.specs.RunSteps.{RunSteps, RunsTo, asks, at_rest, goes_on, lets_be, lets_go, moves, turns}
use Rattle.law_running_line.specs.Stands.{AreInRelation}
use Rattle.law_running_line.specs.Turns.{Turns}
use Rattle.law_running_line.proofs.FloorMoves.{moved_stand, moves_stand}
use Rattle.law_running_line.proofs.Relation.{asks_stand, lets_be_stand}

abbrev pub TurnGoes : Type 0
TurnGoes = (machine : ℕ) (input : Input) (moment : ℤ) (before after : Running) (told : List Act) → Turns Strictly machine input moment before after told → AreInRelation before → AreInRelation after

pub step_stands : TurnGoes → {before after : Running} {told : List Act} → RunSteps Strictly before told after → AreInRelation before → AreInRelation after
step_stands goes (turns {machine} {input} {moment} {before} {after} {told} turn) r = goes machine input moment before after told turn r
step_stands goes (asks a) r = record { trace = r.trace; stands = asks_stand r.trace r.stands a }
step_stands goes (lets_be l) r = record { trace = r.trace; stands = lets_be_stand r.trace r.stands l }
step_stands goes (moves m) r = moves_stand r.trace r.stands m
step_stands goes (lets_go {gap} {moment} {before} {after} {told} l) r = goes gap inputs.Nothing moment (with_floor l.floor before) after told l.turns (moved_stand gap Begin r.trace before l.floor r.stands l.begins)

pub run_stands : TurnGoes → {s u : Running} {told : List Act} → RunsTo Strictly s told u → AreInRelation s → AreInRelation u
run_stands goes at_rest r = r
run_stands goes (goes_on first later) r = run_stands goes later (step_stands goes first r)
