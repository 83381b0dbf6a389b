-- JOINED NODES AND THEIR MERGED LOG: a woven run with the lines that are logged in it, in its
-- order.
use Rattle.std.specs.Prelude.{ℕ, List, [], ◌∷◌, ◌++◌, ◌≡◌, ◌≤◌, None, Option}
use Rattle.line_base.specs.declared.states.Side.{Side}
use Rattle.line_check.specs.Log.{IsRight, against}
use Rattle.line_check.specs.LogLine.{kind_of}
use Rattle.line_check.specs.Words.{first_word}
use Rattle.line_world.specs.declared.moves.Move.{Move}
use Rattle.node_core.specs.declared.act.Act.{Act}
use Rattle.law_running_line.specs.Reading.{Reading}
use Rattle.law_running_line.specs.RunSteps.{LetsBe, Moves as BoardMoves}
use Rattle.law_running_logs.specs.Merged.{CanBeNamed, StepLines, merged_line, no_turns, with_turn}
use Rattle.law_running_logs.specs.Right.{IsWithin}
use Rattle.law_joined_nodes.specs.Does.{Taken}
use Rattle.law_joined_nodes.specs.Joined.{HaveBegun, Joined}
use Rattle.law_joined_nodes.specs.Woven.{LetsGoRead, NodeMoves, WovenTo}

-- each act of a move has its line, in the order of the acts, under the number and the turn of the
-- node, but that a drive has none where drives aren't told; a node's turns don't fall. Between
-- moves there may be lines that tell no deed: what a panel was answered
pub data LogsTo (reading : Reading) : (ℕ → ℕ) → Joined → List (List ℕ) → Joined → Type 0 where
  logs_none : {latest : ℕ → ℕ} {j : Joined} → LogsTo reading latest j [] j
  logs_move : {latest : ℕ → ℕ} {machine : ℕ} {taken : Option Taken} {i j k : Joined}
      {told : List Act} {lines log all : List (List ℕ)}
      (m : NodeMoves reading machine taken i j told) → latest machine ≤ m.run.state.turn
      → StepLines machine m.run.rules.number m.run.state.turn told lines
      → LogsTo reading (with_turn machine m.run.state.turn latest) j log k → all ≡ lines ++ log
      → LogsTo reading latest i all k
  logs_go : {latest : ℕ → ℕ} {gap : ℕ} {taken : Taken} {i j k : Joined} {told : List Act}
      {lines log all : List (List ℕ)} (g : LetsGoRead reading gap taken i j told)
      → latest gap ≤ g.moves.run.state.turn
      → StepLines gap g.moves.run.rules.number g.moves.run.state.turn told lines
      → LogsTo reading (with_turn gap g.moves.run.state.turn latest) j log k → all ≡ lines ++ log
      → LogsTo reading latest i all k
  logs_lost : {latest : ℕ → ℕ} {machine : ℕ} {side : Side} {i j k : Joined}
      {log : List (List ℕ)} → LetsBe machine side i.line j.line → j.runs ≡ i.runs
      → LogsTo reading latest j log k → LogsTo reading latest i log k
  logs_board : {latest : ℕ → ℕ} {gap : ℕ} {step : Move} {i j k : Joined} {log : List (List ℕ)}
      → BoardMoves reading gap step i.line j.line → j.runs ≡ i.runs
      → LogsTo reading latest j log k → LogsTo reading latest i log k
  logs_beside : {latest : ℕ → ℕ} {i k : Joined} {log : List (List ℕ)}
      (machine number turn : ℕ) (text : List ℕ) → latest machine ≤ turn
      → CanBeNamed machine number turn → kind_of (first_word text) ≡ None
      → LogsTo reading (with_turn machine turn latest) i log k
      → LogsTo reading latest i (merged_line machine turn text ∷ log) k

-- it is a woven run
pub record IsWoven (reading : Reading) (s u : Joined) : Type 0 where
  pub told : List Act
  pub woven : WovenTo reading s told u

abbrev pub IsWovenToo : Reading → Type 0
IsWovenToo reading =
    (latest : ℕ → ℕ) (s u : Joined) (log : List (List ℕ)) → LogsTo reading latest s log u
    → IsWoven reading s u

-- THE LAW: nothing is against the log, as long as it is one that is judged
abbrev pub NodesLogRight : Reading → Type 0
NodesLogRight reading =
    (s u : Joined) (log : List (List ℕ)) → HaveBegun s → LogsTo reading no_turns s log u
    → IsWithin log → (against log ≡ None) × IsRight log
