-- JOINED NODES OVER TCP, AND THEIR MERGED LOG: a run over connections that carry bytes in their order,
-- with the lines that are logged in it, in its order.
use Rattle.std.specs.Prelude.{ℕ, List, [], ◌∷◌, ◌++◌, ◌≡◌, ◌≤◌, None}
use Rattle.line_base.specs.declared.states.Side.{Side}
use Rattle.line_check.specs.Log.{IsRight, against}
use Rattle.line_check.specs.LogLine.{kind_of}
use Rattle.line_check.specs.Words.{first_word}
use Rattle.line_world.specs.declared.moves.Move.{Move}
use Rattle.node_core.specs.declared.act.Act.{Act}
use Rattle.law_running_line.specs.Reading.{Reading}
use Rattle.law_running_line.specs.RunSteps.{LetsBe, Moves as BoardMoves}
use Rattle.law_running_logs.specs.Merged.{CanBeNamed, StepLines, merged_line, no_turns, with_turn}
use Rattle.law_running_logs.specs.Right.{IsWithin}
use Rattle.law_joined_nodes.specs.Joined.{HaveBegun, Joined}
use Rattle.law_joined_nodes.specs.Pipes.{Pipes, no_pipes}
use Rattle.law_joined_nodes.specs.Poured.{PouredTo, Pours, PoursGoing}

-- as `LogsTo`: each act of a move has its line, under the number and the turn of the node, and between
-- moves there may be lines that tell no deed
pub data PouredLog (reading : Reading) : (ℕ → ℕ) → Joined → Pipes → List (List ℕ) → Joined → Pipes
    → Type 0 where
  pours_none : {latest : ℕ → ℕ} {j : Joined} {p : Pipes} → PouredLog reading latest j p [] j p
  pours_move : {latest : ℕ → ℕ} {machine : ℕ} {i j k : Joined} {p q r : Pipes} {told : List Act}
      {lines log all : List (List ℕ)} (g : Pours reading machine i j told p q)
      → latest machine ≤ g.run.state.turn
      → StepLines machine g.run.rules.number g.run.state.turn told lines
      → PouredLog reading (with_turn machine g.run.state.turn latest) j q log k r
      → all ≡ lines ++ log → PouredLog reading latest i p all k r
  pours_go : {latest : ℕ → ℕ} {gap : ℕ} {i j k : Joined} {p q r : Pipes} {told : List Act}
      {lines log all : List (List ℕ)} (g : PoursGoing reading gap i j told p q)
      → latest gap ≤ g.moves.run.state.turn
      → StepLines gap g.moves.run.rules.number g.moves.run.state.turn told lines
      → PouredLog reading (with_turn gap g.moves.run.state.turn latest) j q log k r
      → all ≡ lines ++ log → PouredLog reading latest i p all k r
  pours_lost : {latest : ℕ → ℕ} {machine : ℕ} {side : Side} {i j k : Joined} {p r : Pipes}
      {log : List (List ℕ)} → LetsBe machine side i.line j.line → j.runs ≡ i.runs
      → PouredLog reading latest j p log k r → PouredLog reading latest i p log k r
  pours_board : {latest : ℕ → ℕ} {gap : ℕ} {step : Move} {i j k : Joined} {p r : Pipes}
      {log : List (List ℕ)} → BoardMoves reading gap step i.line j.line → j.runs ≡ i.runs
      → PouredLog reading latest j p log k r → PouredLog reading latest i p log k r
  pours_beside : {latest : ℕ → ℕ} {i k : Joined} {p r : Pipes} {log : List (List ℕ)}
      (machine number turn : ℕ) (text : List ℕ) → latest machine ≤ turn
      → CanBeNamed machine number turn → kind_of (first_word text) ≡ None
      → PouredLog reading (with_turn machine turn latest) i p log k r
      → PouredLog reading latest i p (merged_line machine turn text ∷ log) k r

-- it is a run over such connections
pub record IsPoured (reading : Reading) (s u : Joined) (p q : Pipes) : Type 0 where
  pub told : List Act
  pub poured : PouredTo reading s p told u q

abbrev pub IsPouredToo : Reading → Type 0
IsPouredToo reading =
    (latest : ℕ → ℕ) (s u : Joined) (p q : Pipes) (log : List (List ℕ))
    → PouredLog reading latest s p log u q → IsPoured reading s u p q

-- THE LAW: nothing is against the log, as long as it is one that is judged
abbrev pub PouredLogRight : Reading → Type 0
PouredLogRight reading =
    (s u : Joined) (q : Pipes) (log : List (List ℕ)) → HaveBegun s
    → PouredLog reading no_turns s no_pipes log u q → IsWithin log
    → (against log ≡ None) × IsRight log
