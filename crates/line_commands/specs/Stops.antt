-- WHERE A RUN STOPS whose script is refused: what was taken of the source, and what is left there.
use Rattle.std.specs.Prelude.{◌≡◌, ◌≤◌, ◌++◌, ℕ, List, [], Option, Some, length}
use Rattle.std.specs.Str.Lines.{lines}
use Rattle.line_script.specs.declared.line.LaneLine.{LaneLine}
use Rattle.line_commands.specs.LineEnds.{HasNoEnd}
use Rattle.line_commands.specs.Script.{behind_lines, script_from, script_of}

-- no line is refused that ends within these bytes: whatever follows them, the script is these
-- lines, and behind them what the line that has not ended yet begins
pub record AreAccepted (bytes : List ℕ) : Type 0 where
  pub accepted : List LaneLine
  pub done : ℕ
  pub pending : List ℕ
  pub none : HasNoEnd pending
  pub script : (other : List ℕ)
      → script_of (bytes ++ other)
      ≡ behind_lines accepted (script_from done (lines (pending ++ other)))

-- the pieces of a script were taken up to that in which a line is refused, whatever follows it, and
-- none behind it; or all of them, and the last line, which lacks its end, is refused
pub data StopsIn (script : List ℕ) (left : Option (List ℕ)) : Type 0 where
  in_a_piece : (earlier piece rest : List ℕ) → script ≡ (earlier ++ piece) ++ rest
      → left ≡ Some rest → length piece ≤ 65536 → AreAccepted earlier
      → ((other : List ℕ)
      → (script_of ((earlier ++ piece) ++ other)).refusal ≡ (script_of script).refusal)
      → StopsIn script left
  at_its_end : left ≡ Some [] → AreAccepted script → StopsIn script left
