-- Where a reader stands inside a log.
use Rattle.std.specs.Prelude.{◌≡◌, ◌+◌, ◌*◌, ◌≤◌, ◌++◌, ℕ, List, Result, Ok, Err, Some, length}
use Rattle.std.specs.Str.Lines.{lines}
use Rattle.line_check.specs.declared.why.CheckError.{CheckError}
use Rattle.line_check.specs.declared.why.CheckError.TheVariants.{No, Memory}
use Rattle.line_check.specs.declared.why.CheckWhy.{CheckWhy}
use Rattle.line_check.specs.declared.checker.Checker.{Checker}
use Rattle.line_check.specs.Log.{against}
use Rattle.line_check.specs.Checking.{HasRead, lines_of}
use Rattle.log_verdict.specs.declared.log_reader.LogReader.{LogReader}

-- the checker has read the lines that end in these bytes, and the front of a line waits, whatever
-- follows
pub record FollowsTo (bytes : List ℕ) (checker : Checker) (pending : List ℕ) : Type 0 where
  pub given : List (List ℕ)
  pub cut : (later : List ℕ) → lines (bytes ++ later) ≡ given ++ lines (pending ++ later)
  pub read : HasRead given checker

abbrev pub Follows : List ℕ → LogReader → Type 0
Follows bytes reader = FollowsTo bytes reader.checker reader.pending.items

-- a reason is against every log that begins with these bytes
pub record IsRefused (bytes : List ℕ) (line : ℕ) (why : CheckWhy) : Type 0 where
  pub whatever : (later : List ℕ)
      → against (lines (bytes ++ later)) ≡ Some (record { line = line; why = why })

-- some bytes more are taken
abbrev pub TakesTo : List ℕ → Checker → List ℕ → Result (Unit {0}) CheckError → Type 0
TakesTo bytes checker pending (Ok taken) = FollowsTo bytes checker pending
TakesTo bytes checker pending (Err (No line why)) = IsRefused bytes line why
TakesTo bytes checker pending (Err Memory) = Unit {0}

abbrev pub Takes : List ℕ → LogReader → Result (Unit {0}) CheckError → Type 0
Takes bytes reader result = TakesTo bytes reader.checker reader.pending.items result

-- how far a reader is: it grows by each byte, and has a last value, since lines are limited in
-- number and length
abbrev pub progress_of : LogReader → ℕ
progress_of reader = lines_of reader.checker * 4099 + length reader.pending.items

-- a front of a piece is taken, and the rest is left
pub record IsTaking (old new : LogReader) (piece rest : List ℕ) : Type 0 where
  pub taken : List ℕ
  pub parts : taken ++ rest ≡ piece
  pub follows : (bytes : List ℕ) → Follows bytes old → Follows (bytes ++ taken) new
  pub progress : progress_of old + length taken ≤ progress_of new
