-- How the reading of a log goes on and ends.
use Rattle.std.specs.Prelude.{◌≡◌, ◌≤◌, ◌++◌, ℕ, List, [], Option, None, Some, Result, Ok, Err}
use Rattle.std.specs.Str.Lines.{lines}
use Rattle.line_outside.specs.Faults.{Rose}
use Rattle.line_check.specs.declared.why.Counts.{Counts}
use Rattle.line_check.specs.declared.why.CheckError.{CheckError}
use Rattle.line_check.specs.declared.why.CheckError.TheVariants.{No, Memory}
use Rattle.line_check.specs.Log.{against}
use Rattle.line_check.specs.Checking.{IsCounted}
use Rattle.log_verdict.specs.declared.log_reader.LogReader.{LogReader}
use Rattle.log_verdict.specs.declared.reading.LogError.{LogError}
use Rattle.log_verdict.specs.declared.reading.LogError.TheVariants as errors
use Rattle.log_verdict.specs.LogReader.{Follows}

-- what a checker answered, as an answer of the reading
abbrev pub log_error : CheckError → LogError
log_error (No line why) = errors.No line why
log_error Memory = errors.Memory

-- while it goes on: what was read, and what is still to come, make up the log
pub record IsGoing (log rest : List ℕ) (reader : LogReader) : Type 0 where
  pub bytes : List ℕ
  pub parts : bytes ++ rest ≡ log
  pub follows : Follows bytes reader

-- the same, where the source tells its bytes; it tells them now exactly where it told them first
abbrev pub GoesOn : Option (List ℕ) → Option (List ℕ) → LogReader → Type 0
GoesOn None left reader = Unit {0}
GoesOn (Some log) None reader = ⊥
GoesOn (Some log) (Some rest) reader = IsGoing log rest reader

-- how it ends: the log was read to its end and nothing is against it, or a reason is
abbrev pub EndsLog : List ℕ → Option (List ℕ) → Result Counts LogError → Type 0
EndsLog log left (Ok counts) = IsCounted (lines log) counts × (left ≡ Some [])
EndsLog log left (Err (errors.No line why)) =
    against (lines log) ≡ Some (record { line = line; why = why })
EndsLog log left (Err errors.ReadFault) = Unit {0}
EndsLog log left (Err errors.Memory) = Unit {0}

abbrev pub Ends : Option (List ℕ) → Option (List ℕ) → Result Counts LogError → Type 0
Ends None left result = Unit {0}
Ends (Some log) left result = EndsLog log left result

-- the count of faults never falls, and the reading fails only where it rose
pub record HasReadCause (result : Result Counts LogError) (before now : ℕ) : Type 0 where
  pub stays : before ≤ now
  pub fault : result ≡ Err errors.ReadFault → Rose before now
