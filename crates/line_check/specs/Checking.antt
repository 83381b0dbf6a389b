-- What a checker knows of the lines that it was given.
use Rattle.std.specs.Prelude.{◌≡◌, ℕ, not, ◌&&◌, List, [], ◌∷◌, ◌++◌, Option, None, Some, Result, Ok, Err, find, length, if◌then◌else◌}
use Rattle.line_check.specs.declared.group.Group.{Group}
use Rattle.line_check.specs.declared.why.CheckWhy.{CheckWhy}
use Rattle.line_check.specs.declared.why.CheckWhy.TheVariants.{Long, Lines, Form, Turn, Legal, Standing}
use Rattle.line_check.specs.declared.why.CheckError.{CheckError}
use Rattle.line_check.specs.declared.why.CheckError.TheVariants.{No, Memory}
use Rattle.line_check.specs.declared.why.Counts.{Counts}
use Rattle.line_check.specs.declared.known.Known.{Known}
use Rattle.line_check.specs.declared.checker.Checker.{Checker}
use Rattle.line_check.specs.LogLine.{group_of}
use Rattle.line_check.specs.Log.{Against, IsRight, against, against_from, all_stand, boards_in, ends_before, holds, ledger_of}
use Rattle.line_check.specs.Turns.{AreTurns}
use Rattle.line_check.specs.Book.{IsBook}

-- the group of the last line
abbrev pub last_group : List (List ℕ) → Option Group
last_group [] = None
last_group (line ∷ []) = group_of line
last_group (line ∷ next ∷ lines) = last_group (next ∷ lines)

-- the reasons against a line that don't hang on what follows it, and the first of them that holds
abbrev pub own_reasons : List CheckWhy
own_reasons = Long ∷ Lines ∷ Form ∷ Turn ∷ Legal ∷ []

abbrev pub own_reason_at : List (List ℕ) → List ℕ → Option CheckWhy
own_reason_at before line = find (λ (why : CheckWhy). holds why before line []) own_reasons

-- the reason that an answer gives
abbrev pub reason_of : {A : Type 0} → Result A CheckWhy → Option CheckWhy
reason_of (Ok value) = None
reason_of (Err why) = Some why

-- what is against a log from the end of the last line's group on, where nothing was against its
-- lines before
abbrev pub owed : List (List ℕ) → List (List ℕ) → Option Against
owed lines after =
    if ends_before (last_group lines) after && not (all_stand (ledger_of lines).marks)
    then Some (record { line = length lines; why = Standing })
    else against_from lines after

-- WHAT IS KNOWN of lines that nothing is against so far: whatever follows, it alone decides
pub record IsKnown (lines : List (List ℕ)) (known : Known) : Type 0 where
  pub counted : known.lines ≡ length lines
  pub open_group : known.open_group ≡ last_group lines
  pub turns : AreTurns lines known.turns
  pub book : IsBook (ledger_of lines) known.book
  pub goes : (after : List (List ℕ)) → against (lines ++ after) ≡ owed lines after

-- a reason is against lines whatever follows them
pub record AreRefused (lines : List (List ℕ)) (number : ℕ) (why : CheckWhy) : Type 0 where
  pub whatever : (after : List (List ℕ))
      → against (lines ++ after) ≡ Some (record { line = number; why = why })

-- one line more is taken
abbrev pub Knows : List (List ℕ) → Known → Result (Unit {0}) CheckError → Type 0
Knows lines known (Ok taken) = IsKnown lines known
Knows lines known (Err (No number why)) = AreRefused lines number why
Knows lines known (Err Memory) = Unit {0}

-- A CHECKER HAS READ these lines: nothing is against them so far, or that which it answers from
-- then on; where memory was wanting it knows nothing of them
abbrev pub HasReadTo : List (List ℕ) → Known → Option CheckError → Type 0
HasReadTo lines known None = IsKnown lines known
HasReadTo lines known (Some (No number why)) = AreRefused lines number why
HasReadTo lines known (Some Memory) = Unit {0}

abbrev pub HasRead : List (List ℕ) → Checker → Type 0
HasRead lines checker = HasReadTo lines checker.known checker.failed

-- how many lines a checker has taken
abbrev pub lines_of : Checker → ℕ
lines_of checker = checker.known.lines

-- the error that a checker answers from now on
abbrev pub failure_of : Checker → Option CheckError
failure_of checker = checker.failed

abbrev pub answer_by : Option CheckError → Result (Unit {0}) CheckError
answer_by None = Ok tt
answer_by (Some error) = Err error

-- THE END of a log: nothing is against it, and its lines and boards are counted; or the first
-- reason against it
pub record IsCounted (lines : List (List ℕ)) (counts : Counts) : Type 0 where
  pub nothing : against lines ≡ None
  pub lines_counted : counts.lines ≡ length lines
  pub boards_counted : counts.boards ≡ boards_in (ledger_of lines).marks
  pub right : IsRight lines

abbrev pub Ends : List (List ℕ) → Result Counts CheckError → Type 0
Ends lines (Ok counts) = IsCounted lines counts
Ends lines (Err (No number why)) = against lines ≡ Some (record { line = number; why = why })
Ends lines (Err Memory) = Unit {0}
