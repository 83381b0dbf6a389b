-- A POWER CUT: of a run over a book the disk has the first entries, however many, and of the next
-- one its first bytes, or none. From such a book the machine begins again where the run was when it
-- had kept those entries.
use Rattle.std.specs.Prelude.{◌≡◌, ◌+◌, ◌++◌, ℕ, ℤ, List, length, take}
use Rattle.book_entry.specs.Fronts.{IsFront}
use Rattle.book_entry.specs.Steps.{AreEntries, spelled}
use Rattle.book_entry.specs.declared.entry.Entry.{Entry}
use Rattle.line_outside.specs.Given.{Given}
use Rattle.machine_log.specs.declared.drives.Drives.{Drives}
use Rattle.node_core.specs.Node.{NodeState}
use Rattle.node_core.specs.declared.act.Act.{Act}
use Rattle.node_run.specs.Booked.{RunsKept}
use Rattle.node_run.specs.Owning.{TellsActs}
use Rattle.node_run.specs.State.{RunState}
use Rattle.node_run.specs.declared.rules.Rules.{Rules}
use Rattle.restart_book.specs.Replay.{IsResumedAs}

-- the run up to where it had kept these entries, and on from there
pub record IsParted (rules : Rules) (s reached : RunState) (moments : List ℤ) (calls : List Given)
    (log : List ℕ) (kept lost : List Entry) : Type 0 where
  pub there : RunState
  pub before : List ℤ
  pub later : List ℤ
  pub moments_are : moments ≡ before ++ later
  pub called : List Given
  pub more : List Given
  pub calls_are : calls ≡ called ++ more
  pub told : List ℕ
  pub untold : List ℕ
  pub log_is : log ≡ told ++ untold
  pub reaches : RunsKept rules s before called there told kept
  pub runs_on : RunsKept rules there later more reached untold lost

-- the book as the disk has it: the whole entries that the run began with, so many bytes of them,
-- those that it kept, and the front of one
abbrev pub cut_off : List ℕ → ℕ → List Entry → List ℕ → List ℕ
cut_off book whole kept torn = (take whole book ++ spelled kept) ++ torn

-- it leads to the machine and the drives that the run had there, and leaves the torn entry out; and what
-- the log tells up to there are the acts of those entries
pub record SurvivesCut (start : NodeState) (before : Drives) (book : List ℕ) (whole : ℕ)
    (rules : Rules) (s reached : RunState) (moments : List ℤ) (calls : List Given) (log : List ℕ)
    (kept lost : List Entry) (torn : List ℕ) : Type 0 where
  pub parted : IsParted rules s reached moments calls log kept lost
  pub done : List Act
  pub tells : TellsActs rules parted.told done
  pub resumed : IsResumedAs start before (cut_off book whole kept torn)
      (whole + length (spelled kept)) parted.there.node parted.there.drives

-- THE LAW: whatever run over whatever book, at whichever of its entries, and wherever in the next
abbrev pub PowerCutsAreSurvived : Type 0
PowerCutsAreSurvived =
    (start : NodeState) (before : Drives) (book : List ℕ) (whole : ℕ) (rules : Rules)
    (moments : List ℤ) (s reached : RunState) (calls : List Given) (log : List ℕ)
    (kept lost : List Entry) (torn : List ℕ)
    → IsResumedAs start before book whole s.node s.drives
    → RunsKept rules s moments calls reached log (kept ++ lost) → AreEntries kept → IsFront torn
    → SurvivesCut start before book whole rules s reached moments calls log kept lost torn
