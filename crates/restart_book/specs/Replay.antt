-- BEGINNING AGAIN FROM A BOOK. A book is a list of entries and what follows them, a torn entry or
-- nothing. The machine is a new one of its profile, stepped with each entry in order.
use Rattle.std.specs.Prelude.{◌≡◌, ℕ, List, ◌++◌, Option, None, Some, Result, Ok, Err, length, drop}
use Rattle.book_entry.specs.Fronts.{Begins, IsBad, IsFound, IsFront}
use Rattle.book_entry.specs.declared.entry.Entry.{Entry}
use Rattle.book_entry.specs.Steps.{AreEntries, DoesEntry, IsRefused, Replays, spelled}
use Rattle.book_entry.specs.declared.stepping.StepError.{StepError}
use Rattle.book_entry.specs.declared.stepping.StepError.TheVariants as steps
use Rattle.machine_log.specs.Drives.{all_off, drives_after}
use Rattle.machine_log.specs.declared.drives.Drives.{Drives}
use Rattle.node_core.specs.Node.{NodeState, new_node}
use Rattle.node_core.specs.declared.act.Act.{Act}
use Rattle.node_core.specs.declared.profile.NodeProfile.{NodeProfile}
use Rattle.restart_book.specs.declared.resuming.BookWhy.{BookWhy}
use Rattle.restart_book.specs.declared.resuming.BookWhy.TheVariants as whys
use Rattle.restart_book.specs.declared.resuming.ResumeError.{ResumeError}
use Rattle.restart_book.specs.declared.resuming.ResumeError.TheVariants as errors
use Rattle.restart_book.specs.declared.resuming.Resumed.{Resumed}
use Rattle.restart_book.specs.declared.replay.Stop.{Stop}
use Rattle.restart_book.specs.declared.replay.Stop.TheVariants as stops

-- the book begins with whole entries, `at` bytes of them, which lead the machine to this state by
-- these acts
pub record Leads (start : NodeState) (book : List ℕ) (at : ℕ) (node : NodeState)
    (acts : List Act) : Type 0 where
  pub entries : List Entry
  pub are : AreEntries entries
  pub split : book ≡ spelled entries ++ drop at book
  pub at_is : at ≡ length (spelled entries)
  pub replays : Replays start entries node acts

-- what follows them is no whole entry, but the front of one: a torn one, or nothing
pub record IsResumed (start : NodeState) (book : List ℕ) (whole : ℕ) (node : NodeState)
    (acts : List Act) : Type 0 where
  pub leads : Leads start book whole node acts
  pub torn : IsFront (drop whole book)

-- what follows is neither an entry nor the front of one
pub record IsUnspelled (start : NodeState) (book : List ℕ) (at : ℕ) : Type 0 where
  pub node : NodeState
  pub acts : List Act
  pub leads : Leads start book at node acts
  pub bad : IsBad (drop at book)

-- an entry follows that the machine may not be given then
pub record IsImpossible (start : NodeState) (book : List ℕ) (at : ℕ) : Type 0 where
  pub node : NodeState
  pub acts : List Act
  pub leads : Leads start book at node acts
  pub entry : Entry
  pub begins : Begins (drop at book) entry
  pub refused : IsRefused node entry.input

abbrev pub IsBadAt : NodeState → List ℕ → ℕ → BookWhy → Type 0
IsBadAt start book at whys.Spelling = IsUnspelled start book at
IsBadAt start book at whys.NotPossible = IsImpossible start book at

-- the machine that the book leads to, with its drives as the acts left them
pub record IsResumedAs (start : NodeState) (before : Drives) (book : List ℕ) (whole : ℕ)
    (node : NodeState) (drives : Drives) : Type 0 where
  pub acts : List Act
  pub resumed : IsResumed start book whole node acts
  pub drives_are : drives ≡ drives_after before acts

-- each answer has its cause
abbrev pub Resumes : NodeProfile → List ℕ → Result Resumed ResumeError → Type 0
Resumes profile book (Ok resumed) =
    IsResumedAs (new_node profile) all_off book resumed.whole resumed.node resumed.drives
Resumes profile book (Err (errors.Bad at why)) = IsBadAt (new_node profile) book at why
Resumes profile book (Err errors.Memory) = Unit {0}

-- ---- what the code does of a book

-- the same of a machine that is stepped where it is
abbrev pub ReplaysBook : NodeState → Drives → List ℕ → NodeState → Drives
    → Result ℕ ResumeError → Type 0
ReplaysBook s before book t now (Ok whole) = IsResumedAs s before book whole t now
ReplaysBook s before book t now (Err (errors.Bad at why)) = IsBadAt s book at why
ReplaysBook s before book t now (Err errors.Memory) = Unit {0}

-- how far it is
pub record IsReached (start : NodeState) (before : Drives) (book : List ℕ) (at : ℕ)
    (node : NodeState) (drives : Drives) : Type 0 where
  pub acts : List Act
  pub leads : Leads start book at node acts
  pub drives_are : drives ≡ drives_after before acts

-- of one entry: the bytes begin with it, and the machine is stepped with it
pub record TakesOne (s : NodeState) (before : Drives) (bytes : List ℕ) (t : NodeState)
    (now : Drives) (size : ℕ) : Type 0 where
  pub entry : Entry
  pub found : IsFound bytes entry size
  pub acts : List Act
  pub does : DoesEntry s entry t acts
  pub drives_are : now ≡ drives_after before acts

-- they begin with one that it may not be given
pub record RefusesOne (s : NodeState) (bytes : List ℕ) : Type 0 where
  pub entry : Entry
  pub begins : Begins bytes entry
  pub refused : IsRefused s entry.input

abbrev pub Next : NodeState → Drives → List ℕ → NodeState → Drives → Result (Option ℕ) Stop
    → Type 0
Next s before bytes t now (Ok (Some size)) = TakesOne s before bytes t now size
Next s before bytes t now (Ok None) = IsFront bytes × (t ≡ s) × (now ≡ before)
Next s before bytes t now (Err stops.Spelling) = IsBad bytes
Next s before bytes t now (Err stops.NotPossible) = RefusesOne s bytes
Next s before bytes t now (Err stops.Memory) = Unit {0}

-- of an entry that was found
pub record DoesFound (s : NodeState) (before : Drives) (entry : Entry) (t : NodeState)
    (now : Drives) : Type 0 where
  pub acts : List Act
  pub does : DoesEntry s entry t acts
  pub drives_are : now ≡ drives_after before acts

abbrev pub StepsFound : NodeState → Drives → Entry → NodeState → Drives
    → Result (Unit {0}) StepError → Type 0
StepsFound s before entry t now (Ok done) = DoesFound s before entry t now
StepsFound s before entry t now (Err steps.NotPossible) = IsRefused s entry.input
StepsFound s before entry t now (Err steps.Memory) = Unit {0}
