-- THE LOG THAT A BOOK TELLS: the lines of each entry's step, as a running machine logs them. Where its
-- turn would stand is how many bytes of the book the entries have up to there, its own too.
use Rattle.std.specs.Prelude.{◌≡◌, ◌≤◌, ◌++◌, ℕ, Bool, List, [], ◌∷◌, Option, Result, Ok, Err, length, drop}
use Rattle.book_entry.specs.Fronts.{IsFront}
use Rattle.book_entry.specs.declared.entry.Entry.{Entry}
use Rattle.book_entry.specs.Steps.{AreEntries, DoesEntry, spelled}
use Rattle.line_outside.specs.Faults.{Rises}
use Rattle.line_outside.specs.Sink.{Grows, GrowsInPart}
use Rattle.machine_log.specs.Texts.{lines_of}
use Rattle.node_core.specs.Node.{NodeState}
use Rattle.node_core.specs.declared.act.Act.{Act}
use Rattle.restart_book.specs.Replay.{IsBadAt}
use Rattle.book_log.specs.declared.telling.LogError.{LogError}
use Rattle.book_log.specs.declared.telling.LogError.TheVariants as errors

-- the entries lead a machine of this number to that state, and these are the lines of their steps
pub data TellsEntries (drives : Bool) (machine : ℕ) (start : NodeState) : List Entry → NodeState
    → List ℕ → Type 0 where
  tells_none : TellsEntries drives machine start [] start []
  tells_more : {entries : List Entry} {s t : NodeState} {log : List ℕ} {entry : Entry}
      {acts : List Act} → TellsEntries drives machine start entries s log
      → DoesEntry s entry t acts
      → TellsEntries drives machine start (entries ++ entry ∷ []) t
      (log ++ lines_of drives (length (spelled (entries ++ entry ∷ []))) machine acts)

-- the whole entries of the first so many bytes of a book, with their log
pub record IsToldTo (drives : Bool) (machine : ℕ) (start : NodeState) (book : List ℕ) (at : ℕ)
    (node : NodeState) (log : List ℕ) : Type 0 where
  pub entries : List Entry
  pub are : AreEntries entries
  pub split : book ≡ spelled entries ++ drop at book
  pub at_is : at ≡ length (spelled entries)
  pub tells : TellsEntries drives machine start entries node log

-- what was appended to a log is that of these entries, all of it or its front
pub record HasTold (drives : Bool) (machine : ℕ) (start : NodeState) (book : List ℕ) (at : ℕ)
    (old new : Option (List ℕ)) : Type 0 where
  pub node : NodeState
  pub log : List ℕ
  pub told : IsToldTo drives machine start book at node log
  pub grows : Grows old new log

pub record HasToldInPart (drives : Bool) (machine : ℕ) (start : NodeState) (book : List ℕ)
    (old new : Option (List ℕ)) : Type 0 where
  pub at : ℕ
  pub node : NodeState
  pub log : List ℕ
  pub told : IsToldTo drives machine start book at node log
  pub part : GrowsInPart old new log

-- WHAT IS TOLD OF A BOOK: the log of all its whole entries, what follows being the front of one; or,
-- where it is bad, that of those before; or that of some, where memory was wanting, or a front of it,
-- where the log failed
abbrev pub TellsBook : Bool → ℕ → NodeState → List ℕ → Result ℕ LogError → Option (List ℕ)
    → Option (List ℕ) → Type 0
TellsBook drives machine start book (Ok whole) old new =
    HasTold drives machine start book whole old new × IsFront (drop whole book)
TellsBook drives machine start book (Err (errors.Bad at why)) old new =
    HasTold drives machine start book at old new × IsBadAt start book at why
TellsBook drives machine start book (Err errors.Fault) old new =
    HasToldInPart drives machine start book old new
TellsBook drives machine start book (Err errors.Memory) old new =
    (at : ℕ) × HasTold drives machine start book at old new

-- the count of the log never falls, and a fault comes only where it rose
abbrev pub HasLogCause : {A : Type 0} → Result A LogError → ℕ → ℕ → Type 0
HasLogCause (Err errors.Fault) before now = Rises before now
HasLogCause result before now = before ≤ now
