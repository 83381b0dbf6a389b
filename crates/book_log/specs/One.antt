-- What the loop over a book does of one entry.
use Rattle.std.specs.Prelude.{◌≡◌, ◌+◌, ℕ, Bool, List, Option, None, Some, Result, Ok, Err}
use Rattle.book_entry.specs.Fronts.{IsBad, IsFound, IsFront}
use Rattle.book_entry.specs.declared.entry.Entry.{Entry}
use Rattle.book_entry.specs.Steps.{DoesEntry, IsRefused}
use Rattle.line_outside.specs.Sink.{Grows, GrowsInPart}
use Rattle.machine_log.specs.Texts.{lines_of}
use Rattle.node_core.specs.Node.{NodeState}
use Rattle.node_core.specs.declared.act.Act.{Act}
use Rattle.restart_book.specs.Replay.{RefusesOne}
use Rattle.restart_book.specs.declared.resuming.BookWhy.{BookWhy}
use Rattle.restart_book.specs.declared.resuming.BookWhy.TheVariants as whys
use Rattle.book_log.specs.Told.{IsToldTo}
use Rattle.book_log.specs.declared.telling.LogError.{LogError}
use Rattle.book_log.specs.declared.telling.LogError.TheVariants as errors
use Rattle.book_log.specs.declared.telling.Found.{Found}

-- the bytes begin with an entry, and the machine is stepped with it
pub record StepsOne (s : NodeState) (bytes : List ℕ) (t : NodeState) (acts : List Act) (size : ℕ)
    : Type 0 where
  pub entry : Entry
  pub found : IsFound bytes entry size
  pub does : DoesEntry s entry t acts

-- or they don't, for this reason
abbrev pub IsAgainst : NodeState → List ℕ → BookWhy → Type 0
IsAgainst s bytes whys.Spelling = IsBad bytes
IsAgainst s bytes whys.NotPossible = RefusesOne s bytes

abbrev pub StepsNext : NodeState → List ℕ → NodeState → Result (Option Found) LogError → ℕ → Type 0
StepsNext s bytes t (Ok (Some found)) at = StepsOne s bytes t found.acts found.size
StepsNext s bytes t (Ok None) at = IsFront bytes
StepsNext s bytes t (Err (errors.Bad place why)) at = (place ≡ at) × IsAgainst s bytes why
StepsNext s bytes t (Err errors.Fault) at = ⊥
StepsNext s bytes t (Err errors.Memory) at = Unit {0}

-- of an entry that was found
abbrev pub StepsFound : NodeState → Entry → NodeState → Result (Option Found) LogError → ℕ → ℕ
    → Type 0
StepsFound s entry t (Ok (Some found)) at size =
    (found.size ≡ size) × DoesEntry s entry t found.acts
StepsFound s entry t (Ok None) at size = ⊥
StepsFound s entry t (Err (errors.Bad place why)) at size =
    (place ≡ at) × (why ≡ whys.NotPossible) × IsRefused s entry.input
StepsFound s entry t (Err errors.Fault) at size = ⊥
StepsFound s entry t (Err errors.Memory) at size = Unit {0}

-- its lines go to the log
pub record TellsOne (drives : Bool) (machine at : ℕ) (s : NodeState) (bytes : List ℕ)
    (t : NodeState) (next : ℕ) (old new : Option (List ℕ)) : Type 0 where
  pub size : ℕ
  pub acts : List Act
  pub one : StepsOne s bytes t acts size
  pub next_is : next ≡ at + size
  pub grows : Grows old new (lines_of drives next machine acts)

-- or a front of them
pub record TellsOneInPart (drives : Bool) (machine at : ℕ) (s : NodeState) (bytes : List ℕ)
    (old new : Option (List ℕ)) : Type 0 where
  pub size : ℕ
  pub t : NodeState
  pub acts : List Act
  pub one : StepsOne s bytes t acts size
  pub part : GrowsInPart old new (lines_of drives (at + size) machine acts)

abbrev pub TellsNext : Bool → ℕ → ℕ → NodeState → List ℕ → NodeState → Result (Option ℕ) LogError
    → Option (List ℕ) → Option (List ℕ) → Type 0
TellsNext drives machine at s bytes t (Ok (Some next)) old new =
    TellsOne drives machine at s bytes t next old new
TellsNext drives machine at s bytes t (Ok None) old new = IsFront bytes × (new ≡ old)
TellsNext drives machine at s bytes t (Err (errors.Bad place why)) old new =
    (place ≡ at) × IsAgainst s bytes why × (new ≡ old)
TellsNext drives machine at s bytes t (Err errors.Fault) old new =
    TellsOneInPart drives machine at s bytes old new
TellsNext drives machine at s bytes t (Err errors.Memory) old new = new ≡ old

-- lines that are pushed
abbrev pub PushesLines : List ℕ → {A : Type 0} → Result A LogError → Option (List ℕ)
    → Option (List ℕ) → Type 0
PushesLines lines (Ok done) old new = Grows old new lines
PushesLines lines (Err errors.Fault) old new = GrowsInPart old new lines
PushesLines lines (Err errors.Memory) old new = new ≡ old
PushesLines lines (Err (errors.Bad place why)) old new = ⊥

-- how far it is
pub record IsToldSo (drives : Bool) (machine : ℕ) (start : NodeState) (book : List ℕ) (at : ℕ)
    (node : NodeState) (old new : Option (List ℕ)) : Type 0 where
  pub log : List ℕ
  pub told : IsToldTo drives machine start book at node log
  pub grows : Grows old new log
