-- What the loop over a book knows of each move.
use Rattle.std.specs.Prelude.{◌≡◌, ◌≤◌, ◌<◌, ◌+◌, ℕ, ℤ, Bool, true, false, List, Option, None, Some, length}
use Rattle.line_outside.specs.Faults.{Rose}
use Rattle.line_outside.specs.Given.{Given}
use Rattle.line_outside.specs.Sink.{Grows, GrowsInPart}
use Rattle.book_entry.specs.declared.entry.Entry.{Entry}
use Rattle.book_entry.specs.Steps.{spelled}
use Rattle.line_outside.specs.Ports.{Gains}
use Rattle.node_run.specs.Booked.{CallsAgain, IsKept, MovesAgain, entries_if, entries_of, makes_step, most_book}
use Rattle.node_run.specs.Gone.{begins_again}
use Rattle.node_run.specs.Moving.{IsAtEnd, IsEndCaused, IsOnceStatus}
use Rattle.node_run.specs.Runs.{IsMoment}
use Rattle.node_run.specs.State.{RunState, RunView}
use Rattle.node_run.specs.declared.booked.BookedStatus.{BookedStatus}
use Rattle.node_run.specs.declared.booked.BookedStatus.TheVariants as booked
use Rattle.node_run.specs.declared.booked.Keeping.{Keeping}
use Rattle.node_run.specs.declared.booked.Keeping.TheVariants as keepings
use Rattle.node_run.specs.declared.rules.Rules.{Rules}
use Rattle.node_run.specs.declared.status.NodeStatus.{NodeStatus}
use Rattle.node_run.specs.declared.status.NodeStatus.TheVariants as statuses

-- the entry of a move is in the book, if it has one
pub record KeepsOn (entries : List Entry) (size_old size_new : ℕ)
    (book_old book_new : Option (List ℕ)) : Type 0 where
  pub kept : IsKept size_old book_old book_new entries
  pub size : size_new ≡ size_old + length (spelled entries)

-- it isn't
pub record KeepsNot (made : Bool) (book_old book_new : Option (List ℕ)) : Type 0 where
  pub made_one : made ≡ true
  pub same : book_new ≡ book_old

-- what keeping the entry of a step answers, if one was made
abbrev pub KeepsStep : Keeping → Bool → Option Entry → ℕ → ℕ → Option (List ℕ)
    → Option (List ℕ) → Type 0
KeepsStep keepings.Done made entry size_old size_new book_old book_new =
    KeepsOn (entries_if made entry) size_old size_new book_old book_new
KeepsStep keepings.Full made entry size_old size_new book_old book_new =
    KeepsNot made book_old book_new
    × (most_book < size_old + length (spelled (entries_if made entry)))
KeepsStep keepings.Fault made entry size_old size_new book_old book_new =
    KeepsNot made book_old book_new
KeepsStep keepings.Memory made entry size_old size_new book_old book_new =
    KeepsNot made book_old book_new

-- an entry that is spelled so is in the book; it isn't, and would make it too long; or it isn't
abbrev pub Appends : Keeping → List ℕ → ℕ → ℕ → Option (List ℕ) → Option (List ℕ) → Type 0
Appends keepings.Done entry size_old size_new book_old book_new =
    Grows book_old book_new entry
    × (size_old + length entry ≤ most_book) × (size_new ≡ size_old + length entry)
Appends keepings.Full entry size_old size_new book_old book_new =
    (book_new ≡ book_old) × (most_book < size_old + length entry)
Appends keepings.Fault entry size_old size_new book_old book_new = book_new ≡ book_old
Appends keepings.Memory entry size_old size_new book_old book_new = ⊥

-- ---- a move, before anything of it goes out

pub record MakesAgain (told : Option ℤ) (rules : Rules) (s t : RunState)
    (given_old given_new : Option (List Given)) (log : List ℕ) : Type 0 where
  pub moment : ℤ
  pub same : IsMoment told moment
  pub calls : List Given
  pub move : MovesAgain rules moment s calls t log
  pub gains : Gains given_old given_new calls

-- and the run may go on
pub record GoesAgain (told : Option ℤ) (r u : RunView) (given_old given_new : Option (List Given))
    (before now : ℕ) : Type 0 where
  pub rules : u.rules ≡ r.rules
  pub makes : MakesAgain told r.rules r.state u.state given_old given_new u.told
  pub rest : length u.state.rest ≤ 4096
  pub ended : IsEndCaused u.state.ended before now

-- memory ran out in it: at most its call was made
pub record MissesAgain (rules : Rules) (s : RunState)
    (given_old given_new : Option (List Given)) : Type 0 where
  pub last : List Given
  pub next : CallsAgain rules s last
  pub gains : Gains given_old given_new last

-- ---- a move, as far as it goes out

-- its lines are in the log, too
pub record GoesOutOn (made : Bool) (entry : Option Entry) (told : List ℕ) (size_old size_new : ℕ)
    (log_old log_new : Option (List ℕ)) (book_old book_new : Option (List ℕ)) : Type 0 where
  pub keeps : KeepsOn (entries_if made entry) size_old size_new book_old book_new
  pub grows : Grows log_old log_new told

-- or a front of them
pub record GoesOutInPart (made : Bool) (entry : Option Entry) (told : List ℕ) (size : ℕ)
    (log_old log_new : Option (List ℕ)) (book_old book_new : Option (List ℕ)) : Type 0 where
  pub kept : IsKept size book_old book_new (entries_if made entry)
  pub part : GrowsInPart log_old log_new told

-- or nothing goes out
pub record GoesNowhere (made : Bool) (log_old log_new : Option (List ℕ))
    (book_old book_new : Option (List ℕ)) : Type 0 where
  pub keeps : KeepsNot made book_old book_new
  pub logged : log_new ≡ log_old

abbrev pub GoesOut : Option BookedStatus → Bool → Option Entry → List ℕ → ℕ → ℕ
    → Option (List ℕ) → Option (List ℕ) → Option (List ℕ) → Option (List ℕ) → Type 0
GoesOut None made entry told size_old size_new log_old log_new book_old book_new =
    GoesOutOn made entry told size_old size_new log_old log_new book_old book_new
GoesOut (Some (booked.Node statuses.LogFault)) made entry told size_old size_new log_old log_new
    book_old book_new =
    GoesOutInPart made entry told size_old log_old log_new book_old book_new
GoesOut (Some (booked.Node statuses.Memory)) made entry told size_old size_new log_old log_new
    book_old book_new =
    GoesNowhere made log_old log_new book_old book_new
GoesOut (Some (booked.Node status)) made entry told size_old size_new log_old log_new book_old
    book_new = ⊥
GoesOut (Some booked.BookFault) made entry told size_old size_new log_old log_new book_old
    book_new =
    GoesNowhere made log_old log_new book_old book_new
GoesOut (Some booked.BookFull) made entry told size_old size_new log_old log_new book_old
    book_new =
    GoesNowhere made log_old log_new book_old book_new
    × (most_book < size_old + length (spelled (entries_if made entry)))

pub record GoesOnKept (told : Option ℤ) (rules : Rules) (s t : RunState) (size_old size_new : ℕ)
    (given_old given_new : Option (List Given)) (log_old log_new : Option (List ℕ))
    (book_old book_new : Option (List ℕ)) : Type 0 where
  pub log : List ℕ
  pub makes : MakesAgain told rules s t given_old given_new log
  pub grows : Grows log_old log_new log
  pub keeps : KeepsOn (entries_of s t) size_old size_new book_old book_new

-- the log took a front of its lines
pub record FailsLogKept (told : Option ℤ) (rules : Rules) (s : RunState) (size : ℕ)
    (given_old given_new : Option (List Given)) (log_old log_new : Option (List ℕ))
    (book_old book_new : Option (List ℕ)) : Type 0 where
  pub after : RunState
  pub log : List ℕ
  pub makes : MakesAgain told rules s after given_old given_new log
  pub part : GrowsInPart log_old log_new log
  pub kept : IsKept size book_old book_new (entries_of s after)

-- its entry isn't in the book, and nothing of it went out
pub record FailsKeep (told : Option ℤ) (rules : Rules) (s : RunState)
    (given_old given_new : Option (List Given)) (log_old log_new : Option (List ℕ))
    (book_old book_new : Option (List ℕ)) : Type 0 where
  pub after : RunState
  pub log : List ℕ
  pub makes : MakesAgain told rules s after given_old given_new log
  pub logged : log_new ≡ log_old
  pub keeps : KeepsNot (makes_step s after) book_old book_new

pub record FailsFull (told : Option ℤ) (rules : Rules) (s : RunState) (size : ℕ)
    (given_old given_new : Option (List Given)) (log_old log_new : Option (List ℕ))
    (book_old book_new : Option (List ℕ)) : Type 0 where
  pub fails : FailsKeep told rules s given_old given_new log_old log_new book_old book_new
  pub full : most_book < size + length (spelled (entries_of s fails.after))

-- memory ran out in the move, or for its entry
pub data FailsMemoryKept (told : Option ℤ) (rules : Rules) (s : RunState)
    (given_old given_new : Option (List Given)) (log_old log_new : Option (List ℕ))
    (book_old book_new : Option (List ℕ)) : Type 0 where
  in_move : MissesAgain rules s given_old given_new → log_new ≡ log_old → book_new ≡ book_old
      → FailsMemoryKept told rules s given_old given_new log_old log_new book_old book_new
  for_entry : FailsKeep told rules s given_old given_new log_old log_new book_old book_new
      → FailsMemoryKept told rules s given_old given_new log_old log_new book_old book_new

-- the run is at its end
pub record EndsKept (rules : Rules) (s : RunState) (given_old given_new : Option (List Given))
    (log_old log_new : Option (List ℕ)) (book_old book_new : Option (List ℕ))
    (status : NodeStatus) : Type 0 where
  pub again : begins_again s ≡ false
  pub ends : IsAtEnd rules s given_old given_new log_old log_new status
  pub same : book_new ≡ book_old

abbrev pub StopsOnce : Option ℤ → Rules → RunState → ℕ → Option (List Given)
    → Option (List Given) → Option (List ℕ) → Option (List ℕ) → Option (List ℕ)
    → Option (List ℕ) → BookedStatus → Type 0
StopsOnce told rules s size given_old given_new log_old log_new book_old book_new
    (booked.Node statuses.LogFault) =
    FailsLogKept told rules s size given_old given_new log_old log_new book_old book_new
StopsOnce told rules s size given_old given_new log_old log_new book_old book_new
    (booked.Node statuses.Memory) =
    FailsMemoryKept told rules s given_old given_new log_old log_new book_old book_new
StopsOnce told rules s size given_old given_new log_old log_new book_old book_new
    (booked.Node status) =
    EndsKept rules s given_old given_new log_old log_new book_old book_new status
StopsOnce told rules s size given_old given_new log_old log_new book_old book_new
    booked.BookFault =
    FailsKeep told rules s given_old given_new log_old log_new book_old book_new
StopsOnce told rules s size given_old given_new log_old log_new book_old book_new
    booked.BookFull =
    FailsFull told rules s size given_old given_new log_old log_new book_old book_new

-- what the loop does once
abbrev pub DoesOnceKept : Option BookedStatus → Option ℤ → Rules → RunState → RunState → ℕ → ℕ
    → Option (List Given) → Option (List Given) → Option (List ℕ) → Option (List ℕ)
    → Option (List ℕ) → Option (List ℕ) → Type 0
DoesOnceKept None told rules s t size_old size_new given_old given_new log_old log_new book_old
    book_new =
    GoesOnKept told rules s t size_old size_new given_old given_new log_old log_new book_old
    book_new
DoesOnceKept (Some status) told rules s t size_old size_new given_old given_new log_old log_new
    book_old book_new =
    StopsOnce told rules s size_old given_old given_new log_old log_new book_old book_new status

-- why the loop ends
abbrev pub IsOnceBooked : Option NodeStatus → BookedStatus → ℕ → ℕ → ℕ → ℕ → Type 0
IsOnceBooked ended (booked.Node status) log_before log_now book_before book_now =
    IsOnceStatus ended status log_before log_now
IsOnceBooked ended booked.BookFault log_before log_now book_before book_now =
    Rose book_before book_now
IsOnceBooked ended booked.BookFull log_before log_now book_before book_now = Unit {0}
