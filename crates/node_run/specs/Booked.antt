-- A RUN OVER A BOOK: the entry of each step is in the book before any of its text, its log or its
-- drives goes out.
use Rattle.std.specs.Prelude.{◌≡◌, ◌≤◌, ◌<◌, ◌+◌, ◌++◌, ◌⊎◌, ℕ, ℤ, Bool, true, false, not, List, [], ◌∷◌, Option, None, Some, IfSome, length}
use Rattle.std.specs.List.{All}
use Rattle.book_entry.specs.Spelling.{IsEntry, spelling}
use Rattle.book_entry.specs.declared.entry.Entry.{Entry}
use Rattle.book_entry.specs.Steps.{AreEntries, Replays, spelled}
use Rattle.line_outside.specs.Faults.{Rose}
use Rattle.line_outside.specs.Given.{Given}
use Rattle.line_outside.specs.Ports.{Gains}
use Rattle.line_outside.specs.Sink.{Grows, GrowsInPart}
use Rattle.line_outside.specs.declared.way.Address.{Address}
use Rattle.node_run.specs.Next.{next_of}
use Rattle.node_core.specs.declared.act.Act.{Act}
use Rattle.node_run.specs.Owning.{TellsActs}
use Rattle.node_run.specs.Gone.{HearsGone, begins_again}
use Rattle.node_run.specs.Runs.{CallsNext, IsMoment, IsRunStatus, Moves}
use Rattle.node_run.specs.State.{RunState}
use Rattle.node_run.specs.declared.booked.BookedStatus.{BookedStatus}
use Rattle.node_run.specs.declared.booked.BookedStatus.TheVariants as booked
use Rattle.node_run.specs.declared.place.Next.TheVariants as nexts
use Rattle.node_run.specs.declared.rules.Rules.{Rules}
use Rattle.node_run.specs.declared.status.NodeStatus.TheVariants as statuses

-- ---- the entry of a move: that of the step which the machine made in it, if it made one

abbrev pub differ : Bool → Bool → Bool
differ true odd = not odd
differ false odd = odd

abbrev pub makes_step : RunState → RunState → Bool
makes_step s t = differ s.step.odd t.step.odd

abbrev pub last_entry : Option Entry → List Entry
last_entry None = []
last_entry (Some entry) = entry ∷ []

abbrev pub entries_if : Bool → Option Entry → List Entry
entries_if true entry = last_entry entry
entries_if false entry = []

abbrev pub entries_of : RunState → RunState → List Entry
entries_of s t = entries_if (makes_step s t) t.step.entry

-- ---- A MOVE: that of a run without a book, and before it, in turn 0, what is heard to be gone

pub data MovesAgain (rules : Rules) (moment : ℤ) : RunState → List Given → RunState → List ℕ
    → Type 0 where
  moves_as_ever : {s t : RunState} {calls : List Given} {log : List ℕ} → begins_again s ≡ false
      → Moves rules moment s calls t log → MovesAgain rules moment s calls t log
  hears_gone : {s t : RunState} {log : List ℕ} → begins_again s ≡ true
      → HearsGone rules moment s t log → MovesAgain rules moment s [] t log

-- the call that comes next was made, or none was
pub data CallsAgain (rules : Rules) : RunState → List Given → Type 0 where
  calls_none : {s : RunState} → CallsAgain rules s []
  calls_as_ever : {s : RunState} {last : List Given} → begins_again s ≡ false
      → CallsNext rules s last → CallsAgain rules s last

-- ---- a run, as `Runs`, with the entries of its steps

pub data RunsKept (rules : Rules) : RunState → List ℤ → List Given → RunState → List ℕ
    → List Entry → Type 0 where
  begins_kept : {s : RunState} → RunsKept rules s [] [] s [] []
  goes_on_kept : {s t u : RunState} {moments : List ℤ} {moment : ℤ} {calls more : List Given}
      {log lines : List ℕ} {entries : List Entry} → RunsKept rules s moments calls t log entries
      → MovesAgain rules moment t more u lines
      → RunsKept rules s (moments ++ moment ∷ []) (calls ++ more) u (log ++ lines)
      (entries ++ entries_of t u)

-- THE MACHINE MADE EXACTLY THE STEPS OF THE ENTRIES, one after the other, and the log tells their acts
pub record IsReplayed (rules : Rules) (s t : RunState) (log : List ℕ) (entries : List Entry)
    : Type 0 where
  pub told : List Act
  pub replays : Replays s.node entries t.node told
  pub tells : TellsActs rules log told

-- the law
abbrev pub EntriesAreTheSteps : Type 0
EntriesAreTheSteps =
    (rules : Rules) (moments : List ℤ) (s t : RunState) (calls : List Given) (log : List ℕ)
    (entries : List Entry) → RunsKept rules s moments calls t log entries
    → IsReplayed rules s t log entries

-- ---- the book

-- it has no more bytes than this
abbrev pub most_book : ℕ
most_book = 1073741824

-- THE BOOK, which had so many bytes, is what it was and these entries
pub record IsKept (size : ℕ) (book_old book_new : Option (List ℕ)) (entries : List Entry)
    : Type 0 where
  pub proper : AreEntries entries
  pub grows : Grows book_old book_new (spelled entries)
  pub fits : size + length (spelled entries) ≤ most_book

-- a run that came to its end
pub record HasRunKept (told_moment : Option ℤ) (rules : Rules) (s t : RunState) (size : ℕ)
    (given_old given_new : Option (List Given)) (log_old log_new : Option (List ℕ))
    (book_old book_new : Option (List ℕ)) : Type 0 where
  pub moments : List ℤ
  pub calls : List Given
  pub log : List ℕ
  pub entries : List Entry
  pub at : All (IsMoment told_moment) moments
  pub run : RunsKept rules s moments calls t log entries
  pub told : Gains given_old given_new calls
  pub logged : Grows log_old log_new log
  pub kept : IsKept size book_old book_new entries

-- a run that was broken off where the log failed or memory ran out: the calls are those of a run
-- whose entries are all in the book, and at most the next, and the log is a front of the run's
pub record HasRunKeptInPart (told_moment : Option ℤ) (rules : Rules) (s : RunState) (size : ℕ)
    (given_old given_new : Option (List Given)) (log_old log_new : Option (List ℕ))
    (book_old book_new : Option (List ℕ)) : Type 0 where
  pub moments : List ℤ
  pub calls : List Given
  pub last : List Given
  pub log : List ℕ
  pub entries : List Entry
  pub reached : RunState
  pub at : All (IsMoment told_moment) moments
  pub run : RunsKept rules s moments calls reached log entries
  pub next : CallsAgain rules reached last
  pub told : Gains given_old given_new (calls ++ last)
  pub logged : GrowsInPart log_old log_new log
  pub kept : IsKept size book_old book_new entries

-- a run that was broken off at a step whose entry isn't in the book: all entries before it are; of
-- that step's move no line is in the log, and its call, if it made one, came before the step
pub record StopsUnkept (told_moment : Option ℤ) (rules : Rules) (s : RunState) (size : ℕ)
    (given_old given_new : Option (List Given)) (log_old log_new : Option (List ℕ))
    (book_old book_new : Option (List ℕ)) : Type 0 where
  pub moments : List ℤ
  pub calls : List Given
  pub last : List Given
  pub log : List ℕ
  pub entries : List Entry
  pub reached : RunState
  pub moment : ℤ
  pub after : RunState
  pub lines : List ℕ
  pub at : All (IsMoment told_moment) moments
  pub now : IsMoment told_moment moment
  pub run : RunsKept rules s moments calls reached log entries
  pub move : MovesAgain rules moment reached last after lines
  pub made : makes_step reached after ≡ true
  pub told : Gains given_old given_new (calls ++ last)
  pub logged : Grows log_old log_new log
  pub kept : IsKept size book_old book_new entries

-- and with that entry the book would have too many bytes
pub record StopsFull (told_moment : Option ℤ) (rules : Rules) (s : RunState) (size : ℕ)
    (given_old given_new : Option (List Given)) (log_old log_new : Option (List ℕ))
    (book_old book_new : Option (List ℕ)) : Type 0 where
  pub stops : StopsUnkept told_moment rules s size given_old given_new log_old log_new book_old
      book_new
  pub full : most_book < size + length (spelled stops.entries)
      + length (spelled (entries_of stops.reached stops.after))

-- HOW A RUN OVER A BOOK ENDS
abbrev pub BookedEnds : Option ℤ → Rules → RunState → ℕ → Option (List Given)
    → Option (List Given) → Option (List ℕ) → Option (List ℕ) → Option (List ℕ)
    → Option (List ℕ) → BookedStatus → Type 0
BookedEnds told rules s size given_old given_new log_old log_new book_old book_new
    (booked.Node statuses.LogFault) =
    HasRunKeptInPart told rules s size given_old given_new log_old log_new book_old book_new
BookedEnds told rules s size given_old given_new log_old log_new book_old book_new
    (booked.Node statuses.Memory) =
    HasRunKeptInPart told rules s size given_old given_new log_old log_new book_old book_new
    ⊎ StopsUnkept told rules s size given_old given_new log_old log_new book_old book_new
BookedEnds told rules s size given_old given_new log_old log_new book_old book_new
    (booked.Node status) =
    (t : RunState)
    × HasRunKept told rules s t size given_old given_new log_old log_new book_old book_new
    × (begins_again t ≡ false) × (next_of rules t ≡ nexts.End status)
BookedEnds told rules s size given_old given_new log_old log_new book_old book_new
    booked.BookFault =
    StopsUnkept told rules s size given_old given_new log_old log_new book_old book_new
BookedEnds told rules s size given_old given_new log_old log_new book_old book_new
    booked.BookFull =
    StopsFull told rules s size given_old given_new log_old log_new book_old book_new

-- whatever is untold, what such a run may answer
abbrev pub IsBookedStatus : BookedStatus → Type 0
IsBookedStatus (booked.Node status) = IsRunStatus status
IsBookedStatus booked.BookFault = Unit {0}
IsBookedStatus booked.BookFull = Unit {0}

-- no count falls, and a fault comes only where the count of that object rose
pub record HasBookedCauses (status : BookedStatus)
    (ports_before ports_now log_before log_now book_before book_now : ℕ) : Type 0 where
  pub ports : ports_before ≤ ports_now
  pub log : log_before ≤ log_now
  pub book : book_before ≤ book_now
  pub listen_fault : (address : Address) → status ≡ booked.Node (statuses.ListenFault address)
      → Rose ports_before ports_now
  pub log_fault : status ≡ booked.Node statuses.LogFault → Rose log_before log_now
  pub book_fault : status ≡ booked.BookFault → Rose book_before book_now

-- ---- what is written of a step

abbrev pub spelled_of : Option Entry → List ℕ
spelled_of None = []
spelled_of (Some entry) = spelling entry

abbrev pub HasForm : Option Entry → Type 0
HasForm entry = IfSome entry IsEntry
