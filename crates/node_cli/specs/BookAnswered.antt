-- OVER A BOOK, TOO, EACH INPUT HAS ONE ANSWER: that of the words, of the file's and the book's bytes,
-- of whether another process has the book, and of what the ports answered at which moments, unless a
-- count of faults rose, or memory was wanting.
use Rattle.std.specs.Prelude.{◌≡◌, ◌≤◌, ◌<◌, ℕ, ℤ, Bool, true, false, List, [], Option, Some, None, Result, Ok, Err, length}
use Rattle.std.specs.List.{All}
use Rattle.book_entry.specs.declared.entry.Entry.{Entry}
use Rattle.book_entry.specs.Steps.{spelled}
use Rattle.law_node_runs.specs.Kept.{EndsKept}
use Rattle.line_outside.specs.Faults.{Rises}
use Rattle.line_outside.specs.Given.{Given}
use Rattle.line_outside.specs.Ports.{Gains}
use Rattle.line_outside.specs.Sink.{Grows}
use Rattle.machine_log.specs.Drives.{all_off}
use Rattle.machine_log.specs.declared.drives.Drives.{Drives}
use Rattle.node_core.specs.Node.{NodeState, new_node}
use Rattle.node_run.specs.Booked.{most_book}
use Rattle.node_run.specs.Runs.{IsMoment}
use Rattle.node_run.specs.State.{resumed as begun}
use Rattle.node_run.specs.Told.{neighbours_of, profile_of, rules_of}
use Rattle.node_run.specs.declared.booked.BookedStatus.{BookedStatus}
use Rattle.node_run.specs.declared.status.NodeStatus.TheVariants as statuses
use Rattle.node_settings.specs.Settings.{Refusal, read_of}
use Rattle.node_settings.specs.declared.settings.Settings.{Settings}
use Rattle.law_node_runs.specs.One.{Agree, answers_of}
use Rattle.restart_book.specs.Replay.{IsBadAt, IsResumedAs}
use Rattle.restart_book.specs.declared.resuming.BookWhy.{BookWhy}
use Rattle.node_commands.specs.Books.{Outside, book_status}
use Rattle.node_commands.specs.Taking.{IsHeld, IsMended}
use Rattle.node_commands.specs.declared.book_status.BookStatus.{BookStatus}
use Rattle.node_commands.specs.declared.book_status.BookStatus.TheVariants as ends

-- what becomes of the book: it stays, or it is one of so many bytes of which so many are whole entries,
-- is cut to these where its end is torn, and has these entries behind them
pub data Change : Type 0 where
  stays : Change
  kept_on : ℕ → ℕ → List Entry → Change

pub record IsKeptOn (count whole : ℕ) (entries : List Entry) (old new : Option (List ℕ))
    : Type 0 where
  pub mended : Option (List ℕ)
  pub is_mended : IsMended count whole old mended
  pub grows : Grows mended new (spelled entries)

abbrev pub Becomes : Change → Option (List ℕ) → Option (List ℕ) → Type 0
Becomes stays old new = new ≡ old
Becomes (kept_on count whole entries) old new = IsKeptOn count whole entries old new

-- nothing but this status
abbrev pub IsEndAlone : BookStatus → List Given → List ℕ → Change → BookStatus → Type 0
IsEndAlone wanted calls log change status =
    (status ≡ wanted) × (calls ≡ []) × (log ≡ []) × (change ≡ stays)

-- the end of the run from where the book leads, with its calls, its log and its entries
pub record GoesOn (settings : Settings) (book : List ℕ) (moments : List ℤ) (calls : List Given)
    (log : List ℕ) (change : Change) (status : BookStatus) : Type 0 where
  pub short : length book ≤ most_book
  pub node : NodeState
  pub drives : Drives
  pub whole : ℕ
  pub resumed : IsResumedAs (new_node (profile_of settings)) all_off book whole node drives
  pub entries : List Entry
  pub end : BookedStatus
  pub ends : EndsKept (rules_of settings) (begun (neighbours_of settings) node drives) whole
      moments calls log entries end
  pub change_is : change ≡ kept_on (length book) whole entries
  pub status_is : status ≡ book_status end

-- the answer to settings and a book: that it is too long, or bad, or that end
pub data IsBookRun (settings : Settings) (book : List ℕ) (moments : List ℤ) (calls : List Given)
    (log : List ℕ) (change : Change) (status : BookStatus) : Type 0 where
  is_too_long : most_book < length book → IsEndAlone ends.BookFull calls log change status
      → IsBookRun settings book moments calls log change status
  is_bad : {at : ℕ} {why : BookWhy} → length book ≤ most_book
      → IsBadAt (new_node (profile_of settings)) book at why
      → IsEndAlone (ends.BookRefused at why) calls log change status
      → IsBookRun settings book moments calls log change status
  goes_on : GoesOn settings book moments calls log change status
      → IsBookRun settings book moments calls log change status

-- where another process has the book, nothing but that
abbrev pub IsTakingAnswer : Bool → Settings → List ℕ → List ℤ → List Given → List ℕ → Change
    → BookStatus → Type 0
IsTakingAnswer true settings book moments calls log change status =
    IsEndAlone ends.BookBusy calls log change status
IsTakingAnswer false settings book moments calls log change status =
    IsBookRun settings book moments calls log change status

abbrev pub IsReadAnswer : Result Settings Refusal → Bool → List ℕ → List ℤ → List Given → List ℕ
    → Change → BookStatus → Type 0
IsReadAnswer (Ok settings) held book moments calls log change status =
    IsTakingAnswer held settings book moments calls log change status
IsReadAnswer (Err refusal) held book moments calls log change status =
    IsEndAlone (ends.Node (statuses.ConfigRefused refusal.key refusal.why)) calls log change status

-- THE ANSWER, with what is called, logged and made of the book: whether there is one word, the bytes
-- of the file that it names, whether another process has the book, its bytes, the moments, and in the
-- calls what the ports answered
abbrev pub IsBookAnswer : Bool → List ℕ → Bool → List ℕ → List ℤ → List Given → List ℕ → Change
    → BookStatus → Type 0
IsBookAnswer false file held book moments calls log change status =
    IsEndAlone (ends.Node statuses.Usage) calls log change status
IsBookAnswer true file held book moments calls log change status =
    IsReadAnswer (read_of file) held book moments calls log change status

-- the counts of the file, the log and the book, before and now
pub record Counts : Type 0 where
  pub file : ℕ
  pub log : ℕ
  pub book : ℕ

abbrev pub counts : ℕ → ℕ → ℕ → Counts
counts file log book = record { file = file; log = log; book = book }

-- what is answered: that answer, each call, all of the log and of the book told, or in its place a
-- fault of the file, of the log or of the book, whose count rose, or want of memory
pub data BookAnswers
    (Answer : Bool → List ℤ → List Given → List ℕ → Change → BookStatus → Type 0)
    (busy : Option Bool) (told : Option ℤ) (old new : Outside) (before now : Counts)
    (status : BookStatus) : Type 0 where
  answered : {held : Bool} {moments : List ℤ} {calls : List Given} {log : List ℕ}
      {change : Change} → IsHeld busy held → All (IsMoment told) moments
      → Answer held moments calls log change status → Gains old.given new.given calls
      → Grows old.log new.log log → Becomes change old.book new.book
      → BookAnswers Answer busy told old new before now status
  file_failed : status ≡ ends.Node statuses.ReadFault → Rises before.file now.file
      → BookAnswers Answer busy told old new before now status
  log_failed : status ≡ ends.Node statuses.LogFault → Rises before.log now.log
      → BookAnswers Answer busy told old new before now status
  book_failed : status ≡ ends.BookFault → Rises before.book now.book
      → BookAnswers Answer busy told old new before now status
  memory_wanted : status ≡ ends.Node statuses.Memory
      → BookAnswers Answer busy told old new before now status

-- the same, where the file and the book tell their bytes
abbrev pub IsBookAnswered : Bool → Option (List ℕ) → Option Bool → Option (List ℕ) → Option ℤ
    → Outside → Outside → Counts → Counts → BookStatus → Type 0
IsBookAnswered one None busy left told old new before now status = Unit {0}
IsBookAnswered one (Some file) busy None told old new before now status = Unit {0}
IsBookAnswered one (Some file) busy (Some book) told old new before now status =
    BookAnswers (λ held. IsBookAnswer one file held book) busy told old new before now status

-- THE LAW: the same words, bytes, moments and answers, with the book another process's or not, have
-- one answer, with one list of calls, one log and one change of the book
abbrev pub EachBookInputHasOneAnswer : Type 0
EachBookInputHasOneAnswer =
    (one : Bool) (file : List ℕ) (held : Bool) (book : List ℕ) (moments others : List ℤ)
    (calls more : List Given) (log text : List ℕ) (change other : Change)
    (status end : BookStatus) → IsBookAnswer one file held book moments calls log change status
    → IsBookAnswer one file held book others more text other end → Agree moments others
    → Agree (answers_of calls) (answers_of more)
    → (more ≡ calls) × (text ≡ log) × (other ≡ change) × (end ≡ status)
