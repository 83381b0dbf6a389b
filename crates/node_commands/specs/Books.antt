-- WHAT THE PROGRAM `node` DOES OVER A BOOK: it takes the book of its machine's steps, unless another
-- process has it, reads it, begins again from it, cuts off what follows the whole entries, and runs
-- on; the entry of each step is in the book before anything of that step goes out.
use Rattle.std.specs.Prelude.{◌≡◌, ◌≤◌, ◌<◌, ◌+◌, ◌++◌, ◌⊎◌, ℕ, ℤ, Bool, true, false, List, Option, None, Some, Result, Ok, Err, length}
use Rattle.book_entry.specs.declared.entry.Entry.{Entry}
use Rattle.book_entry.specs.Steps.{AreEntries, spelled}
use Rattle.line_outside.specs.Faults.{Rose}
use Rattle.line_outside.specs.Given.{Given}
use Rattle.line_outside.specs.declared.way.Address.{Address}
use Rattle.machine_log.specs.declared.drives.Drives.{Drives}
use Rattle.machine_log.specs.Drives.{all_off}
use Rattle.node_core.specs.Node.{NodeState, new_node}
use Rattle.node_core.specs.declared.act.Act.{Act}
use Rattle.node_run.specs.Booked.{BookedEnds, RunsKept, most_book}
use Rattle.node_run.specs.Owning.{TellsActs}
use Rattle.node_run.specs.Runs.{IsRunStatus}
use Rattle.node_run.specs.State.{RunState, resumed as begun}
use Rattle.node_run.specs.Status.{exit_number}
use Rattle.node_run.specs.Told.{neighbours_of, profile_of, rules_of}
use Rattle.node_run.specs.declared.booked.BookedStatus.{BookedStatus}
use Rattle.node_run.specs.declared.booked.BookedStatus.TheVariants as booked
use Rattle.node_run.specs.declared.rules.Rules.{Rules}
use Rattle.node_run.specs.declared.status.NodeStatus.TheVariants as statuses
use Rattle.node_settings.specs.Settings.{Refusal, read_of}
use Rattle.node_settings.specs.declared.settings.Settings.{Settings}
use Rattle.restart_book.specs.Replay.{IsBadAt, IsResumed, IsResumedAs}
use Rattle.restart_book.specs.declared.resuming.BookWhy.{BookWhy}
use Rattle.node_commands.specs.Taking.{IsHeld, IsMended}
use Rattle.node_commands.specs.declared.book_file.BookError.{BookError}
use Rattle.node_commands.specs.declared.book_file.BookError.TheVariants as errors
use Rattle.node_commands.specs.declared.book_status.BookStatus.{BookStatus}
use Rattle.node_commands.specs.declared.book_status.BookStatus.TheVariants as ends

-- the number with which the program ends
abbrev pub book_exit : BookStatus → ℕ
book_exit (ends.Node status) = exit_number status
book_exit ends.BookFault = 9
book_exit (ends.BookRefused at why) = 10
book_exit ends.BookFull = 11
book_exit ends.BookBusy = 12

-- a run over a book ends the program
abbrev pub book_status : BookedStatus → BookStatus
book_status (booked.Node status) = ends.Node status
book_status booked.BookFault = ends.BookFault
book_status booked.BookFull = ends.BookFull

-- ---- what is told of ports, log and book

pub record Outside : Type 0 where
  pub given : Option (List Given)
  pub log : Option (List ℕ)
  pub book : Option (List ℕ)

abbrev pub outside : Option (List Given) → Option (List ℕ) → Option (List ℕ) → Outside
outside given log book = record { given = given; log = log; book = book }

-- nothing was called, nothing logged, and the book is as it was
pub record IsUntouched (old new : Outside) : Type 0 where
  pub given : new.given ≡ old.given
  pub log : new.log ≡ old.log
  pub book : new.book ≡ old.book

-- ---- reading the book

-- the bytes that were read are the book's, where they are told
abbrev pub ReadsBook : Option (List ℕ) → List ℕ → Type 0
ReadsBook None bytes = Unit {0}
ReadsBook (Some all) bytes = all ≡ bytes

abbrev pub IsLarge : Option (List ℕ) → Type 0
IsLarge None = Unit {0}
IsLarge (Some all) = most_book < length all

-- the count of the book never falls, and a fault comes only where it rose
abbrev pub HasBookCause : {A : Type 0} → Result A BookError → ℕ → ℕ → Type 0
HasBookCause (Err errors.Fault) before now = (before ≤ now) × Rose before now
HasBookCause result before now = before ≤ now

-- ---- what the settings ask for

-- THE MACHINE BEGAN AGAIN: it is resumed from the book, what is torn of the book is cut off, and the
-- run goes on from there
pub record RunsOn (told : Option ℤ) (settings : Settings) (bytes : List ℕ) (old new : Outside)
    (status : BookedStatus) : Type 0 where
  pub short : length bytes ≤ most_book
  pub node : NodeState
  pub drives : Drives
  pub whole : ℕ
  pub resumed : IsResumedAs (new_node (profile_of settings)) all_off bytes whole node drives
  pub mended : Option (List ℕ)
  pub is_mended : IsMended (length bytes) whole old.book mended
  pub runs : BookedEnds told (rules_of settings) (begun (neighbours_of settings) node drives)
      whole old.given new.given old.log new.log mended new.book status

-- it can't begin again from this book
pub record IsRefusedBook (settings : Settings) (bytes : List ℕ) (at : ℕ) (why : BookWhy)
    (old new : Outside) : Type 0 where
  pub short : length bytes ≤ most_book
  pub bad : IsBadAt (new_node (profile_of settings)) bytes at why
  pub untouched : IsUntouched old new

-- over a book of these bytes
abbrev pub DoesBook : Option ℤ → Settings → List ℕ → Outside → Outside → BookStatus → Type 0
DoesBook told settings bytes old new (ends.BookRefused at why) =
    IsRefusedBook settings bytes at why old new
DoesBook told settings bytes old new ends.BookFull =
    ((most_book < length bytes) × IsUntouched old new)
    ⊎ RunsOn told settings bytes old new booked.BookFull
DoesBook told settings bytes old new ends.BookFault =
    IsUntouched old new ⊎ RunsOn told settings bytes old new booked.BookFault
DoesBook told settings bytes old new (ends.Node statuses.Memory) =
    IsUntouched old new ⊎ RunsOn told settings bytes old new (booked.Node statuses.Memory)
DoesBook told settings bytes old new (ends.Node status) =
    RunsOn told settings bytes old new (booked.Node status)
DoesBook told settings bytes old new ends.BookBusy = ⊥

abbrev pub DoesTold : Option ℤ → Settings → Option (List ℕ) → Outside → Outside → BookStatus
    → Type 0
DoesTold told settings None old new status = Unit {0}
DoesTold told settings (Some bytes) old new status = DoesBook told settings bytes old new status

-- no other process has the book, and that is done
pub record DoesFree (busy : Option Bool) (told : Option ℤ) (settings : Settings)
    (left : Option (List ℕ)) (old new : Outside) (status : BookStatus) : Type 0 where
  pub free : IsHeld busy false
  pub does : DoesTold told settings left old new status

-- THE BOOK IS TAKEN FIRST. Where another process has it, nothing is done; it may fail
abbrev pub DoesTaking : Option Bool → Option ℤ → Settings → Option (List ℕ) → Outside → Outside
    → BookStatus → Type 0
DoesTaking busy told settings left old new ends.BookBusy = IsHeld busy true × IsUntouched old new
DoesTaking busy told settings left old new ends.BookFault =
    IsUntouched old new ⊎ DoesFree busy told settings left old new ends.BookFault
DoesTaking busy told settings left old new status =
    DoesFree busy told settings left old new status

-- settings that are read ask for that, or are refused
abbrev pub DoesRead : Result Settings Refusal → Option Bool → Option ℤ → Option (List ℕ) → Outside
    → Outside → BookStatus → Type 0
DoesRead (Ok settings) busy told left old new status =
    DoesTaking busy told settings left old new status
DoesRead (Err refusal) busy told left old new status =
    (status ≡ ends.Node (statuses.ConfigRefused refusal.key refusal.why))
    × IsUntouched old new

-- the settings file was read, or failed, or memory was wanting before anything was called
abbrev pub DoesBookFile : List ℕ → Option Bool → Option ℤ → Option (List ℕ) → Outside → Outside
    → BookStatus → Type 0
DoesBookFile file busy told left old new (ends.Node statuses.ReadFault) = IsUntouched old new
DoesBookFile file busy told left old new (ends.Node statuses.Memory) =
    IsUntouched old new
    ⊎ DoesRead (read_of file) busy told left old new (ends.Node statuses.Memory)
DoesBookFile file busy told left old new status =
    DoesRead (read_of file) busy told left old new status

-- WHAT THE PROGRAM DOES: with other than one word nothing but `Usage`; where the settings file
-- tells its bytes and the book tells those that weren't read, what the settings ask for, whether
-- another process has the book as that is told
abbrev pub DoesNodeBook : Bool → Option (List ℕ) → Option Bool → Option (List ℕ) → Option ℤ
    → Outside → Outside → BookStatus → Type 0
DoesNodeBook false file busy left told old new status =
    (status ≡ ends.Node statuses.Usage) × IsUntouched old new
DoesNodeBook true None busy left told old new status = Unit {0}
DoesNodeBook true (Some file) busy left told old new status =
    DoesBookFile file busy told left old new status

-- ---- the same of the parts of the call

-- what is torn of the book was cut off, and the run went on from this machine
pub record RanOn (told : Option ℤ) (settings : Settings) (node : NodeState) (drives : Drives)
    (count whole : ℕ) (old new : Outside) (status : BookStatus) : Type 0 where
  pub end : BookedStatus
  pub status_is : status ≡ book_status end
  pub mended : Option (List ℕ)
  pub is_mended : IsMended count whole old.book mended
  pub runs : BookedEnds told (rules_of settings) (begun (neighbours_of settings) node drives)
      whole old.given new.given old.log new.log mended new.book end

-- or the book failed, and is as it was
abbrev pub MendsAndRuns : Option ℤ → Settings → NodeState → Drives → ℕ → ℕ → Outside → Outside
    → BookStatus → Type 0
MendsAndRuns told settings node drives count whole old new status =
    ((status ≡ ends.BookFault) × IsUntouched old new)
    ⊎ RanOn told settings node drives count whole old new status

-- what may be answered once the settings were read and the book was taken
abbrev pub IsRestStatus : BookStatus → Type 0
IsRestStatus (ends.Node status) = IsRunStatus status
IsRestStatus ends.BookBusy = ⊥
IsRestStatus status = Unit {0}

-- once the settings were read
abbrev pub IsTakingStatus : BookStatus → Type 0
IsTakingStatus ends.BookBusy = Unit {0}
IsTakingStatus status = IsRestStatus status

pub record HasRestCauses (status : BookStatus)
    (ports_before ports_now log_before log_now book_before book_now : ℕ) : Type 0 where
  pub ports : ports_before ≤ ports_now
  pub log : log_before ≤ log_now
  pub book : book_before ≤ book_now
  pub listen_fault : (address : Address) → status ≡ ends.Node (statuses.ListenFault address)
      → Rose ports_before ports_now
  pub log_fault : status ≡ ends.Node statuses.LogFault → Rose log_before log_now
  pub book_fault : status ≡ ends.BookFault → Rose book_before book_now

-- ---- the law of a book that is kept on

-- the book, without what was torn of it and with the entries of a run, leads to the machine that the
-- run reached; and the run's log tells what was done in them
pub record BeginsAgain (start : NodeState) (mended : List ℕ) (whole : ℕ) (acts : List Act)
    (rules : Rules) (reached : RunState) (log : List ℕ) (entries : List Entry) : Type 0 where
  pub told : List Act
  pub tells : TellsActs rules log told
  pub resumed : IsResumed start (mended ++ spelled entries) (whole + length (spelled entries))
      reached.node (acts ++ told)

-- wherever a run that a book began stops
abbrev pub StopsBeginAgain : Type 0
StopsBeginAgain =
    (start : NodeState) (bytes mended : List ℕ) (whole : ℕ) (acts : List Act) (rules : Rules)
    (moments : List ℤ) (s reached : RunState) (calls : List Given) (log : List ℕ)
    (entries : List Entry) → IsResumed start bytes whole s.node acts
    → IsMended (length bytes) whole (Some bytes) (Some mended)
    → RunsKept rules s moments calls reached log entries → AreEntries entries
    → BeginsAgain start mended whole acts rules reached log entries

-- `Usage` exactly where there isn't one word
abbrev pub FitsNodeBook : Bool → BookStatus → Type 0
FitsNodeBook false status = status ≡ ends.Node statuses.Usage
FitsNodeBook true (ends.Node statuses.Usage) = ⊥
FitsNodeBook true status = Unit {0}

-- no count falls, and a fault comes only where the count of that object rose
pub record HasBookCauses (status : BookStatus)
    (file_before file_now ports_before ports_now log_before log_now book_before book_now : ℕ)
    : Type 0 where
  pub file : file_before ≤ file_now
  pub ports : ports_before ≤ ports_now
  pub log : log_before ≤ log_now
  pub book : book_before ≤ book_now
  pub read_fault : status ≡ ends.Node statuses.ReadFault → Rose file_before file_now
  pub listen_fault : (address : Address) → status ≡ ends.Node (statuses.ListenFault address)
      → Rose ports_before ports_now
  pub log_fault : status ≡ ends.Node statuses.LogFault → Rose log_before log_now
  pub book_fault : status ≡ ends.BookFault → Rose book_before book_now
