-- WHAT IS SAID OF HOW THE PROGRAM ENDS OVER A BOOK: one line, which says why, and what to do then.
use Rattle.std.specs.Prelude.{◌≡◌, ◌≤◌, ◌++◌, ℕ, Bool, true, false, List, Option, Result, Ok, Err, codes, decimal}
use Rattle.line_outside.specs.Faults.{Rose}
use Rattle.line_outside.specs.Sink.{Grows, GrowsInPart}
use Rattle.node_commands.specs.Ends.{TellsEnd}
use Rattle.node_commands.specs.declared.book_status.BookStatus.{BookStatus}
use Rattle.node_commands.specs.declared.book_status.BookStatus.TheVariants as books
use Rattle.node_commands.specs.declared.end.EndError.{EndError}
use Rattle.node_commands.specs.declared.end.EndError.TheVariants as ends
use Rattle.restart_book.specs.declared.resuming.BookWhy.{BookWhy}
use Rattle.restart_book.specs.declared.resuming.BookWhy.TheVariants as whys

abbrev pub book_why_text : BookWhy → List ℕ
book_why_text whys.Spelling = codes "no entry"
book_why_text whys.NotPossible = codes "an entry that can't be done then"

abbrev pub refused_book_text : ℕ → BookWhy → List ℕ
refused_book_text at why =
    codes "node: the book is refused at byte " ++ (decimal at ++ (codes ": "
    ++ (book_why_text why ++ codes "; keep it apart, and begin a new one\n")))

abbrev pub fault_text : List ℕ
fault_text =
    codes "node: can't read or write the book; give its disk room, and start again\n"

abbrev pub full_text : List ℕ
full_text = codes "node: the book is full; keep it apart, and begin a new one\n"

abbrev pub busy_text : List ℕ
busy_text = codes "node: another process has the book; end that one first, or give another settings file\n"

-- a line was appended whole; or the sink failed, whose count rose, and a front of it was; or
-- nothing was, since a line that names a byte wanted memory
abbrev pub TellsLine : List ℕ → Bool → {A : Type 0} → Result A EndError → Option (List ℕ)
    → Option (List ℕ) → ℕ → ℕ → Type 0
TellsLine text names (Ok told) old new before now = (before ≤ now) × Grows old new text
TellsLine text names (Err ends.Fault) old new before now =
    (before ≤ now) × Rose before now × GrowsInPart old new text
TellsLine text names (Err ends.Memory) old new before now =
    (names ≡ true) × (new ≡ old) × (now ≡ before)

abbrev pub TellsBookEnd : BookStatus → {A : Type 0} → Result A EndError → Option (List ℕ)
    → Option (List ℕ) → ℕ → ℕ → Type 0
TellsBookEnd (books.Node status) result old new before now =
    TellsEnd status result old new before now
TellsBookEnd books.BookFault result old new before now =
    TellsLine fault_text false result old new before now
TellsBookEnd (books.BookRefused at why) result old new before now =
    TellsLine (refused_book_text at why) true result old new before now
TellsBookEnd books.BookFull result old new before now =
    TellsLine full_text false result old new before now
TellsBookEnd books.BookBusy result old new before now =
    TellsLine busy_text false result old new before now
