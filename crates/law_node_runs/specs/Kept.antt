-- A RUN OVER A BOOK IS ONE: from one machine, equal answers at equal moments give equal calls, an
-- equal log, equal entries in the book and an equal end.
use Rattle.std.specs.Prelude.{◌≡◌, ◌≤◌, ◌<◌, ◌+◌, ◌++◌, ℕ, ℤ, true, false, List, [], ◌∷◌, length}
use Rattle.book_entry.specs.declared.entry.Entry.{Entry}
use Rattle.book_entry.specs.Steps.{spelled}
use Rattle.line_outside.specs.Given.{Given}
use Rattle.node_run.specs.Booked.{MovesAgain, RunsKept, entries_of, makes_step, most_book}
use Rattle.node_run.specs.Gone.{begins_again}
use Rattle.node_run.specs.Next.{next_of}
use Rattle.node_run.specs.State.{RunState}
use Rattle.node_run.specs.declared.booked.BookedStatus.{BookedStatus}
use Rattle.node_run.specs.declared.booked.BookedStatus.TheVariants as booked
use Rattle.node_run.specs.declared.place.Next.TheVariants as nexts
use Rattle.node_run.specs.declared.rules.Rules.{Rules}
use Rattle.node_run.specs.declared.status.NodeStatus.{NodeStatus}
use Rattle.law_node_runs.specs.One.{Agree, answers_of}
use Rattle.restart_book.specs.Exactly.{AreOne}

-- a run that came to its end over a book that had so many bytes, with the moment of each move, all
-- its calls, its log and the entries of its steps
pub record IsWholeKept (rules : Rules) (s : RunState) (size : ℕ) (moments : List ℤ)
    (calls : List Given) (log : List ℕ) (entries : List Entry) (status : NodeStatus) : Type 0 where
  pub reached : RunState
  pub run : RunsKept rules s moments calls reached log entries
  pub fits : size + length (spelled entries) ≤ most_book
  pub begun : begins_again reached ≡ false
  pub ends : next_of rules reached ≡ nexts.End status

-- or that stopped at the first step whose entry the book has no room for
pub record IsFullKept (rules : Rules) (s : RunState) (size : ℕ) (moments : List ℤ)
    (calls : List Given) (log : List ℕ) (entries : List Entry) : Type 0 where
  pub before : List ℤ
  pub moment : ℤ
  pub moments_are : moments ≡ before ++ moment ∷ []
  pub done : List Given
  pub last : List Given
  pub calls_are : calls ≡ done ++ last
  pub reached : RunState
  pub after : RunState
  pub lines : List ℕ
  pub run : RunsKept rules s before done reached log entries
  pub fits : size + length (spelled entries) ≤ most_book
  pub move : MovesAgain rules moment reached last after lines
  pub made : makes_step reached after ≡ true
  pub full : most_book < size + length (spelled entries)
      + length (spelled (entries_of reached after))

abbrev pub EndsKept : Rules → RunState → ℕ → List ℤ → List Given → List ℕ → List Entry
    → BookedStatus → Type 0
EndsKept rules s size moments calls log entries (booked.Node status) =
    IsWholeKept rules s size moments calls log entries status
EndsKept rules s size moments calls log entries booked.BookFault = ⊥
EndsKept rules s size moments calls log entries booked.BookFull =
    IsFullKept rules s size moments calls log entries

-- one state, but for the undelivered bytes of a side of the machine that has no connection
pub record BeginAsOne (s t : RunState) : Type 0 where
  pub node : AreOne s.node t.node
  pub others : t ≡ record s { node = t.node }

-- THE LAW
abbrev pub EachKeptRunIsOne : Type 0
EachKeptRunIsOne =
    (rules : Rules) (size : ℕ) (s t : RunState) (moments others : List ℤ)
    (calls more : List Given) (log text : List ℕ) (entries kept : List Entry)
    (end other : BookedStatus) → BeginAsOne s t
    → EndsKept rules s size moments calls log entries end
    → EndsKept rules t size others more text kept other → Agree moments others
    → Agree (answers_of calls) (answers_of more)
    → (more ≡ calls) × (text ≡ log) × (kept ≡ entries) × (other ≡ end)
