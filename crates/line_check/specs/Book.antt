-- The ledger as a book keeps it.
use Rattle.std.specs.Prelude.{◌≡◌, ℕ}
use Rattle.std.specs.Ordering.{nat_cmp}
use Rattle.std.specs.BTreeSet.{contains}
use Rattle.standings.specs.Marks.{has_id}
use Rattle.standings.specs.Ledger.{Ledger, marks_in}
use Rattle.line_check.specs.declared.book.Book.{Book}
use Rattle.line_check.specs.Marks.{lack_standing}
use Rattle.line_check.specs.Table.{marks_of}

-- the book has the marks of each id, the ids that were seen, and the ids that have marks and no
-- standing
pub record IsBook (ledger : Ledger) (book : Book) : Type 0 where
  pub marks : (id : ℕ) → marks_of book.table id ≡ marks_in id ledger.marks
  pub seen : (id : ℕ) → contains nat_cmp book.seen id ≡ has_id id ledger.seen
  pub unsettled : (id : ℕ)
      → contains nat_cmp book.unsettled id ≡ lack_standing (marks_in id ledger.marks)
