use Rattle.std.proofs.Common.{◌∙◌, sym, ap}
use Rattle.standings.specs.Marks.{has_mark}
use Rattle.line_check.proofs.Books.{has_entry-marks_in}
use Rattle.line_check.proofs.book.Book.is_found.Goals as goal

pub returns-in-Some : goal.returns-in-Some
returns-in-Some c = λ ledger book.
    let entry = c.in-Some.entry in
    rw c.in-Some.is (c.has_mark.ensures ∙ ap (has_mark entry.mark) (c.of.ensures ∙ book.marks entry.id) ∙ sym (has_entry-marks_in entry ledger.marks))
