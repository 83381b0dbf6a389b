use Rattle.std.proofs.Common.{◌∙◌, sym, ap}
use Rattle.line_check.specs.Log.{ids_in}
use Rattle.line_check.specs.Marks.{is_some_mark}
use Rattle.line_check.proofs.Books.{has_id-ids_in}
use Rattle.line_check.proofs.book.Book.boards.Goals as goal

pub returns : goal.returns
returns c = λ ledger book. c.boards.ensures (ids_in ledger.marks) (λ id. has_id-ids_in id ledger.marks ∙ ap is_some_mark (sym (book.marks id)))
