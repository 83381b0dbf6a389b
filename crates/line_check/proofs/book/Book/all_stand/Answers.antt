use Rattle.line_check.proofs.Books.{all_stand-settled}
use Rattle.line_check.proofs.book.Book.all_stand.Goals as goal

pub returns : goal.returns
returns c = λ ledger book. all_stand-settled c.args.self.now.unsettled.keys c.is_empty.result ledger.marks c.is_empty.ensures book.unsettled
