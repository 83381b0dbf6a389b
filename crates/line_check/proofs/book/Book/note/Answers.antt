use Rattle.std.proofs.lemmas.Result.{on_ok_weaker}
use Rattle.line_check.proofs.Books.{noted}
use Rattle.line_check.proofs.book.Book.note.Goals as goal

pub returns : goal.returns
returns c = on_ok_weaker c.settle.result (λ settles ledger book. noted ledger c.args.deed.now c.args.self.now.table c.change.new.self c.args.self.now.seen c.see.new.seen c.args.self.now.unsettled c.settle.new.unsettled book c.in_ok-change.ensures c.in_ok-see.ensures settles) c.settle.ensures
