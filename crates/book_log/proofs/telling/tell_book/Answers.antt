use Rattle.node_core.specs.Node.{new_node}
use Rattle.book_log.proofs.Lines.{told_none}
use Rattle.book_log.proofs.telling.tell_book.Goals as goal

pub returns-in-Err-clause-tells : goal.returns-in-Err-clause-tells
returns-in-Err-clause-tells g c = told_none c.args.drives c.args.profile.number (new_node c.args.profile) c.args.book.now (g.K.Sink.contents c.args.log.now)
