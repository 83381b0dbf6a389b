use Rattle.restart_book.proofs.Once.{one_answer}
use Rattle.restart_book.proofs.laws.a_book_has_one_answer.Goals as goal

pub returns : goal.returns
returns c = one_answer c.one_meaning.ensures
