use Rattle.restart_book.proofs.Kept.{kept_on}
use Rattle.restart_book.proofs.laws.a_kept_book_is_resumed.Goals as goal

pub returns : goal.returns
returns c = kept_on
