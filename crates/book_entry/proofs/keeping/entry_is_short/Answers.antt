use Rattle.book_entry.proofs.Few.{entry_short}
use Rattle.book_entry.proofs.keeping.entry_is_short.Goals as goal

pub returns : goal.returns
returns c = entry_short c.args.entry.now c.requires.events c.requires.short c.texts_are_few.ensures
