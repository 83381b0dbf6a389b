use Rattle.std.proofs.Common.{ap, ◌∙◌, sym, IfOk, rules}
use Rattle.std.proofs.lemmas.Bool.{or_left}
use Rattle.book_entry.specs.Reading.{ends_late, ends_soon, goes_on}
use Rattle.book_entry.proofs.text.goes_on.Goals as goal

pub returns-then-branch : goal.returns-then-branch
unfolding goes_on
returns-then-branch c = search rules

pub returns : goal.returns
unfolding goes_on
returns c = search rules
