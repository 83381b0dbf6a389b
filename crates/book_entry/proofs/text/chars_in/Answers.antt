use Rattle.std.proofs.Common.{ap, ◌∙◌, sym, rules}
use Rattle.book_entry.specs.Reading.{chars_in}
use Rattle.book_entry.proofs.text.chars_in.Goals as goal

pub returns-then-count-bytes : goal.returns-then-count-bytes
unfolding chars_in
returns-then-count-bytes c = search rules

pub returns-then-branch : goal.returns-then-branch
unfolding chars_in
returns-then-branch c = search rules

pub returns : goal.returns
unfolding chars_in
returns c = search rules
