use Rattle.std.proofs.Common.{◌≡◌, ◌∙◌, ◌<◌, length, get_or, arith}
use Rattle.line_outside.specs.declared.answer.GotBytes.{GotBytes}
use Rattle.line_outside.specs.declared.answer.GotBytes.TheVariants as founds
use Rattle.line_outside.proofs.Passing.{starts_empty-first}
use Rattle.line_outside.proofs.poll_list.is_given.Goals as goal

pub returns-in-Some-Bytes : goal.returns-in-Some-Bytes
returns-in-Some-Bytes c =
    let bytes = c.in-Some-Bytes.word in
    let first : GotBytes = founds.Bytes bytes in
    let found : first ≡ get_or c.args.answers.now.items 0 first = rw c.in-Some-Bytes.field-0-is at c.in-Some-Bytes.ensures.lookup in
    rw c.bytes.ensures (starts_empty-first c.args.answers.now.items bytes c.args.used c.in-Some-Bytes.ensures.item.3.0 found)
