use Rattle.std.proofs.Common.{refl}
use Rattle.node_commands.proofs.book_end.refused_book_text.Goals as goal

pub returns-in-Ok : goal.returns-in-Ok
returns-in-Ok c =
    let begun = c.new-text.ensures.items in
    let named = c.book_why_text-why.ensures in
    let ended = c.in-Ok.ensures.bytes in
    rw (ended, begun, named) refl
