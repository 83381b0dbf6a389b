use Rattle.std.proofs.Common.{refl}
use Rattle.node_commands.proofs.end.unheard_text.Goals as goal

pub returns-in-Ok : goal.returns-in-Ok
returns-in-Ok c =
    let begun = c.new-text.ensures.items in
    let named = c.in_ok-extend_from_slice.ensures.items in
    let hosted = c.in_ok-write_host.ensures in
    let ended = c.in-Ok.ensures.bytes in
    rw (ended, hosted, named, begun) refl
