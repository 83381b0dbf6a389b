use Rattle.std.proofs.Common.{refl}
use Rattle.canonical_frames.proofs.row.behind_alive.Goals as goal

pub returns : goal.returns
returns c = (c.in_ok-ping.ping.now, c.in_ok-ping.ensures, (c.in_ok-id.id.now, c.in_ok-id.ensures, refl))
