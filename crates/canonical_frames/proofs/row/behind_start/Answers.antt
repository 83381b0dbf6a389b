use Rattle.std.proofs.Common.{refl}
use Rattle.canonical_frames.proofs.row.behind_start.Goals as goal

pub returns : goal.returns
returns c = (c.in_ok-id.id.now, c.in_ok-id.ensures, refl)
