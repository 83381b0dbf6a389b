use Rattle.std.proofs.Common.{refl}
use Rattle.canonical_frames.proofs.row.behind_quality.Goals as goal

pub returns : goal.returns
returns c = (c.in_ok-quality.quality.now, c.in_ok-quality.ensures, refl)
