use Rattle.std.proofs.Common.{refl}
use Rattle.canonical_frames.proofs.row.behind_query.Goals as goal

pub returns : goal.returns
returns c = (c.in_ok-top.top.now, c.in_ok-top.ensures, (c.in_ok-bottom.bottom.now, c.in_ok-bottom.ensures, refl))
