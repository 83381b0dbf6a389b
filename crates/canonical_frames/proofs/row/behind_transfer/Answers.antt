use Rattle.std.proofs.Common.{refl}
use Rattle.canonical_frames.proofs.row.behind_transfer.Goals as goal

pub returns : goal.returns
returns c = (c.in_ok-state.state.now, c.in_ok-state.ensures, (c.in_ok-id.id.now, c.in_ok-id.ensures, refl))
