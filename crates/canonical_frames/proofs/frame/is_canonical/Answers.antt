use Rattle.canonical_frames.proofs.Frames.{frame_canonical}
use Rattle.canonical_frames.proofs.frame.is_canonical.Goals as goal

pub returns-in-Some : goal.returns-in-Some
returns-in-Some c = λ recognised. frame_canonical c.args.frame.now c.in-Some.child.now c.written_is_read.ensures c.in-Some.ensures (c.is_row.ensures recognised)
