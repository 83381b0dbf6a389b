use Rattle.std.proofs.Common.{refl}
use Rattle.canonical_frames.proofs.row.behind_notice.Goals as goal

pub returns : goal.returns
returns c = (c.in_ok-code.code.now, c.in_ok-code.ensures, (c.in_ok-severity.severity.now, c.in_ok-severity.ensures, (c.in_ok-text.text.now, c.in_ok-text.ensures, refl)))
