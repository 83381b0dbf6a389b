use Rattle.std.proofs.Common.{refl}
use Rattle.hermes_horizontal.proofs.rows.read_head.Goals as goal

pub returns : goal.returns
returns c = rw (c.in_ok-id.ensures, c.in_ok-check_text.ensures, c.in_ok-quality.ensures, c.in_ok-flip.ensures) refl
