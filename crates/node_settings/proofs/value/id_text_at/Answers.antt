use Rattle.std.proofs.Common.{refl}
use Rattle.node_settings.proofs.value.id_text_at.Goals as goal

pub returns-in-Some : goal.returns-in-Some
returns-in-Some c = rw (← c.in-Some.ensures) c.id_text_as.ensures

pub returns-in-None : goal.returns-in-None
returns-in-None c = rw (c.refused.ensures, ← c.in-None.ensures) refl
