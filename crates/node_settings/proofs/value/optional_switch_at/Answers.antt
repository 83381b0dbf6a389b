use Rattle.std.proofs.Common.{refl}
use Rattle.node_settings.proofs.value.optional_switch_at.Goals as goal

pub returns-in-Ok : goal.returns-in-Ok
returns-in-Ok c = rw (← c.in-Some.ensures, ← c.in-Ok.ensures) refl

pub returns-in-Err : goal.returns-in-Err
returns-in-Err c = rw (← c.in-Some.ensures, ← c.in-Err.ensures) refl

pub returns-in-None : goal.returns-in-None
returns-in-None c = rw (← c.in-None.ensures) refl
