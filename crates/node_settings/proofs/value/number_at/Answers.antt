use Rattle.std.proofs.Common.{refl}
use Rattle.node_settings.proofs.value.number_at.Goals as goal

pub returns-in-Some-clause-value : goal.returns-in-Some-clause-value
returns-in-Some-clause-value c = rw (← c.in-Some.ensures) c.number_of.ensures.value

pub returns-in-None-clause-value : goal.returns-in-None-clause-value
returns-in-None-clause-value c = rw (← c.in-None.ensures) refl
