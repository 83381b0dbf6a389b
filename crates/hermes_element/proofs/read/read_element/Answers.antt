use Rattle.std.proofs.Common.{◌∙◌}
use Rattle.hermes_element.proofs.read.read_element.Goals as goal

pub returns-in-Ok-own-clause-spelled : goal.returns-in-Ok-own-clause-spelled
returns-in-Ok-own-clause-spelled c = λ tree spells. c.in-Ok-own.ensures ∙ c.in-Ok.ensures.spelled tree spells
