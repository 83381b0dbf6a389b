use Rattle.law_link_messages.proofs.Saying.{step_fits}
use Rattle.law_link_messages.proofs.laws.a_machine_says_what_is_fit.Goals as goal

pub returns : goal.returns
returns c = step_fits
