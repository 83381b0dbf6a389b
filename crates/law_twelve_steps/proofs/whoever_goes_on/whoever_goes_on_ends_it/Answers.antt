use Rattle.law_twelve_steps.proofs.Walking.{whoever_ends}
use Rattle.law_twelve_steps.proofs.whoever_goes_on.whoever_goes_on_ends_it.Goals as goal

pub returns : goal.returns
returns c = whoever_ends c.an_undisturbed_handover_ends_within_twelve_link_steps.ensures
