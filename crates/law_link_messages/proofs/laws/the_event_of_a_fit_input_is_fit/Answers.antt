use Rattle.law_link_messages.proofs.Eventing.{event_of_fits, maker_stays_fit}
use Rattle.law_link_messages.proofs.laws.the_event_of_a_fit_input_is_fit.Goals as goal

pub returns : goal.returns
returns c = λ maker input words small given heard. (event_of_fits maker input words small given heard, maker_stays_fit input maker small)
