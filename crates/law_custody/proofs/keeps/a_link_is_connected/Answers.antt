use Rattle.law_custody.proofs.LinkEvents.{call_contents, calls_upstream, taken_call_contents, takes_the_call}
use Rattle.law_custody.proofs.keeps.a_link_is_connected.Goals as goal

pub returns-clause-call : goal.returns-clause-call
returns-clause-call c = λ g l service k may x y. calls_upstream g l service k may x y

pub returns-clause-take : goal.returns-clause-take
returns-clause-take c = λ g l service rest k x y. takes_the_call g l service rest k x y

pub returns-clause-called_contents : goal.returns-clause-called_contents
returns-clause-called_contents c = λ gone l service kept c. call_contents l service kept c

pub returns-clause-taken_contents : goal.returns-clause-taken_contents
returns-clause-taken_contents c = λ gone g l service rest kept k y quiet. taken_call_contents g l service rest kept k y quiet
