use Rattle.law_custody.proofs.ExitEvents.{described_contents, finds_a_handshake, holds_in_a_handshake}
use Rattle.law_custody.proofs.keeps.an_exit_hears_a_description.Goals as goal

pub returns-clause-handshake : goal.returns-clause-handshake
returns-clause-handshake c = λ g l service rest k o. finds_a_handshake g l service rest k o

pub returns-clause-contents : goal.returns-clause-contents
returns-clause-contents c = λ gone l service answer rest kept c. described_contents l service answer rest kept c

pub returns-clause-held : goal.returns-clause-held
returns-clause-held c = λ g l service rest q k x held. holds_in_a_handshake g l service rest q k x held
