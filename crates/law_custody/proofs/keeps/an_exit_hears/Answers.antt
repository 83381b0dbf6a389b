use Rattle.law_custody.proofs.ExitEvents.{hears_ready, hears_revoke_ready, hears_stop}
use Rattle.law_custody.proofs.keeps.an_exit_hears.Goals as goal

pub returns-clause-ready : goal.returns-clause-ready
returns-clause-ready c = λ gone g l quality rest k. hears_ready g l quality rest k

pub returns-clause-revoked : goal.returns-clause-revoked
returns-clause-revoked c = λ gone g l rest k. hears_revoke_ready g l rest k

pub returns-clause-stop : goal.returns-clause-stop
returns-clause-stop c = λ gone g l s z rest k. hears_stop g l s z rest k
