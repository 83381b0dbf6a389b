use Rattle.law_custody.proofs.ExitEvents.{has_read, hears_downstream_unread, hears_ready_unread, hears_revoke_ready_unread, hears_stop_unread}
use Rattle.law_custody.proofs.late.an_exit_hears_unread.Goals as goal

pub returns-clause-ready : goal.returns-clause-ready
returns-clause-ready c = λ gone g l quality rest k. hears_ready_unread g l quality rest k

pub returns-clause-revoked : goal.returns-clause-revoked
returns-clause-revoked c = λ gone g l rest k. hears_revoke_ready_unread g l rest k

pub returns-clause-stop : goal.returns-clause-stop
returns-clause-stop c = λ gone g l s z rest k behind. hears_stop_unread g l s z rest k (has_read g l behind)

pub returns-clause-answered : goal.returns-clause-answered
returns-clause-answered c = λ g l service answer rest k x free. hears_downstream_unread g l service answer rest k x free
