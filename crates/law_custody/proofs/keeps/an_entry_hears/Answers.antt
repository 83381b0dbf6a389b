use Rattle.law_custody.proofs.EntryEvents.{hears_available, hears_finished, hears_revoke_available}
use Rattle.law_custody.proofs.keeps.an_entry_hears.Goals as goal

pub returns-clause-available : goal.returns-clause-available
returns-clause-available c = λ gone kept g l q rest k. hears_available g l q rest k

pub returns-clause-revoked : goal.returns-clause-revoked
returns-clause-revoked c = λ gone kept g l rest k. hears_revoke_available g l rest k

pub returns-clause-finished : goal.returns-clause-finished
returns-clause-finished c = λ gone kept g l s z rest k. hears_finished g l s z rest k
