use Rattle.law_custody.proofs.EntryEvents.{hears_available_unread, hears_finished_unread, hears_revoke_available_unread}
use Rattle.law_custody.proofs.late.an_entry_hears_unread.Goals as goal

pub returns-clause-available : goal.returns-clause-available
returns-clause-available c = λ gone kept g l q rest k. hears_available_unread g l q rest k

pub returns-clause-revoked : goal.returns-clause-revoked
returns-clause-revoked c = λ gone kept g l rest k. hears_revoke_available_unread g l rest k

pub returns-clause-finished : goal.returns-clause-finished
returns-clause-finished c = λ gone kept g l s z rest k behind read. hears_finished_unread g l s z rest k behind.entry read
