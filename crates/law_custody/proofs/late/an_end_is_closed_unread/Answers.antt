use Rattle.law_custody.proofs.EntryEvents.{closes_unread as entry_closes}
use Rattle.law_custody.proofs.ExitEvents.{closes_unread as exit_closes, has_read}
use Rattle.law_custody.proofs.late.an_end_is_closed_unread.Goals as goal

pub returns-clause-entry : goal.returns-clause-entry
returns-clause-entry c = λ gone kept g l k behind. entry_closes g l k behind.entry

pub returns-clause-exit : goal.returns-clause-exit
returns-clause-exit c = λ gone g l k behind. exit_closes g l k (has_read g l behind)
