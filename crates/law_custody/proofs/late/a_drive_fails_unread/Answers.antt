use Rattle.law_custody.proofs.EntryEvents.{fails_unread as entry_fails}
use Rattle.law_custody.proofs.ExitEvents.{fails_unread as exit_fails, has_read}
use Rattle.law_custody.proofs.late.a_drive_fails_unread.Goals as goal

pub returns-clause-exit : goal.returns-clause-exit
returns-clause-exit c = λ gone g l k behind. exit_fails g l k (has_read g l behind)

pub returns-clause-entry : goal.returns-clause-entry
returns-clause-entry c = λ gone kept g l k behind. entry_fails g l k behind.entry
