use Rattle.law_running_logs.proofs.LedgerExample.{tells_an_insertion}
use Rattle.law_running_logs.proofs.ledger.what_new_machines_tell.Goals as goal

pub returns : goal.returns
returns c = tells_an_insertion
