use Rattle.restart_book.proofs.Replaying.{refuses_found}
use Rattle.restart_book.proofs.replay.step_next.Goals as goal

pub returns-in-Err-NotPossible-clause-next : goal.returns-in-Err-NotPossible-clause-next
returns-in-Err-NotPossible-clause-next c = refuses_found c.args.node.now c.args.drives.now c.args.bytes.now c.in-Ok.entry c.in-Ok.size c.step_found.new.node c.step_found.new.drives c.in-Err-NotPossible.field-0 c.in-Err-NotPossible.field-0-is c.in-Ok.ensures.answer c.in-Err-NotPossible.ensures.steps
