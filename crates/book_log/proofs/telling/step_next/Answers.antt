use Rattle.book_log.proofs.Lines.{found_next}
use Rattle.book_log.proofs.telling.step_next.Goals as goal

pub returns-in-Ok-clause-next : goal.returns-in-Ok-clause-next
returns-in-Ok-clause-next c = found_next c.args.node.now c.args.bytes.now c.in-Ok.entry c.in-Ok.size c.args.at c.step_found.new.node c.step_found.result c.in-Ok.ensures.answer c.step_found.ensures.steps
