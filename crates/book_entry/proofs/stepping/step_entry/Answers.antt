use Rattle.book_entry.proofs.Given.{sensed_at}
use Rattle.book_entry.proofs.stepping.step_entry.Goals as goal

pub returns-clause-steps : goal.returns-clause-steps
returns-clause-steps c = sensed_at c.args.node.now c.args.entry.sensed c.list.result.now c.args.entry.input c.args.entry.moment c.step_own.new.node c.step_own.result c.list.ensures c.step_own.ensures.steps
