use Rattle.line_base.specs.declared.states.Side.TheVariants.{Entry}
use Rattle.node_run.proofs.Configured.{left_taken}
use Rattle.node_run.proofs.run.Run.leave_upstream.Goals as goal

pub returns-clause-takes : goal.returns-clause-takes
returns-clause-takes c = left_taken c.step_unasked.result c.args.moment Entry c.args.self.now c.tell_upstream.new.self c.step_unasked.new.self c.in_ok-tell_upstream.ensures.leaves c.step_unasked.ensures.takes
