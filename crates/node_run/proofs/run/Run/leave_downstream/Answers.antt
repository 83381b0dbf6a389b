use Rattle.line_base.specs.declared.states.Side.TheVariants.{Exit}
use Rattle.node_run.proofs.Configured.{left_taken}
use Rattle.node_run.proofs.run.Run.leave_downstream.Goals as goal

pub returns-clause-takes : goal.returns-clause-takes
returns-clause-takes c = left_taken c.step_unasked.result c.args.moment Exit c.args.self.now c.tell_downstream.new.self c.step_unasked.new.self c.in_ok-tell_downstream.ensures.leaves c.step_unasked.ensures.takes
