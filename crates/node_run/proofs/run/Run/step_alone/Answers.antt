use Rattle.node_run.proofs.Taking.{alone_taken}
use Rattle.node_run.proofs.run.Run.step_alone.Goals as goal

pub returns-clause-steps : goal.returns-clause-steps
returns-clause-steps c = alone_taken c.args.moment c.args.input _ c.args.self.now c.step_silently.new.self c.in_ok-step_silently.ensures.stepped
