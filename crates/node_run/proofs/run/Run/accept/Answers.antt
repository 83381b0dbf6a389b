use Rattle.node_run.proofs.Configured.{settled_said}
use Rattle.node_run.proofs.run.Run.accept.Goals as goal

pub returns-clause-accepts : goal.returns-clause-accepts
returns-clause-accepts c = settled_said c.say_config.result c.args.moment c.args.settings c.args.self.now c.settle.new.self c.say_config.new.self c.settle.ensures.settled c.settle.ensures.sides c.say_config.ensures.said
