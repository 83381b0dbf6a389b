use Rattle.node_run.proofs.Configured.{port_told}
use Rattle.node_run.proofs.run.Run.refuse_port.Goals as goal

pub returns-clause-refuses : goal.returns-clause-refuses
returns-clause-refuses c =
    port_told c.say_config.result c.args.moment c.in_ok-refused.refused c.args.self.now c.drop_try.new.self c.say_config.new.self c.in_ok-refused.ensures c.drop_try.ensures c.say_config.ensures.said
