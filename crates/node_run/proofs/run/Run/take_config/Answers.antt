use Rattle.node_run.proofs.Configured.{config_does}
use Rattle.node_run.proofs.run.Run.take_config.Goals as goal

pub returns-clause-does : goal.returns-clause-does
returns-clause-does c = config_does c.do_config.result c.in_ok-found.found c.args.moment c.args.self.now c.find_config.new.self c.do_config.new.self c.in_ok-found.ensures.hears c.in_ok-found.ensures.kept c.do_config.ensures.does
