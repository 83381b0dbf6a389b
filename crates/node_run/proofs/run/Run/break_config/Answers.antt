use Rattle.node_run.proofs.Configured.{notice_broken}
use Rattle.node_run.proofs.run.Run.break_config.Goals as goal

pub returns-clause-breaks : goal.returns-clause-breaks
returns-clause-breaks c =
    notice_broken c.args.text c.config_notice.result c.args.moment c.args.self.now c.say_config.new.self c.end_config.new.self c.config_notice.ensures c.in_ok-say_config.ensures.said c.end_config.ensures
