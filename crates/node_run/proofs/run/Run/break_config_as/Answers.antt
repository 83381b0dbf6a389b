use Rattle.std.proofs.Common.{◌∙◌}
use Rattle.node_run.proofs.Configured.{text_broken}
use Rattle.node_run.proofs.run.Run.break_config_as.Goals as goal

pub returns-clause-breaks : goal.returns-clause-breaks
returns-clause-breaks c =
    text_broken c.break_config.result c.in_ok-text.text c.args.text.now c.args.moment c.args.self.now.state c.break_config.new.self.state (c.in_ok-text.ensures ∙ c.as_bytes.ensures.value) c.break_config.ensures.breaks
