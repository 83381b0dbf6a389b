use Rattle.std.proofs.Common.{◌∙◌}
use Rattle.machine_port.proofs.Supervising.{text_breaks}
use Rattle.machine_port.proofs.port.Port.break_off_as.Goals as goal

pub returns-clause-breaks : goal.returns-clause-breaks
returns-clause-breaks c =
    text_breaks c.break_off.result c.in_ok-text.text c.args.text.now c.args.moment c.args.self.now c.break_off.new.self (c.in_ok-text.ensures ∙ c.as_bytes.ensures.value) c.break_off.ensures.breaks
