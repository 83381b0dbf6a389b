use Rattle.machine_port.proofs.Supervising.{session_breaks}
use Rattle.machine_port.proofs.port.Port.break_off.Goals as goal

pub returns-clause-breaks : goal.returns-clause-breaks
returns-clause-breaks c =
    session_breaks c.end_supervision.result c.args.text c.notification.result c.args.moment c.args.self.now c.say.new.self c.end_session.new.self c.end_supervision.new.self c.notification.ensures c.in_ok-say.ensures.said
    c.end_session.ensures c.end_supervision.ensures.ends
