use Rattle.machine_port.proofs.Supervising.{untaken_does}
use Rattle.machine_port.proofs.port.Port.take_answer.Goals as goal

pub returns-in-Err-clause-does : goal.returns-in-Err-clause-does
returns-in-Err-clause-does c =
    untaken_does c.tell_untaken.result _ c.in-Err.why c.args.moment c.args.query c.args.order c.args.self.now c.tell_untaken.new.self c.in-Err.ensures c.tell_untaken.ensures.said
