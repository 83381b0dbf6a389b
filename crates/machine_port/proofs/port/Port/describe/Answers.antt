use Rattle.machine_port.proofs.Supervising.{describes}
use Rattle.machine_port.proofs.port.Port.describe.Goals as goal

pub returns-clause-does : goal.returns-clause-does
returns-clause-does c =
    describes c.supervise.result c.args.moment c.in_ok-own.own c.args.self.now c.say.new.self c.supervise.new.self c.in_ok-own.ensures c.in_ok-say.ensures.said c.supervise.ensures.takes
