use Rattle.node_run.proofs.Taking.{describes}
use Rattle.node_run.proofs.run.Run.describe.Goals as goal

pub returns-clause-does : goal.returns-clause-does
returns-clause-does c =
    describes c.take.result c.args.moment c.in_ok-own.own c.args.self.now c.say.new.self c.take.new.self c.in_ok-own.ensures c.in_ok-say.ensures.rules c.in_ok-say.ensures.said c.take.ensures.takes
