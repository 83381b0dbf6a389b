use Rattle.node_run.proofs.Taking.{untaken_does}
use Rattle.node_run.proofs.run.Run.take_answer.Goals as goal

pub returns-in-Err-clause-does : goal.returns-in-Err-clause-does
returns-in-Err-clause-does c =
    untaken_does c.tell_untaken.result _ c.in-Err.why c.args.moment c.args.query c.args.order c.args.self.now c.tell_untaken.new.self c.in-Err.ensures c.tell_untaken.ensures.told c.requires c.tell_untaken.ensures.said
