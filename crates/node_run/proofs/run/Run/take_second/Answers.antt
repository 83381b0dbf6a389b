use Rattle.node_run.proofs.Taking.{second_taken}
use Rattle.node_run.proofs.run.Run.take_second.Goals as goal

pub returns-clause-takes : goal.returns-clause-takes
returns-clause-takes c =
    second_taken c.tell_news.result c.args.moment c.in_ok-acts.acts c.list-told.result.now c.args.self.now c.step_silently.new.self c.refuse_with.new.self c.tell_news.new.self c.list-told.ensures c.step_silently.ensures.rules
    c.in_ok-acts.ensures.stepped c.in_ok-refuse_with.ensures.refuses c.tell_news.ensures.told
