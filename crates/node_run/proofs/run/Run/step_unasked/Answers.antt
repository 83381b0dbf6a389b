use Rattle.node_run.proofs.Taking.{unasked_taken}
use Rattle.node_run.proofs.run.Run.step_unasked.Goals as goal

pub returns-clause-takes : goal.returns-clause-takes
returns-clause-takes c =
    unasked_taken c.tell_news.result c.args.moment c.args.input c.in_ok-acts.acts c.list-told.result.now c.args.self.now c.step_silently.new.self c.route.new.self c.tell_news.new.self c.list-told.ensures c.step_silently.ensures.rules
    c.in_ok-acts.ensures.stepped c.in_ok-route.ensures.routed c.tell_news.ensures.told
