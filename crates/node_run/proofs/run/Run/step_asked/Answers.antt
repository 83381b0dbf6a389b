use Rattle.node_run.proofs.Taking.{asked_taken}
use Rattle.node_run.proofs.run.Run.step_asked.Goals as goal

pub returns-clause-takes : goal.returns-clause-takes
returns-clause-takes c =
    asked_taken c.echo.result c.args.moment c.args.sensed.now c.args.input c.in_ok-acts.acts c.list.result.now c.args.self.now c.step_silently.new.self c.route.new.self c.echo.new.self c.list.ensures c.in_ok-acts.ensures.stepped
    c.in_ok-route.ensures.routed c.echo.ensures.echoed
