use Rattle.node_run.proofs.Taking.{greeted}
use Rattle.node_run.proofs.run.Run.greet_panel.Goals as goal

pub returns-clause-after : goal.returns-clause-after
returns-clause-after c =
    greeted c.echo.result c.args.self.now c.set_wire.new.self c.write_greeting.new.self c.echo.new.self c.requires.wire c.requires.told c.set_wire.ensures c.in_ok-write_greeting.ensures.told c.echo.ensures.echoed
