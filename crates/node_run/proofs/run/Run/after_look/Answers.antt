use Rattle.node_run.proofs.Taking.{looked_after}
use Rattle.node_run.proofs.run.Run.after_look.Goals as goal

pub returns-clause-after : goal.returns-clause-after
returns-clause-after c = looked_after c.after_panel.result _ c.args.self.now c.note_look.new.self c.after_panel.new.self c.note_look.ensures c.after_panel.ensures.after
