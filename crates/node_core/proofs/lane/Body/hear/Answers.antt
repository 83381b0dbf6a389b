use Rattle.node_core.proofs.Rowing.{hears_row}
use Rattle.node_core.proofs.lane.Body.hear.Goals as goal

pub returns-in-Ok-clause-body : goal.returns-in-Ok-clause-body
returns-in-Ok-clause-body c = rw (hears_row c.args.desk.now c.args.side c.args.message c.in_ok-what.what c.args.self.now c.session_hears.new.self c.in-Ok.actions c.in_ok-what.ensures c.in-Ok.ensures.row c.in-Ok.ensures.body) c.take.ensures.body

pub returns-in-Ok-clause-acts : goal.returns-in-Ok-clause-acts
returns-in-Ok-clause-acts c = rw (hears_row c.args.desk.now c.args.side c.args.message c.in_ok-what.what c.args.self.now c.session_hears.new.self c.in-Ok.actions c.in_ok-what.ensures c.in-Ok.ensures.row c.in-Ok.ensures.body) c.take.ensures.acts
