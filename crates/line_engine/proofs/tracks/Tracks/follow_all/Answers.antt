use Rattle.line_engine.proofs.Besides.{all_with}
use Rattle.line_engine.proofs.tracks.Tracks.follow_all.Goals as goal

pub returns : goal.returns
returns c = all_with c.args.span.first c.args.span.last c.args.shares.now c.args.self.now c.follow_machines.new.self c.follow_unvouched.new.self c.follow_machines.ensures c.follow_unvouched.ensures
