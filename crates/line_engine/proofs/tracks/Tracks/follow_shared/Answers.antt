use Rattle.line_engine.proofs.Besides.{none_shared}
use Rattle.line_engine.proofs.tracks.Tracks.follow_shared.Goals as goal

pub returns-in-None : goal.returns-in-None
returns-in-None c = none_shared c.args.machine c.args.shared.now c.args.self.now c.in-None.is
