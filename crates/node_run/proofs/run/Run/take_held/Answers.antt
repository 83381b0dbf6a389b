use Rattle.node_run.proofs.Taking.{held_taken}
use Rattle.node_run.proofs.run.Run.take_held.Goals as goal

pub returns-in-Some-clause-takes : goal.returns-in-Some-clause-takes
returns-in-Some-clause-takes c =
    held_taken c.take_found.result c.args.moment _ c.args.self.now c.release.new.self c.take_found.new.self c.in-Some.ensures.found c.in-Some.ensures.left c.take_found.ensures.takes
