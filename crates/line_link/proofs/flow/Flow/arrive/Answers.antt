use Rattle.std.proofs.Common.{◌+◌}
use Rattle.line_link.proofs.Reaching.{begun_by}
use Rattle.line_link.proofs.flow.Flow.arrive.Goals as goal

pub invariant_of-self : goal.invariant_of-self
invariant_of-self c = begun_by _ (c.self.inside.arrived + c.args.count) c.self.inside.texts c.reach-self-inside.ensures
