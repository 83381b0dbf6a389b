use Rattle.std.proofs.Common.{rules, ◌-◌}
use Rattle.line_world.proofs.Counting.{along_same_gap, counted_set_gap}
use Rattle.line_world.proofs.floor.Floor.set_drive.Goals as goal

pub invariant_of-self : goal.invariant_of-self
invariant_of-self c = counted_set_gap _ _ _ _ _ c.index_mut.result.now c.self.invariant (search rules) c.set_drive.ensures.lies

pub returns-clause-boards : goal.returns-clause-boards
returns-clause-boards c = rw (← c.self.view_is) (along_same_gap c.self.inside.machines.items c.self.inside.gaps.items (c.args.gap - 1) c.set_drive.new.self c.index_mut.result.now (search rules) c.set_drive.ensures.lies)
