use Rattle.std.proofs.Common.{rules, arith, ap, refl, ◌-◌, length}
use Rattle.line_world.specs.FloorPlan.{FloorPlan}
use Rattle.line_world.proofs.Counting.{along_same_machine, counted_set}
use Rattle.line_world.proofs.floor.Floor.read_all.Goals as goal

pub invariant_of-self : goal.invariant_of-self
invariant_of-self c =
    let machines = ap (λ (plan : FloorPlan). length plan.machines) c.self.view_is in
    counted_set _ _ c.self.inside.boards _ _ c.index_mut.result.now _ c.self.invariant (omega arith) (search rules) (rw c.read_all.ensures.boards refl)

pub returns-clause-boards : goal.returns-clause-boards
returns-clause-boards c = rw (← c.self.view_is) (along_same_machine c.self.inside.machines.items c.self.inside.gaps.items (c.args.machine - 1) c.read_all.new.self c.index_mut.result.now (search rules) c.read_all.ensures.boards)
