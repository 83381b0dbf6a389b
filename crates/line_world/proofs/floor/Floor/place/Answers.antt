use Rattle.std.proofs.Common.{rules, arith, ap, ◌-◌, length}
use Rattle.line_world.specs.FloorPlan.{FloorPlan}
use Rattle.line_world.proofs.Counting.{along_gains, counted_set, length_lost}
use Rattle.line_world.proofs.Placing.{gains_place}
use Rattle.line_world.proofs.floor.Floor.place.Goals as goal

pub invariant_of-self-2 : goal.invariant_of-self-2
invariant_of-self-2 c =
    let machines = ap (λ (plan : FloorPlan). length plan.machines) c.self.view_is in
    counted_set _ _ c.self.inside.boards _ _ c.index_mut.result.now _ c.self.invariant (omega arith) (search rules) (omega (arith, length_lost c.in_ok-place.ensures.gained))

pub returns-clause-boards : goal.returns-clause-boards
returns-clause-boards c =
    let machines = ap (λ (plan : FloorPlan). length plan.machines) c.self.view_is in
    rw (← c.self.view_is) (along_gains c.self.inside.machines.items c.self.inside.gaps.items (c.args.machine - 1) _ c.index_mut.result.now _ (omega arith) (search rules) c.in_ok-place.ensures.gained)

pub returns-clause-places : goal.returns-clause-places
returns-clause-places c =
    let machines = ap (λ (plan : FloorPlan). length plan.machines) c.self.view_is in
    rw (← c.self.view_is) (gains_place _ _ _ (along_gains c.self.inside.machines.items c.self.inside.gaps.items (c.args.machine - 1) _ c.index_mut.result.now _ (omega arith) (search rules) c.in_ok-place.ensures.gained))
