use Rattle.std.proofs.Common.{rules, arith, ap, ◌-◌, length}
use Rattle.std.specs.Prelude.{slice_set}
use Rattle.line_world.specs.FloorPlan.{FloorPlan}
use Rattle.line_world.proofs.Counting.{along_loses, counted_set, counted_within, length_lost}
use Rattle.line_world.proofs.Placing.{loses_place}
use Rattle.line_world.proofs.floor.Floor.unseen_out.Goals as goal

pub overflow_sub-self : goal.overflow_sub-self
overflow_sub-self c =
    let machines = ap (λ (plan : FloorPlan). length plan.machines) c.self.view_is in
    let within = counted_within c.self.inside.machines.items c.self.inside.gaps.items c.self.inside.boards (c.args.machine - 1) c.index_mut.result.now c.self.invariant (omega arith) (search rules) in
    omega (arith, length_lost c.in_ok-board.ensures.lost, within)

pub invariant_of-self-2 : goal.invariant_of-self-2
invariant_of-self-2 c =
    let machines = ap (λ (plan : FloorPlan). length plan.machines) c.self.view_is in
    let within = counted_within c.self.inside.machines.items c.self.inside.gaps.items c.self.inside.boards (c.args.machine - 1) c.index_mut.result.now c.self.invariant (omega arith) (search rules) in
    counted_set _ _ c.self.inside.boards _ _ c.index_mut.result.now _ c.self.invariant (omega arith) (search rules) (omega (arith, length_lost c.in_ok-board.ensures.lost, within))

pub returns-clause-boards : goal.returns-clause-boards
returns-clause-boards c =
    let machines = ap (λ (plan : FloorPlan). length plan.machines) c.self.view_is in
    rw (← c.self.view_is) (along_loses c.self.inside.machines.items c.self.inside.gaps.items (c.args.machine - 1) _ c.index_mut.result.now _ (omega arith) (search rules) c.in_ok-board.ensures.lost)

pub returns-clause-places : goal.returns-clause-places
returns-clause-places c =
    let machines = ap (λ (plan : FloorPlan). length plan.machines) c.self.view_is in
    rw (← c.self.view_is) (loses_place (record { machines = c.self.inside.machines.items; gaps = c.self.inside.gaps.items }) (record { machines = slice_set c.self.inside.machines.items (c.args.machine - 1) c.take_front.new.self; gaps = c.self.inside.gaps.items }) c.in_ok-board.board (along_loses c.self.inside.machines.items c.self.inside.gaps.items (c.args.machine - 1) _ c.index_mut.result.now _ (omega arith) (search rules) c.in_ok-board.ensures.lost))
