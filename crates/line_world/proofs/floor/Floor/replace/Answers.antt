use Rattle.std.proofs.Common.{rules, arith, ap, ◌-◌, length}
use Rattle.std.specs.Prelude.{slice_set}
use Rattle.line_world.specs.FloorPlan.{FloorPlan}
use Rattle.line_world.proofs.Counting.{counted_set}
use Rattle.line_world.proofs.Placing.{along_changes, changes_place, on_true_then}
use Rattle.line_world.proofs.floor.Floor.replace.Goals as goal

pub invariant_of-self : goal.invariant_of-self
invariant_of-self c =
    let machines = ap (λ (plan : FloorPlan). length plan.machines) c.self.view_is in
    counted_set _ _ c.self.inside.boards _ _ c.index_mut.result.now _ c.self.invariant (omega arith) (search rules) (omega (arith, c.replace.ensures.as_many))

pub returns-clause-boards : goal.returns-clause-boards
returns-clause-boards c =
    let machines = ap (λ (plan : FloorPlan). length plan.machines) c.self.view_is in
    rw (← c.self.view_is) (on_true_then c.replace.result c.replace.ensures.changed (λ change. along_changes c.self.inside.machines.items c.self.inside.gaps.items (c.args.machine - 1) c.replace.new.self c.index_mut.result.now c.args.old c.args.new (omega arith) (search rules) change))

pub returns-clause-places : goal.returns-clause-places
returns-clause-places c =
    let machines = ap (λ (plan : FloorPlan). length plan.machines) c.self.view_is in
    rw (← c.self.view_is) (on_true_then c.replace.result c.replace.ensures.changed (λ change. changes_place c.args.old c.args.new (record { machines = c.self.inside.machines.items; gaps = c.self.inside.gaps.items }) (record { machines = slice_set c.self.inside.machines.items (c.args.machine - 1) c.replace.new.self; gaps = c.self.inside.gaps.items }) (along_changes c.self.inside.machines.items c.self.inside.gaps.items (c.args.machine - 1) c.replace.new.self c.index_mut.result.now c.args.old c.args.new (omega arith) (search rules) change)))
