use Rattle.std.proofs.Common.{rules, ◌≡◌, ◌++◌, ◌∷◌, [], ◌<◌, length}
use Rattle.line_world.specs.FloorPlan.{empty_machine, free_gap}
use Rattle.line_world.proofs.Counting.{counted_more}
use Rattle.line_world.proofs.floor.Floor.add_machine.Goals as goal

pub invariant_of-self-then-not-is_first : goal.invariant_of-self-then-not-is_first
invariant_of-self-then-not-is_first c =
    let machines : c.push.new.self.items ≡ c.self.inside.machines.items ++ empty_machine ∷ [] = search rules in
    let gaps : c.push-then-not-is_first.new.self.items ≡ c.self.inside.gaps.items ++ free_gap ∷ [] = search rules in
    let some : 0 < length c.self.inside.machines.items = search rules in
    rw (machines, gaps) (counted_more _ _ _ c.self.invariant some)
