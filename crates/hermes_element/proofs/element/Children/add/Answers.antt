use Rattle.std.proofs.Common.{◌≡◌, ◌≤◌, ◌∙◌, ap, arith}
use Rattle.hermes_element.specs.Element.{Tree}
use Rattle.hermes_element.specs.Canonical.{depth_of}
use Rattle.hermes_element.proofs.Depths.{levels_more}
use Rattle.hermes_element.proofs.element.Children.add.Goals as goal

pub invariant_of-self-2 : goal.invariant_of-self-2
invariant_of-self-2 c =
    let below : c.levels-levels.result ≡ depth_of c.args.child.children = c.levels-levels.ensures.levels ∙ ap (λ (tree : Tree). depth_of tree.children) c.child.view_is in
    let few : c.levels-levels.result ≤ 2 = omega (arith, below, c.requires) in
    rw (c.in-Ok.ensures.items, c.max-self-inside.ensures) (levels_more c.self.inside.list.items c.args.child c.self.inside.levels c.levels-levels.result c.self.invariant below few)
