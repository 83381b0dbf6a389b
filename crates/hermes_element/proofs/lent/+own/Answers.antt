use Rattle.std.proofs.Common.{◌≡◌, ◌<◌, ◌≤◌, ◌+◌, ◌++◌, drop, length, get_or, ap, ◌∙◌, arith}
use Rattle.std.proofs.lemmas.List.{drop_all}
use Rattle.hermes_element.specs.Element.{Tree, trees_of, tree_size, forest_size}
use Rattle.hermes_element.specs.Canonical.{depth_of}
use Rattle.hermes_element.proofs.Forests.{smaller_child, takes_tree, took_trees}
use Rattle.hermes_element.proofs.Depths.{shallow_child}
use Rattle.hermes_element.proofs.lent.+own.Goals as goal

pub LentChildren::own-own-requires : goal.LentChildren::own-own-requires
LentChildren::own-own-requires t c =
    let items = c.list-child-items.ensures in
    let inside : c.loop-child.child-index < length (trees_of c.args.self.now) = omega (arith, ap length items, c.loop-child-test.true) in
    let small = smaller_child c.args.self.now c.loop-child.child-index c.child-item.result inside in
    let shallow = shallow_child c.args.self.now c.loop-child.child-index c.child-item.result inside in
    let same : c.child-item.result ≡ get_or (trees_of c.args.self.now) c.loop-child.child-index c.child-item.result =
    c.child-item.is ∙ ap (λ xs. get_or xs c.loop-child.child-index c.child-item.result) items in
    let size : tree_size c.child-item.result < forest_size c.args.self.now = omega (arith, ap tree_size same, small) in
    let levels : depth_of c.child-item.result.children ≤ 3 = omega (arith, ap (λ (tree : Tree). depth_of tree.children) same, shallow, c.requires) in
    (omega (arith, size, c.decreases), levels)

pub LentChildren::own-add-requires : goal.LentChildren::own-add-requires
LentChildren::own-add-requires t c =
    let items = c.list-child-items.ensures in
    let inside : c.loop-child.child-index < length (trees_of c.args.self.now) = omega (arith, ap length items, c.loop-child-test.true) in
    let shallow = shallow_child c.args.self.now c.loop-child.child-index c.child-item.result inside in
    let same : c.in_ok-own.field-0 ≡ get_or (trees_of c.args.self.now) c.loop-child.child-index c.child-item.result =
    c.in_ok-own.ensures ∙ c.child-item.is ∙ ap (λ xs. get_or xs c.loop-child.child-index c.child-item.result) items in
    omega (arith, ap (λ (tree : Tree). depth_of tree.children) same, shallow, c.requires)

pub LentChildren::own-loop-child-preserved : goal.LentChildren::own-loop-child-preserved
LentChildren::own-loop-child-preserved t c =
    ap (λ children. trees_of children ++ drop (c.loop-child.child-index + 1) c.list-child-items.result.now) c.in_ok-add.ensures.ok
    ∙ takes_tree c.loop-child.children c.list-child-items.result.now c.loop-child.child-index c.in_ok-own.field-0 c.child-item.result c.loop-child-test.true (c.in_ok-own.ensures ∙ c.child-item.is) c.loop-child.invariant

pub LentChildren::own-returns : goal.LentChildren::own-returns
LentChildren::own-returns t c =
    took_trees c.loop-child.children c.args.self.now c.list-child-items.result.now c.loop-child.child-index
    (drop_all c.loop-child.child-index c.list-child-items.result.now c.loop-child-test.false) c.loop-child.invariant c.list-child-items.ensures
