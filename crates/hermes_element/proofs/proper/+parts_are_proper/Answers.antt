use Rattle.std.proofs.Common.{List, [], ◌≡◌, ◌∙◌, ◌+◌, ◌<◌, length, sym, ap, subst, arith, drop, get_or}
use Rattle.std.specs.List.{AllByRecursion}
use Rattle.std.proofs.lemmas.List.{drop_all}
use Rattle.hermes_element.specs.declared.attribute.Attribute.{Attribute}
use Rattle.hermes_element.specs.Element.{Tree, trees_of, forest_of, tree_size, forest_size}
use Rattle.hermes_element.specs.Canonical.{IsProper, IsProperAttribute, HaveProperTags}
use Rattle.hermes_element.proofs.Forests.{forest_of-trees_of, smaller_child}
use Rattle.hermes_element.proofs.proper.+parts_are_proper.Goals as goal

pub parts_are_proper-requires : goal.parts_are_proper-requires
parts_are_proper-requires t c =
    let items = c.list-children.ensures in
    let inside : c.loop-child.child-index < length (trees_of c.element.inside.children) = omega (arith, ap length items, c.loop-child-test.true) in
    let small = smaller_child c.element.inside.children c.loop-child.child-index c.child-item.result inside in
    let same : c.child-item.result ≡ get_or (trees_of c.element.inside.children) c.loop-child.child-index c.child-item.result =
    c.child-item.is ∙ ap (λ xs. get_or xs c.loop-child.child-index c.child-item.result) items in
    let size : tree_size c.child-item.result < forest_size c.element.inside.children = omega (arith, ap tree_size same, small) in
    let whole : tree_size c.args.element.now ≡ forest_size c.element.inside.children + 1 = sym (ap tree_size c.element.view_is) in
    (omega (arith, size, whole, c.decreases), tt)

pub returns : goal.returns
returns t c =
    let trees = c.list-children.result.now in
    let over : drop c.loop-child.child-index trees ≡ [] = drop_all c.loop-child.child-index trees c.loop-child-test.false in
    let shown = c.loop-child.invariant (subst (λ (rest : List Tree). HaveProperTags (forest_of rest)) (sym over) tt) in
    let same : forest_of trees ≡ c.element.inside.children = ap forest_of c.list-children.ensures ∙ forest_of-trees_of c.element.inside.children in
    subst IsProper c.element.view_is (record {
      own = record { named = c.bytes-name.ensures.name; each = subst (λ (list : List Attribute). AllByRecursion IsProperAttribute list) c.list.ensures c.attributes_are_proper.ensures };
      below = subst HaveProperTags same shown;
    })
