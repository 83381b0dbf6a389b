use Rattle.std.specs.List.{flat_map}
use Rattle.std.proofs.Common.{[], ◌≡◌, ◌++◌, ◌+◌, ◌<◌, length, sym, ◌∙◌, ap, arith, drop, append-nil, get_or}
use Rattle.std.proofs.lemmas.Grind.{common_steps}
use Rattle.std.proofs.lemmas.Bool.Decides.{nat_tests}
use Rattle.std.proofs.lemmas.List.{drop_all}
use Rattle.std.proofs.lemmas.Result.{on_ok_weaker}
use Rattle.hermes_element.specs.Element.{Tree, trees_of, forest_of, tree_size, forest_size}
use Rattle.hermes_element.specs.Canonical.{canonical_forest, canonical_attribute}
use Rattle.hermes_element.proofs.Forests.{smaller_child}
use Rattle.hermes_element.proofs.Writing.{written_full}
use Rattle.hermes_element.proofs.write.+append_element.Goals as goal

pub append_element-requires : goal.append_element-requires
append_element-requires t c =
    let items = c.list-children.ensures in
    let inside : c.loop-child.child-index < length (trees_of c.element.inside.children) = omega (arith, ap length items, c.loop-child-test.true) in
    let small = smaller_child c.element.inside.children c.loop-child.child-index c.child-item.result inside in
    let same : c.child-item.result ≡ get_or (trees_of c.element.inside.children) c.loop-child.child-index c.child-item.result =
    c.child-item.is ∙ ap (λ xs. get_or xs c.loop-child.child-index c.child-item.result) items in
    let size : tree_size c.child-item.result < forest_size c.element.inside.children = omega (arith, ap tree_size same, small) in
    let whole : tree_size c.args.element.now ≡ forest_size c.element.inside.children + 1 = sym (ap tree_size c.element.view_is) in
    (omega (arith, size, whole, c.decreases), tt)

pub returns : goal.returns
returns t c =
    let items = c.list-children.ensures in
    let name_is = ap (λ (e : Tree). e.name) c.element.view_is in
    let attributes_are = ap (λ (e : Tree). e.attributes) c.element.view_is in
    let children_are = ap (λ (e : Tree). e.children) c.element.view_is in
    let over : drop c.loop-child.child-index c.list-children.result.now ≡ [] = drop_all c.loop-child.child-index c.list-children.result.now c.loop-child-test.false in
    let children : trees_of c.args.element.now.children ≡ c.list-children.result.now = sym (items ∙ ap trees_of children_are) in
    let there : 0 < length c.list-children.result.now = grind (arith, common_steps, nat_tests, c.if-is_empty.ensures) in
    let some : 0 < length (trees_of c.args.element.now.children) = omega (arith, there, ap length children) in
    let inner : c.loop-child.to.items ≡ c.append-3.new.to.items ++ canonical_forest (forest_of (trees_of c.args.element.now.children)) =
    sym (append-nil c.loop-child.to.items) ∙ ap (λ f. c.loop-child.to.items ++ canonical_forest (forest_of f)) (sym over) ∙ c.loop-child.invariant ∙ ap (λ f. c.append-3.new.to.items ++ canonical_forest (forest_of f)) (sym children) in
    on_ok_weaker c.append-6.result
    (λ end. written_full c.args.element.now c.args.to.now.items c.append.new.to.items c.append-2.new.to.items c.append_attributes.new.to.items c.append-3.new.to.items
    c.loop-child.to.items c.append-4.new.to.items c.append-5.new.to.items c.append-6.new.to.items some
    c.in_ok-append.ensures.written
    (c.in_ok-append-2.ensures.written ∙ ap (λ n. c.append.new.to.items ++ n) (c.bytes.ensures.bytes ∙ name_is))
    (c.in_ok-append_attributes.ensures ∙ ap (λ a. c.append-2.new.to.items ++ flat_map canonical_attribute a) (c.list.ensures ∙ attributes_are))
    c.in_ok-append-3.ensures.written inner c.in_ok-append-4.ensures.written
    (c.in_ok-append-5.ensures.written ∙ ap (λ n. c.append-4.new.to.items ++ n) (c.bytes-2.ensures.bytes ∙ name_is)) end)
    c.append-6.ensures.written
