use Rattle.std.proofs.Common.{◌≡◌, ◌-◌, ◌<◌, ◌∷◌, length, get_or, set, ap, ◌∙◌, arith}
use Rattle.hermes_element.specs.Element.{Tree, add}
use Rattle.hermes_element.proofs.Roots.{add_last-set, add_last-below}
use Rattle.hermes_element.proofs.document.add_last.Goals as goal

pub returns-in-Ok-push : goal.returns-in-Ok-push
returns-in-Ok-push c =
    let root = c.args.root.now in
    let items = c.args.stack.now.items in
    let parent = c.index_mut.result.now in
    let inside = c.behind-stack.inside in
    let last_is : length c.as_slice-count.result.now - 1 ≡ length items - 1 = ap (λ l. length l - 1) c.as_slice-count.ensures.value in
    let parent_is : parent ≡ get_or items (length items - 1) parent = c.index_mut.ensures.value ∙ ap (λ k. get_or items k parent) last_is in
    let some : 0 < length items = omega (arith, ap length c.as_slice-count.ensures.value, c.if-count-eq0.false) in
    ap (λ l. root ∷ l) (
    ap (λ k. set items k (record { name = inside.name; at = inside.at; attributes = inside.attributes; children = c.push-2.new.self })) last_is
    ∙ ap (λ f. set items (length items - 1) (record { name = inside.name; at = inside.at; attributes = inside.attributes; children = f })) c.in-Ok-push.ensures.ok
    ∙ ap (λ (t : Tree). set items (length items - 1) (record t { children = add t.children c.args.element })) c.behind-stack.view_is
    ∙ add_last-set items parent c.args.element some parent_is
    )
    ∙ add_last-below root items c.args.element some
