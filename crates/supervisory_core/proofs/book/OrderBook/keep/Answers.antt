use Rattle.std.proofs.Common.{◌≡◌, List, Ok, ap, ◌∙◌}
use Rattle.supervisory_core.specs.declared.order.Order.{Order}
use Rattle.supervisory_core.specs.Orders.{answer_of, answered}
use Rattle.supervisory_core.proofs.Counting.{kept_as, some_wait, fewer_wait}
use Rattle.supervisory_core.proofs.book.OrderBook.keep.Goals as goal

pub overflow_sub-self : goal.overflow_sub-self
overflow_sub-self c =
    let taken : answer_of c.self.inside.orders.items c.args.query ≡ Ok tt = ap (λ (os : List Order). answer_of os c.args.query) c.self.view_is ∙ c.requires in
    some_wait c.self.inside.orders.items c.args.query c.self.inside.waiting taken c.self.invariant

pub invariant_of-self : goal.invariant_of-self
invariant_of-self c =
    let taken : answer_of c.self.inside.orders.items c.args.query ≡ Ok tt = ap (λ (os : List Order). answer_of os c.args.query) c.self.view_is ∙ c.requires in
    fewer_wait c.self.inside.orders.items c.args.query c.self.inside.waiting c.args.text _ taken c.self.invariant
    (kept_as c.self.inside.orders.items c.args.query c.args.text c.index_mut.result.now taken c.index_mut.ensures.value)

pub returns : goal.returns
returns c =
    let taken : answer_of c.self.inside.orders.items c.args.query ≡ Ok tt = ap (λ (os : List Order). answer_of os c.args.query) c.self.view_is ∙ c.requires in
    kept_as c.self.inside.orders.items c.args.query c.args.text c.index_mut.result.now taken c.index_mut.ensures.value
    ∙ ap (λ (os : List Order). answered os c.args.query c.args.text) c.self.view_is
