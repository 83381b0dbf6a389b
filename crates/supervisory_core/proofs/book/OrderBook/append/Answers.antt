use Rattle.std.proofs.Common.{◌≡◌, false, ap, ◌∙◌}
use Rattle.supervisory_core.specs.Orders.{is_full}
use Rattle.supervisory_core.proofs.Counting.{more_wait}
use Rattle.supervisory_core.proofs.book.OrderBook.append.Goals as goal

pub invariant_of-self : goal.invariant_of-self
invariant_of-self c =
    let room : is_full c.self.inside.orders.items ≡ false = ap is_full c.self.view_is ∙ c.requires in
    more_wait c.self.inside.orders.items c.args.question c.self.inside.waiting c.push.new.self.items room c.self.invariant c.in-Ok.ensures.items
