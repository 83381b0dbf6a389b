use Rattle.std.proofs.Common.{refl}
use Rattle.canonical_frames.proofs.row.behind_record.Goals as goal

pub returns : goal.returns
returns c = (c.in_ok-product.product.now, c.in_ok-product.ensures, (c.in_ok-top.top.now, c.in_ok-top.ensures, (c.in_ok-bottom.bottom.now, c.in_ok-bottom.ensures, (c.in_ok-length.length.now, c.in_ok-length.ensures, (c.in_ok-width.width.now, c.in_ok-width.ensures, (c.in_ok-thickness.thickness.now, c.in_ok-thickness.ensures, (c.in_ok-speed.speed.now, c.in_ok-speed.ensures, (c.in_ok-above.above.now, c.in_ok-above.ensures, (c.in_ok-below.below.now, c.in_ok-below.ensures, (c.in_ok-weight.weight.now, c.in_ok-weight.ensures, (c.in_ok-order.order.now, c.in_ok-order.ensures, (c.in_ok-batch.batch.now, c.in_ok-batch.ensures, refl))))))))))))
