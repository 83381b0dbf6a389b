use Rattle.std.proofs.Common.{◌<◌, arith}
use Rattle.book_entry.proofs.Numbers.{product_fits, value_fits, value_grows}
use Rattle.book_entry.proofs.number.joined.Goals as goal

pub overflow_mul-result : goal.overflow_mul-result
overflow_mul-result c = record { fits = product_fits c.args.high c.args.width c.requires.some c.requires.room }

pub overflow_add-result : goal.overflow_add-result
overflow_add-result c =
    let is = c.from.ensures in
    let small : c.from.result < 256 = omega (arith, is, c.ranges.byte.fits) in
    record { fits = value_fits c.args.high c.args.width c.from.result c.requires.some small c.requires.room }

pub returns-clause-room : goal.returns-clause-room
returns-clause-room c =
    let is = c.from.ensures in
    let small : c.from.result < 256 = omega (arith, is, c.ranges.byte.fits) in
    value_grows c.args.high c.args.width c.from.result c.requires.some small c.requires.room
