use Rattle.std.proofs.Common.{◌<◌, ◌≡◌, ◌∙◌, arith, eqb-true, length, sym}
use Rattle.std.proofs.lemmas.Bool.{eqb-false}
use Rattle.book_entry.proofs.Numbers.{value_end, value_filled, value_more}
use Rattle.book_entry.proofs.number.+front_value.Goals as goal

pub returns-then-width-eq0 : goal.returns-then-width-eq0
returns-then-width-eq0 t c = value_end c.args.filler c.args.width c.args.high c.args.bytes.now c.if-width-eq0.true

pub returns-then-is_empty : goal.returns-then-is_empty
returns-then-is_empty t c =
    let none : length c.args.bytes.now ≡ 0 = eqb-true (length c.args.bytes.now) 0 (sym c.is_empty.ensures ∙ c.if-is_empty.true) in
    c.front_value.ensures
    ∙ value_filled c.args.filler c.args.width c.args.high c.joined.result c.args.bytes.now (omega arith) none c.joined.ensures.value

pub returns : goal.returns
returns t c =
    let some = eqb-false (length c.args.bytes.now) 0 (sym c.is_empty.ensures ∙ c.if-is_empty.false) in
    let there : 0 < length c.args.bytes.now = omega (arith, some) in
    c.front_value-2.ensures
    ∙ value_more c.args.filler c.args.width c.args.high c.joined-2.result c.args.bytes.now c.behind.result.now (omega arith) there c.joined-2.ensures.value c.behind.ensures
