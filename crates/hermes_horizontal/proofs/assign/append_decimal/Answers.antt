use Rattle.std.proofs.Common.{◌<◌, ◌++◌, ap, ◌∙◌, arith}
use Rattle.std.proofs.lemmas.Result.{on_ok_weaker}
use Rattle.hermes_horizontal.specs.Values.{measured}
use Rattle.hermes_horizontal.proofs.Plain.{plain_decimal, spelled_plainly}
use Rattle.hermes_horizontal.proofs.assign.append_decimal.Goals as goal

pub returns-clause-written : goal.returns-clause-written
returns-clause-written c =
    let bounded : c.args.decimal < 1_000_000_000_000 = omega (arith, c.millionths-millionths.ensures.same, c.millionths-millionths.ensures.bounded) in
    on_ok_weaker c.append-2.result
    (λ end. spelled_plainly c.args.attr (measured c.args.decimal) c.args.to.now.items c.append.new.to.items c.write.new.to.items c.append-2.new.to.items
    (plain_decimal c.args.decimal bounded) (c.in_ok-append.ensures.written ∙ ap (λ x. c.args.to.now.items ++ x) (c.as_bytes.ensures.value ∙ c.opening.ensures)) c.in_ok-write.ensures.text end)
    c.append-2.ensures.written
