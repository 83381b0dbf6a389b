use Rattle.std.proofs.Common.{arith, ◌++◌, ap, ◌∙◌}
use Rattle.std.proofs.lemmas.Result.{on_ok_weaker}
use Rattle.hermes_horizontal.specs.Values.{numbered}
use Rattle.hermes_horizontal.proofs.Plain.{plain_number, spelled_plainly}
use Rattle.hermes_horizontal.proofs.assign.put_number.Goals as goal

pub returns-clause-written : goal.returns-clause-written
returns-clause-written c =
    on_ok_weaker c.append-3.result
    (λ end. spelled_plainly c.args.attr (numbered c.args.number) c.args.to.now.items c.append.new.to.items c.append-2.new.to.items c.append-3.new.to.items
    (plain_number c.args.number (omega (arith, c.ranges.number.fits))) (c.in_ok-append.ensures.written ∙ ap (λ x. c.args.to.now.items ++ x) (c.as_bytes.ensures.value ∙ c.opening.ensures))
    (c.in_ok-append-2.ensures.written ∙ ap (λ x. c.append.new.to.items ++ x) (c.as_bytes-2.ensures.value ∙ c.format.ensures.text)) end)
    c.append-3.ensures.written
