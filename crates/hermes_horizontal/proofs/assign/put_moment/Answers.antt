use Rattle.std.proofs.Common.{◌++◌, ap, ◌∙◌}
use Rattle.std.proofs.lemmas.Result.{on_ok_weaker}
use Rattle.hermes_horizontal.specs.Values.{timed}
use Rattle.hermes_horizontal.proofs.Plain.{plain_moment, spelled_plainly}
use Rattle.hermes_horizontal.proofs.assign.put_moment.Goals as goal

pub returns-clause-written : goal.returns-clause-written
returns-clause-written c =
    on_ok_weaker c.append-2.result
    (λ end. spelled_plainly c.args.attr (timed c.args.moment) c.args.to.now.items c.append.new.to.items c.write.new.to.items c.append-2.new.to.items
    (plain_moment c.args.moment) (c.in_ok-append.ensures.written ∙ ap (λ x. c.args.to.now.items ++ x) (c.as_bytes.ensures.value ∙ c.opening.ensures)) c.in_ok-write.ensures.text end)
    c.append-2.ensures.written
