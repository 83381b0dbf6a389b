use Rattle.std.proofs.lemmas.Result.{on_ok_weaker}
use Rattle.config_service.proofs.Writing.{body_written}
use Rattle.config_service.proofs.write.append_body.Goals as goal

pub returns-clause-written : goal.returns-clause-written
returns-clause-written c = on_ok_weaker c.append-3.result
    (λ e. body_written c.args.body.now c.args.to.now.items c.append.new.to.items c.append-2.new.to.items c.append_attributes.new.to.items c.append-3.new.to.items
    c.in_ok-append.ensures.written (rw c.name.ensures at c.in_ok-append-2.ensures.written) c.in_ok-append_attributes.ensures.written e)
    c.append-3.ensures.written
