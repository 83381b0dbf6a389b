use Rattle.std.proofs.lemmas.Result.{on_ok_weaker}
use Rattle.config_service.proofs.Writing.{message_written}
use Rattle.config_service.proofs.write.append_message.Goals as goal

pub returns-clause-written : goal.returns-clause-written
returns-clause-written c = on_ok_weaker c.append-3.result
    (λ e. message_written c.args.message.now c.args.to.now.items c.append.new.to.items c.append_stamp.new.to.items c.append-2.new.to.items c.append_body.new.to.items c.append-3.new.to.items
    c.in_ok-append.ensures.written c.in_ok-append_stamp.ensures.written c.in_ok-append-2.ensures.written c.in_ok-append_body.ensures.written e)
    c.append-3.ensures.written
