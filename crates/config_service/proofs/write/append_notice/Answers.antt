use Rattle.std.proofs.lemmas.Result.{on_ok_weaker}
use Rattle.config_service.proofs.Writing.{notice_written}
use Rattle.config_service.proofs.write.append_notice.Goals as goal

pub returns-clause-written : goal.returns-clause-written
returns-clause-written c = on_ok_weaker c.append_value.result
    (λ e. notice_written c.args.code c.args.severity c.args.text.now c.args.to.now.items c.append_number.new.to.items c.append_number-2.new.to.items c.append_value.new.to.items
    c.in_ok-append_number.ensures.written (rw c.severity_number.ensures at c.in_ok-append_number-2.ensures.written) (rw c.bytes.ensures.bytes at e))
    c.append_value.ensures.written
