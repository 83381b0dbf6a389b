use Rattle.std.proofs.lemmas.Result.{on_ok_weaker}
use Rattle.config_service.proofs.Writing.{settings_written}
use Rattle.config_service.proofs.write.append_settings.Goals as goal

pub returns-clause-written : goal.returns-clause-written
returns-clause-written c = on_ok_weaker c.append_number.result
    (λ e. settings_written c.args.settings c.args.to.now.items c.append_upstream.new.to.items c.append_number.new.to.items c.in_ok-append_upstream.ensures.written e)
    c.append_number.ensures.written
