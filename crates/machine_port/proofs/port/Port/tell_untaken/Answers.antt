use Rattle.std.proofs.Common.{◌≡◌, subst}
use Rattle.std.specs.Prelude.{OnOk}
use Rattle.hermes_vertical.specs.declared.message.Vertical.{Vertical}
use Rattle.machine_port.specs.Supervisor.{said}
use Rattle.machine_port.proofs.port.Port.tell_untaken.Goals as goal

pub returns-clause-said : goal.returns-clause-said
returns-clause-said c =
    let P : Vertical → Type 0 = λ b. OnOk c.say.result (c.say.new.self ≡ said c.args.moment b c.args.self.now) in
    subst P c.in_ok-told.ensures c.say.ensures.said
