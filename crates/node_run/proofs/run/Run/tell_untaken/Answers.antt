use Rattle.std.proofs.Common.{◌≡◌, subst}
use Rattle.std.specs.Prelude.{OnOk}
use Rattle.hermes_vertical.specs.declared.message.Vertical.{Vertical}
use Rattle.node_run.specs.Hearing.{said}
use Rattle.node_run.proofs.run.Run.tell_untaken.Goals as goal

pub returns-clause-said : goal.returns-clause-said
returns-clause-said c =
    let P : Vertical → Type 0 = λ b. OnOk c.say.result (c.say.new.self.state ≡ said c.args.moment b c.args.self.now.state) in
    subst P c.in_ok-told.ensures c.say.ensures.said
