use Rattle.std.proofs.Common.{◌≡◌, subst}
use Rattle.std.specs.Prelude.{IfOk}
use Rattle.config_service.specs.declared.message.ConfigBody.{ConfigBody}
use Rattle.node_run.specs.Configuring.{config_text}
use Rattle.node_run.proofs.configuring.refusal_of_second.Goals as goal

pub returns : goal.returns
returns c =
    let P : ConfigBody → Type 0 = λ b. IfOk c.config_text.result (λ text. text.items ≡ config_text c.args.moment b) in
    subst P c.in_ok-body.ensures c.config_text.ensures
