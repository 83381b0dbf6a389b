use Rattle.std.proofs.Common.{◌≡◌, subst}
use Rattle.std.specs.Prelude.{IfOk}
use Rattle.hermes_vertical.specs.declared.message.Vertical.{Vertical}
use Rattle.supervised_end.specs.Said.{text_of}
use Rattle.supervised_end.proofs.said.refusal_of_second.Goals as goal

pub returns : goal.returns
returns c =
    let P : Vertical → Type 0 = λ b. IfOk c.text_of.result (λ text. text.items ≡ text_of c.args.moment b) in
    subst P c.in_ok-body.ensures c.text_of.ensures
