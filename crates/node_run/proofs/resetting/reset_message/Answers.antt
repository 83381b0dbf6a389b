use Rattle.std.proofs.Common.{◌∙◌, ap, Some}
use Rattle.line_base.specs.declared.states.Severity.TheVariants as severity
use Rattle.hermes_horizontal.specs.Canonical.{canonical}
use Rattle.hermes_horizontal.specs.declared.message.Horizontal.{Horizontal}
use Rattle.hermes_horizontal.specs.declared.message.Horizontal.TheVariants as bodies
use Rattle.node_run.proofs.resetting.reset_message.Goals as goal

pub returns : goal.returns
returns c =
    ap (λ (body : Horizontal). canonical (record { stamp = Some c.args.moment; body = body }))
    (c.in_ok-body.ensures ∙ ap (λ text. bodies.Notification (record { number = 3 }) severity.Info text) c.in_ok-text.ensures)
