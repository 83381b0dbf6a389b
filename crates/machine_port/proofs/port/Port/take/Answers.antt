use Rattle.std.proofs.Common.{◌≡◌, ◌∙◌, ap, sym}
use Rattle.machine_port.specs.Port.{PortState, made_after, one_step_more}
use Rattle.machine_port.specs.contracts.port.Port.{the_view}
use Rattle.machine_port.proofs.Stepping.{of_same, whole_step}
use Rattle.machine_port.proofs.port.Port.take.Goals as goal

pub returns-clause-stepped : goal.returns-clause-stepped
returns-clause-stepped c =
    let told = c.in_ok-acts.ensures in
    let counts : c.made_after-made.result ≡ made_after c.args.input (the_view c.self.inside).made =
    c.made_after-made.ensures.same ∙ ap (λ (s : PortState). made_after c.args.input s.made) (sym c.self.view_is) in
    let counted : c.one_step_more-steps.result ≡ one_step_more (the_view c.self.inside).steps =
    c.one_step_more-steps.ensures ∙ ap (λ (s : PortState). one_step_more s.steps) (sym c.self.view_is) in
    of_same c.args.sensed.now c.args.input c.args.moment _ _ _ c.self.view_is
    (whole_step c.args.sensed.now c.args.input c.args.moment c.is_second-second.result c.list.result.now c.list-2.result.now c.in_ok-acts.acts
    c.obey.new.self c.made_after-made.result c.one_step_more-steps.result (the_view c.self.inside) (the_view c.self-2.inside) (the_view c.self-3.inside) c.step.new.self counts counted c.is_second-second.ensures
    (c.self-2.view_is ∙ c.drop_closed.ensures) (c.self-3.view_is ∙ c.in_ok-route.ensures.routed) c.list.ensures c.obey.ensures c.list-2.ensures
    told.step told.wrong told.bounded told.willing told.own)
