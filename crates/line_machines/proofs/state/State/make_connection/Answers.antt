use Rattle.std.proofs.Common.{◌≡◌, ◌-◌, subst, sym}
use Rattle.std.specs.Prelude.{None}
use Rattle.line_step.specs.Reasons.{may_connect, may_do}
use Rattle.line_step.specs.State.{LineState}
use Rattle.line_step.specs.Together.{IsLineTogether}
use Rattle.line_step.specs.World.{link_at}
use Rattle.line_step.proofs.Connecting.{free_below}
use Rattle.line_machines.specs.contracts.state.State.{the_view}
use Rattle.line_machines.proofs.Stepped.{connects_by, second_given}
use Rattle.line_machines.proofs.state.State.make_connection.Goals as goal

pub connect-requires : goal.connect-requires
connect-requires c =
    rw (c.saturating_sub-above.ensures) (subst (λ (s : LineState). (link_at (c.args.machine - 1) s.world).downstream ≡ None) (sym c.self.view_is) (free_below c.args.machine c.args.self.now c.requires.together c.requires.may))

pub step_telling-requires-2-clause-given : goal.step_telling-requires-2-clause-given
step_telling-requires-2-clause-given c =
    let together = subst (λ (s : LineState). IsLineTogether s) (sym c.self.view_is) c.requires.together in
    let may = subst (λ (s : LineState). may_connect c.args.machine s ≡ may_do) (sym c.self.view_is) c.requires.may in
    second_given c.args.number c.args.machine (the_view c.self.inside) c.step_telling.new.self c.saturating_sub-above.result c.connect.new.self c.connect.result c.met-meets.result c.new-told.result c.step_telling.new.told together may
    (record { link_is = c.saturating_sub-above.ensures; world_is = c.connect.ensures.after; joined_is = c.connect.ensures.connected; input_is = c.met-meets.ensures; old_is = c.new-told.ensures; step = c.in_ok-step_telling.ensures.step })

pub returns : goal.returns
returns c =
    rw (← c.self.view_is) (connects_by c.args.number c.args.machine (the_view c.self.inside) c.step_telling.new.self c.step_telling-2.new.self c.saturating_sub-above.result c.connect.new.self c.connect.result c.met-meets.result c.new-told.result c.step_telling.new.told c.step_telling-2.new.told
    (record { link_is = c.saturating_sub-above.ensures; world_is = c.connect.ensures.after; joined_is = c.connect.ensures.connected; input_is = c.met-meets.ensures; old_is = c.new-told.ensures; step = c.in_ok-step_telling.ensures.step }) c.in_ok-step_telling-2.ensures.step)
