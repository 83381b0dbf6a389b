use Rattle.std.proofs.Common.{◌≡◌, refl, subst, sym}
use Rattle.line_step.specs.Reasons.{may_do, may_take_in}
use Rattle.line_step.specs.State.{LineState}
use Rattle.node_core.specs.declared.input.Input.TheVariants as inputs
use Rattle.line_machines.specs.contracts.state.State.{the_view}
use Rattle.line_machines.proofs.Shifting.{step_made, taker_at}
use Rattle.line_machines.proofs.There.{on_new_floor}
use Rattle.line_machines.proofs.state.State.take_in.Goals as goal

pub get-requires : goal.get-requires
get-requires c =
    let given = taker_at c.args.machine (the_view c.self.inside) c.index_mut-node.result.now (subst (λ (s : LineState). may_take_in c.args.machine s ≡ may_do) (sym c.self.view_is) c.requires.may) c.index_mut-node.ensures.value in
    given.may

pub do_acts-requires : goal.do_acts-requires
do_acts-requires c =
    let given = taker_at c.args.machine (the_view c.self.inside) c.index_mut-node.result.now (subst (λ (s : LineState). may_take_in c.args.machine s ≡ may_do) (sym c.self.view_is) c.requires.may) c.index_mut-node.ensures.value in
    let placed = rw (← c.self.view_is) at c.requires.together.floor in
    on_new_floor c.args.machine (the_view c.self.inside) c.index_mut-node.result.now c.read_all.new.self.floor given.there placed c.in_ok-sensed.ensures.machines

pub returns : goal.returns
returns c =
    let given = taker_at c.args.machine (the_view c.self.inside) c.index_mut-node.result.now (subst (λ (s : LineState). may_take_in c.args.machine s ≡ may_do) (sym c.self.view_is) c.requires.may) c.index_mut-node.ensures.value in
    rw (← c.self.view_is) (step_made c.args.number c.args.machine (inputs.Gets c.args.board) (the_view c.self.inside) c.index_mut-node.result.now c.get.new.self _ c.moment_of-moment.result c.list.result.now c.in_ok-sensed.sensed c.read_all.new.self c.do_acts.new.world c.in_ok-acts.acts c.new-told.result _
    given.there refl c.moment_of-moment.ensures c.list.ensures c.in_ok-sensed.ensures.events c.in_ok-sensed.ensures.after c.in_ok-acts.ensures.step c.in_ok-acts.ensures.spent c.in_ok-acts.ensures.again c.in_ok-do_acts.ensures.world c.new-told.ensures c.in_ok-do_acts.ensures.told)
