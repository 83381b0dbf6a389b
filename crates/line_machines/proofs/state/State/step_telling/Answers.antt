use Rattle.std.proofs.Common.{subst, sym}
use Rattle.line_step.specs.State.{LineState}
use Rattle.line_machines.specs.Given.{IsGiven}
use Rattle.line_machines.specs.contracts.state.State.{the_view}
use Rattle.line_machines.proofs.Stepped.{given_at, tells_step_by}
use Rattle.line_machines.proofs.There.{on_new_floor}
use Rattle.line_machines.proofs.state.State.step_telling.Goals as goal

pub step-requires : goal.step-requires
step-requires c =
    let given = given_at c.args.machine c.args.input (the_view c.self.inside) c.index_mut-node.result.now (subst (λ (s : LineState). IsGiven c.args.machine c.args.input s) (sym c.self.view_is) c.requires.given) c.index_mut-node.ensures.value in
    given.may

pub do_acts-requires : goal.do_acts-requires
do_acts-requires c =
    let given = given_at c.args.machine c.args.input (the_view c.self.inside) c.index_mut-node.result.now (subst (λ (s : LineState). IsGiven c.args.machine c.args.input s) (sym c.self.view_is) c.requires.given) c.index_mut-node.ensures.value in
    let placed = rw (← c.self.view_is) at c.requires.floor in
    on_new_floor c.args.machine (the_view c.self.inside) c.index_mut-node.result.now c.read_all.new.self.floor given.there placed c.in_ok-sensed.ensures.machines

pub returns-clause-step : goal.returns-clause-step
returns-clause-step c =
    let given = given_at c.args.machine c.args.input (the_view c.self.inside) c.index_mut-node.result.now (subst (λ (s : LineState). IsGiven c.args.machine c.args.input s) (sym c.self.view_is) c.requires.given) c.index_mut-node.ensures.value in
    rw (← c.self.view_is) (tells_step_by c.args.number c.args.machine c.args.input (the_view c.self.inside) c.index_mut-node.result.now c.step.new.self c.is_second.result c.moment_of-moment.result c.list.result.now c.in_ok-sensed.sensed c.read_all.new.self c.do_acts.new.world c.in_ok-acts.acts _ _
    given.there c.is_second.ensures c.moment_of-moment.ensures c.list.ensures c.in_ok-sensed.ensures.events c.in_ok-sensed.ensures.after c.in_ok-acts.ensures.step c.in_ok-acts.ensures.spent c.in_ok-acts.ensures.again c.in_ok-do_acts.ensures.world c.in_ok-do_acts.ensures.told)
