use Rattle.std.proofs.Common.{subst, sym, ◌∙◌}
use Rattle.line_step.specs.State.{LineState}
use Rattle.node_core.specs.declared.input.Input.TheVariants as inputs
use Rattle.line_machines.specs.Given.{IsGiven}
use Rattle.line_machines.specs.contracts.state.State.{the_view}
use Rattle.line_machines.proofs.Stepped.{given_at, hears_flow_by}
use Rattle.line_machines.proofs.There.{on_new_floor}
use Rattle.line_machines.proofs.state.State.hear.Goals as goal

pub step-requires : goal.step-requires
step-requires c =
    let given = given_at c.args.machine (inputs.Notice c.args.side) (the_view c.self.inside) c.index_mut-node.result.now (subst (λ (s : LineState). IsGiven c.args.machine (inputs.Notice c.args.side) s) (sym c.self.view_is) c.requires.given) c.index_mut-node.ensures.value in
    given.may

pub do_acts-requires : goal.do_acts-requires
do_acts-requires c =
    let given = given_at c.args.machine (inputs.Notice c.args.side) (the_view c.self.inside) c.index_mut-node.result.now (subst (λ (s : LineState). IsGiven c.args.machine (inputs.Notice c.args.side) s) (sym c.self.view_is) c.requires.given) c.index_mut-node.ensures.value in
    let placed = rw (← c.self.view_is) at c.requires.together.floor in
    on_new_floor c.args.machine (the_view c.self.inside) c.index_mut-node.result.now c.arrive.new.self.floor given.there placed (c.arrive.ensures.machines ∙ c.in_ok-sensed.ensures.machines)

pub returns : goal.returns
returns c =
    let given = given_at c.args.machine (inputs.Notice c.args.side) (the_view c.self.inside) c.index_mut-node.result.now (subst (λ (s : LineState). IsGiven c.args.machine (inputs.Notice c.args.side) s) (sym c.self.view_is) c.requires.given) c.index_mut-node.ensures.value in
    rw (← c.self.view_is) (hears_flow_by c.args.number c.args.machine c.args.side c.args.count (the_view c.self.inside) c.index_mut-node.result.now c.step.new.self c.next-piece.result c.moment_of-moment.result c.list.result.now c.in_ok-sensed.sensed c.read_all.new.self c.arrive.new.self c.do_acts.new.world c.in_ok-acts.acts c.new-told.result _
    given.there c.moment_of-moment.ensures c.list.ensures c.in_ok-sensed.ensures.events c.in_ok-sensed.ensures.after c.next-piece.ensures c.in_ok-acts.ensures.step c.in_ok-acts.ensures.spent c.in_ok-acts.ensures.again c.arrive.ensures.after c.in_ok-do_acts.ensures.world c.new-told.ensures c.in_ok-do_acts.ensures.told)
