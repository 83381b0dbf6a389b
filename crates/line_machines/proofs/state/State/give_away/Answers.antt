use Rattle.std.proofs.Common.{◌≡◌, subst, sym}
use Rattle.line_step.specs.Reasons.{may_do, may_give_away}
use Rattle.line_step.specs.State.{LineState}
use Rattle.line_machines.specs.contracts.state.State.{the_view}
use Rattle.line_machines.proofs.Shifting.{giver_at, gives_made}
use Rattle.line_machines.proofs.There.{on_new_floor}
use Rattle.line_machines.proofs.state.State.give_away.Goals as goal

pub give-requires : goal.give-requires
give-requires c =
    let given = giver_at c.args.machine c.args.id (the_view c.self.inside) c.index_mut-node.result.now (subst (λ (s : LineState). may_give_away c.args.machine c.args.id s ≡ may_do) (sym c.self.view_is) c.requires.may) c.index_mut-node.ensures.value in
    given.may

pub do_acts-requires : goal.do_acts-requires
do_acts-requires c =
    let given = giver_at c.args.machine c.args.id (the_view c.self.inside) c.index_mut-node.result.now (subst (λ (s : LineState). may_give_away c.args.machine c.args.id s ≡ may_do) (sym c.self.view_is) c.requires.may) c.index_mut-node.ensures.value in
    let placed = rw (← c.self.view_is) at c.requires.together.floor in
    on_new_floor c.args.machine (the_view c.self.inside) c.index_mut-node.result.now c.read_all.new.self.floor given.there placed c.in_ok-sensed.ensures.machines

pub returns : goal.returns
returns c =
    let given = giver_at c.args.machine c.args.id (the_view c.self.inside) c.index_mut-node.result.now (subst (λ (s : LineState). may_give_away c.args.machine c.args.id s ≡ may_do) (sym c.self.view_is) c.requires.may) c.index_mut-node.ensures.value in
    rw (← c.self.view_is) (gives_made c.args.number c.args.machine c.args.id c.args.to (the_view c.self.inside) c.index_mut-node.result.now c.give.new.self c.moment_of-moment.result c.list.result.now c.in_ok-sensed.sensed c.read_all.new.self c.do_acts.new.world c.in_ok-given.given.acts c.new-told.result _ c.in_ok-given.given.board
    given.there c.moment_of-moment.ensures c.list.ensures c.in_ok-sensed.ensures.events c.in_ok-sensed.ensures.after c.in_ok-given.ensures.step c.in_ok-given.ensures.board c.in_ok-given.ensures.spent c.in_ok-given.ensures.again c.in_ok-do_acts.ensures.world c.new-told.ensures c.in_ok-do_acts.ensures.told)
