use Rattle.std.proofs.Common.{List, ◌∷◌, ap, arith, length, subst}
use Rattle.std.specs.Vec.Iter.{into_iter_items}
use Rattle.node_core.specs.declared.act.Act.{Act}
use Rattle.line_acts.proofs.DoneActs.{IsDoing, goes_on_doing}
use Rattle.line_acts.proofs.acts.do_acts.Goals as goal

pub loop-act-preserved : goal.loop-act-preserved
loop-act-preserved c =
    let second = c.args.teller.now.second in
    let machine = c.args.teller.now.machine in
    let rest : List Act = into_iter_items c.next.new.self in
    let steps = c.in-Some.ensures.steps in
    let doing = subst (λ (l : List Act). IsDoing second machine c.args.acts l c.args.world.now c.loop-act.world c.args.told.now c.loop-act.told) steps.0 c.loop-act.invariant.0 in (
      goes_on_doing second machine c.args.acts c.in-Some.act rest c.args.world.now c.loop-act.world c.do_act.new.world c.args.told.now c.loop-act.told c.do_act.new.told doing
          c.in_ok-do_act.ensures.world c.in_ok-do_act.ensures.told c.in_ok-do_act.ensures.machines,
      omega (arith, c.loop-act.invariant.1, steps.1, ap length steps.0),
    )
