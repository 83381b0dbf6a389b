use Rattle.std.proofs.Common.{All, subst, arith, take_all}
use Rattle.std.proofs.lemmas.List.Elements.{All-more}
use Rattle.machine_log.specs.Account.{IsProperAct}
use Rattle.machine_log.proofs.proper.acts_are_proper.Goals as goal

pub loop-act-preserved : goal.loop-act-preserved
loop-act-preserved c =
    All-more IsProperAct c.args.acts.now c.loop-act.act-index c.act-item.result c.loop-act-test.true c.loop-act.invariant (subst IsProperAct c.act-item.is c.act_is_proper.ensures)

pub returns : goal.returns
returns c = record { each = subst (All IsProperAct) (take_all c.loop-act.act-index c.args.acts.now (omega (arith, c.loop-act-test.false))) c.loop-act.invariant }
