use Rattle.std.proofs.Common.{refl}
use Rattle.hermes_element.proofs.Standings.{stands-same, stands-then}
use Rattle.hermes_horizontal.proofs.subs.append_each.Goals as goal

pub loop-sub-init : goal.loop-sub-init
loop-sub-init c = (stands-same c.args.to.now.items c.args.to.now.items refl, refl)

pub returns-in_err-append_sub-clause-kept : goal.returns-in_err-append_sub-clause-kept
returns-in_err-append_sub-clause-kept c = stands-then c.loop-sub.invariant.0 c.append_sub.ensures.kept

pub returns-clause-kept : goal.returns-clause-kept
returns-clause-kept c = c.loop-sub.invariant.0
