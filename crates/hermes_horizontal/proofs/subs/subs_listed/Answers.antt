use Rattle.hermes_horizontal.specs.Said.{sbs_among}
use Rattle.hermes_horizontal.proofs.SubsRead.{large_refused}
use Rattle.hermes_horizontal.proofs.subs.subs_listed.Goals as goal

pub returns-in-Err-Full : goal.returns-in-Err-Full
returns-in-Err-Full c =
    let full = rw c.in-Err-Full.field-0-is at c.in-Err-Full.is in
    large_refused c.args.at c.count_sbs.result (sbs_among c.args.children.now) c.in_ok-subs.subs.items c.bad_subs-in-Err-Full.result
    c.count_sbs.ensures c.if-count_sbs-gt-MOST_SUBS.false c.in_ok-subs.ensures (c.of.ensures.full.0 full) c.bad_subs-in-Err-Full.ensures
