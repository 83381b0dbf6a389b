use Rattle.std.proofs.Common.{subst}
use Rattle.line_base.specs.Moment.{IsMomentMillis}
use Rattle.node_run.proofs.Moving.{clock_same, is_moment_now}
use Rattle.node_run.proofs.moves.moment_of.Goals as goal

pub returns-clause-clock : goal.returns-clause-clock
returns-clause-clock g c = clock_same _ _ c.now-moment.result c.now-moment.ensures.told

pub returns-clause-told : goal.returns-clause-told
returns-clause-told g c =
    let within : IsMomentMillis c.now-moment.result = subst IsMomentMillis c.millis-millis.ensures.same c.millis-millis.ensures.bounded in
    is_moment_now _ _ c.now-moment.result within c.now-moment.ensures.told
