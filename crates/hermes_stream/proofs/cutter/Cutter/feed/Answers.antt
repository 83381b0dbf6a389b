use Rattle.std.proofs.Common.{length, ap, arith}
use Rattle.hermes_stream.proofs.Runs.{long_from_too_long}
use Rattle.hermes_stream.proofs.cutter.Cutter.feed.Goals as goal

pub returns-clause-too_long : goal.returns-clause-too_long
returns-clause-too_long c = λ e.
    let long = long_from_too_long c.args.self.now e in
    omega (arith, c.fill.ensures.count, ap length c.self.view_is)
