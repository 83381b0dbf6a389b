use Rattle.std.proofs.Common.{arith, ◌==◌, ◌≡◌, false}
use Rattle.line_engine.proofs.Besides.{machines_two}
use Rattle.line_engine.proofs.tracks.Tracks.follow_machines.Goals as goal

pub returns : goal.returns
returns c =
    let apart : (c.args.span.first == c.args.span.last) ≡ false = grind arith in
    machines_two c.args.span.first c.args.span.last c.args.shares.now c.args.self.now c.follow_shared.new.self c.follow_shared-2.new.self apart c.follow_shared.ensures c.follow_shared-2.ensures
