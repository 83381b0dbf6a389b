use Rattle.canonical_frames.proofs.Values.{moment_value}
use Rattle.canonical_frames.proofs.moment.behind_moment.Goals as goal

pub returns : goal.returns
returns c = moment_value c.args.bytes.now c.in_ok-time.time.now c.in_ok-rest.rest.now c.in_ok-time.ensures c.in_ok-rest.ensures
