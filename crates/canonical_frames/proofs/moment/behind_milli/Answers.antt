use Rattle.std.proofs.Common.{sym, ◌∙◌}
use Rattle.canonical_frames.proofs.Moments.{milli_from}
use Rattle.canonical_frames.proofs.moment.behind_milli.Goals as goal

pub returns : goal.returns
returns c = milli_from c.args.bytes.now c.in_ok-front.front.rest.now c.in_ok-last.last.rest.now c.in_ok-front.front.number c.in_ok-last.last.byte c.in_ok-front.ensures c.in_ok-last.ensures (sym c.is_ascii_digit.ensures.value ∙ c.if-not-is_ascii_digit.false)
