use Rattle.std.proofs.Common.{false, subst, sym, ◌≡◌}
use Rattle.law_lanes.specs.Lanes.{Lanes}
use Rattle.law_lanes.specs.Along.{IsLaneReached}
use Rattle.line_engine.proofs.Seen.{seen_as}
use Rattle.line_engine.proofs.line.Line.known.Goals as goal

pub returns : goal.returns
returns c =
    let unspent : c.self.inside.spent ≡ false = subst (λ (s : Lanes). s.spent ≡ false) (sym c.self.view_is) c.requires in
    rw (← c.self.view_is) (subst (λ (s : Lanes). IsLaneReached s) (seen_as c.self.inside.spent c.self.inside.tracks unspent) (c.self.invariant unspent).reached)
