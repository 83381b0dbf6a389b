use Rattle.std.proofs.Common.{refl, subst, sym, true, ◌≡◌}
use Rattle.law_lanes.specs.Along.{IsLaneReached}
use Rattle.law_lanes.specs.Lanes.{Lanes}
use Rattle.line_engine.specs.Kept.{is_counted}
use Rattle.line_engine.proofs.Nexts.{none_reached}
use Rattle.line_engine.proofs.line.Line.new.Goals as goal

pub invariant_of-result : goal.invariant_of-result
invariant_of-result c = λ unspent. record {
  kept = c.new.ensures.kept;
  counted = subst (λ (s : Lanes). is_counted s ≡ true) (sym c.new.ensures.none) refl;
  reached = subst (λ (s : Lanes). IsLaneReached s) (sym c.new.ensures.none) none_reached;
}
