use Rattle.std.proofs.Common.{◌≡◌, ◌≤◌, ◌+◌, ◌-◌, ◌*◌, true, take, length}
use Rattle.node_core.specs.Sides.{is_open}
use Rattle.node_core.specs.Halves.{OffersFront}
use Rattle.node_core.specs.Words.{IsHearing}
use Rattle.node_core.proofs.piece.hear_piece.Given as goal

abbrev pub invariant-loop-word : goal.invariant-loop-word
invariant-loop-word l = record {
  within : l.at ≤ length l.piece;
  opened : is_open l.side l.body ≡ true;
  offers : OffersFront l.body;
  hearing : IsHearing l.desk l.side l.initial.cutter (take l.at l.piece) l.cutter l.initial.body l.body l.initial.to l.to;
}

abbrev pub decreases-loop-word : goal.decreases-loop-word
decreases-loop-word l = 2 * (length l.piece - l.at) + length l.cutter
