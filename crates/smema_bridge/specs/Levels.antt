-- The levels of a bridge: those of its segment and its own.
use Rattle.std.specs.Prelude.{Bool}

-- the levels of a segment: Machine Ready at its entry, Board Available and Failed Board Available
-- at its exit
pub record SegmentLevels : Type 0 where
  pub ready : Bool
  pub available : Bool
  pub failed : Bool

-- the levels of a bridge's own signals: Board Available and Failed Board Available at its entry,
-- Machine Ready at its exit
pub record OwnLevels : Type 0 where
  pub available : Bool
  pub failed : Bool
  pub ready : Bool

pub record BridgeLevels : Type 0 where
  pub segment : SegmentLevels
  pub own : OwnLevels
