-- What a level of the segment does.
use Rattle.std.specs.Prelude.{ℕ, Bool, true, false, not, ◌&&◌, Option, None, if◌then◌else◌}
use Rattle.smema_bridge.specs.declared.line.SegmentLine.{SegmentLine}
use Rattle.smema_bridge.specs.declared.line.SegmentLine.TheVariants.{Ready, Available, Failed}
use Rattle.smema_bridge.specs.Levels.{SegmentLevels}

-- the level of one of its signals
abbrev pub level_of : SegmentLine → SegmentLevels → Bool
level_of Ready segment = segment.ready
level_of Available segment = segment.available
level_of Failed segment = segment.failed

-- whether two signals of a segment are one
abbrev pub is_same : SegmentLine → SegmentLine → Bool
is_same Ready Ready = true
is_same Ready Available = false
is_same Ready Failed = false
is_same Available Ready = false
is_same Available Available = true
is_same Available Failed = false
is_same Failed Ready = false
is_same Failed Available = false
is_same Failed Failed = true

-- the segment with one of its levels set
abbrev pub with_level : SegmentLine → Bool → SegmentLevels → SegmentLevels
with_level Ready on segment = record segment { ready = on }
with_level Available on segment = record segment { available = on }
with_level Failed on segment = record segment { failed = on }

-- whether a set level lets Board Available go from off to on
abbrev pub becomes_available : SegmentLine → Bool → SegmentLevels → Bool
becomes_available Available on segment = on && not segment.available
becomes_available Ready _ _ = false
becomes_available Failed _ _ = false

-- the board that a set level says to be failed: the front, where Board Available goes on while
-- Failed Board Available is on and the front isn't touched
abbrev pub failed_board : SegmentLine → Bool → SegmentLevels → Option ℕ → Bool → Option ℕ
failed_board line on segment front touched =
    if becomes_available line on segment && segment.failed && not touched then front else None
