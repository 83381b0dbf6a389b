-- The levels of a bridge by the calls that were made.
use Rattle.std.specs.Prelude.{Bool, false, Option, List, [], ◌∷◌, if◌then◌else◌}
use Rattle.line_base.specs.declared.states.Quality.{Quality}
use Rattle.smema_bridge.specs.declared.line.SegmentLine.{SegmentLine}
use Rattle.smema_bridge.specs.Levels.{BridgeLevels, OwnLevels}
use Rattle.smema_bridge.specs.Segment.{is_same, with_level}
use Rattle.smema_bridge.specs.Signals.{signals_of}

-- what a bridge is told: the level of a signal of the segment; what the two handovers do
pub data BridgeCall : Type 0 where
  level : SegmentLine → Bool → BridgeCall
  settle : Option Quality → Bool → BridgeCall

-- all levels off
abbrev pub bridge_off : BridgeLevels
bridge_off =
    record {
      segment = record { ready = false; available = false; failed = false };
      own = record { available = false; failed = false; ready = false };
    }

-- the levels after one call
abbrev pub bridge_after_call : BridgeLevels → BridgeCall → BridgeLevels
bridge_after_call before (level line on) =
    record before { segment = with_level line on before.segment }
bridge_after_call before (settle taking moving) = record before { own = signals_of taking moving }

-- the levels after some calls, from what they were before
abbrev pub bridge_after_from : BridgeLevels → List BridgeCall → BridgeLevels
bridge_after_from before [] = before
bridge_after_from before (call ∷ calls) = bridge_after_from (bridge_after_call before call) calls

-- the levels after all calls
abbrev pub bridge_after : List BridgeCall → BridgeLevels
bridge_after calls = bridge_after_from bridge_off calls

-- the last level to which a signal of the segment was set, from what it was before
abbrev pub last_level : SegmentLine → Bool → List BridgeCall → Bool
last_level line before [] = before
last_level line before (settle _ _ ∷ calls) = last_level line before calls
last_level line before (level other on ∷ calls) =
    last_level line (if is_same line other then on else before) calls

-- what the bridge's own signals say by the last call that told of the handovers, from what they
-- said before
abbrev pub last_told : OwnLevels → List BridgeCall → OwnLevels
last_told before [] = before
last_told before (level _ _ ∷ calls) = last_told before calls
last_told before (settle taking moving ∷ calls) = last_told (signals_of taking moving) calls
