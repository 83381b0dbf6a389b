-- A bridge's own signals, by what its two handovers do.
use Rattle.std.specs.Prelude.{Bool, true, false, Option, Some, None, unwrap_or}
use Rattle.line_base.specs.declared.states.Quality.{Quality}
use Rattle.line_base.specs.declared.states.Quality.TheVariants as qualities
use Rattle.smema_signals.specs.Edge.{edge}
use Rattle.smema_bridge.specs.declared.edges.BridgeEdges.{BridgeEdges}
use Rattle.smema_bridge.specs.Levels.{BridgeLevels, OwnLevels}

-- whether a board is being taken
abbrev pub is_taking : Option Quality → Bool
is_taking None = false
is_taking (Some _) = true

-- whether a failed board is being taken
abbrev pub is_taking_failed : Option Quality → Bool
is_taking_failed None = false
is_taking_failed (Some qualities.Failed) = true
is_taking_failed (Some qualities.Good) = false
is_taking_failed (Some qualities.Unknown) = false

-- the levels that say to the segment what the two handovers do
abbrev pub signals_of : Option Quality → Bool → OwnLevels
signals_of taking moving =
    record { available = is_taking taking; failed = is_taking_failed taking; ready = moving }

-- the edges of the three signals
abbrev pub bridge_edges : OwnLevels → OwnLevels → BridgeEdges
bridge_edges old new =
    record {
      available = edge old.available new.available;
      failed = edge old.failed new.failed;
      ready = edge old.ready new.ready;
    }

-- the levels to a segment that knew the old ones and saw the edges
abbrev pub following : OwnLevels → BridgeEdges → OwnLevels
following old seen =
    record {
      available = unwrap_or seen.available old.available;
      failed = unwrap_or seen.failed old.failed;
      ready = unwrap_or seen.ready old.ready;
    }

-- a bridge with the levels of its entry's signals, and with that of its exit's
abbrev pub with_entry : Bool → Bool → BridgeLevels → BridgeLevels
with_entry available failed bridge =
    record bridge { own = record bridge.own { available = available; failed = failed } }

abbrev pub with_exit : Bool → BridgeLevels → BridgeLevels
with_exit ready bridge = record bridge { own = record bridge.own { ready = ready } }
