-- Edges: where a level changed, and what the levels are to someone who follows them.
use Rattle.std.specs.Prelude.{Bool, true, false, Option, Some, None, unwrap_or}
use Rattle.smema_signals.specs.declared.levels.Levels.{Levels}
use Rattle.smema_signals.specs.declared.levels.Edges.{Edges}

-- the edge of a signal from a level to another: the new level, or none where it stays
abbrev pub edge : Bool → Bool → Option Bool
edge true true = None
edge false false = None
edge false true = Some true
edge true false = Some false

-- the edges of both signals
abbrev pub edges : Levels → Levels → Edges
edges old new = record { first = edge old.first new.first; second = edge old.second new.second }

-- the levels to someone who knew the old ones and saw the edges
abbrev pub following : Levels → Edges → Levels
following old seen =
    record { first = unwrap_or seen.first old.first; second = unwrap_or seen.second old.second }
