use Rattle.std.proofs.Common.{◌≡◌, ◌+◌, ◌++◌, drop}
use Rattle.law_lanes.specs.Shown.{fronts_shown}
use Rattle.line_engine.specs.Tracks.{states_of}
use Rattle.line_engine.proofs.Showing.{fronts}
use Rattle.line_engine.proofs.tracks.show_others.Given as goal

abbrev pub invariant-loop-track : goal.invariant-loop-track
invariant-loop-track l =
    (l.lane ≡ l.track-index + 1)
    × (l.told ++ fronts_shown (l.lane + 1) (l.before + 1) (fronts l.before (states_of (drop l.track-index l.tracks))) ≡ l.initial.told ++ fronts_shown 2 (l.before + 1) (fronts l.before (states_of l.tracks)))
