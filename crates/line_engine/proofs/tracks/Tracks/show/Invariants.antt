use Rattle.std.proofs.Common.{◌≡◌, ◌+◌, ◌-◌, ◌++◌}
use Rattle.law_lanes.specs.Shown.{all_shown}
use Rattle.line_engine.specs.Tracks.{states_of}
use Rattle.line_engine.proofs.Showing.{fronts}
use Rattle.line_engine.proofs.tracks.Tracks.show.Given as goal

abbrev pub invariant-loop-before : goal.invariant-loop-before
invariant-loop-before l = l.told ++ all_shown (l.count - l.before) (l.before + 1) (fronts l.before (states_of l.self)) ≡ l.initial.told ++ all_shown l.count 1 (fronts 0 (states_of l.self))
