use Rattle.std.proofs.Common.{◌≡◌}
use Rattle.line_engine.specs.Tracks.{empty_tracks}
use Rattle.line_engine.proofs.tracks.empty_tracks.Given as goal

abbrev pub invariant-loop-before : goal.invariant-loop-before
invariant-loop-before l = l.tracks.items ≡ empty_tracks l.before l.lines l.unvouched
