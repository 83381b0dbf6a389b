use Rattle.std.proofs.Common.{◌≡◌, ◌+◌}
use Rattle.line_engine.proofs.Adding.{grown_to}
use Rattle.line_engine.proofs.tracks.add_to_all.Given as goal

abbrev pub invariant-loop-track : goal.invariant-loop-track
invariant-loop-track l = (l.lane ≡ l.track-index + 1) × (l.tracks ≡ grown_to l.track-index 2 l.is_bridge l.capacity l.used l.initial.tracks)
