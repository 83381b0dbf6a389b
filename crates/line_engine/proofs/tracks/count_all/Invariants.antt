use Rattle.std.proofs.Common.{◌≡◌}
use Rattle.line_engine.specs.Sharing.{counted_track}
use Rattle.line_engine.proofs.Mapped.{mapped}
use Rattle.line_engine.proofs.tracks.count_all.Given as goal

abbrev pub invariant-loop-track : goal.invariant-loop-track
invariant-loop-track l = l.tracks ≡ mapped (counted_track l.lines) l.track-index l.initial.tracks
