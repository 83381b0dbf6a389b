use Rattle.std.proofs.Common.{◌≡◌}
use Rattle.line_engine.specs.Sharing.{sharing_track}
use Rattle.line_engine.proofs.Mapped.{mapped}
use Rattle.line_engine.proofs.sharing.share_all.Given as goal

abbrev pub invariant-loop-track : goal.invariant-loop-track
invariant-loop-track l = l.tracks ≡ mapped (sharing_track l.machine l.shared) l.track-index l.initial.tracks
