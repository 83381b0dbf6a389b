use Rattle.std.proofs.Common.{◌≡◌}
use Rattle.line_engine.specs.Sharing.{unvouched_track}
use Rattle.line_engine.proofs.Mapped.{mapped}
use Rattle.line_engine.proofs.sharing.unvouch_all.Given as goal

abbrev pub invariant-loop-track : goal.invariant-loop-track
invariant-loop-track l = l.tracks ≡ mapped (unvouched_track l.unvouched) l.track-index l.initial.tracks
