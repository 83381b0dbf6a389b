use Rattle.std.proofs.Common.{◌≡◌, drop, true}
use Rattle.line_engine.specs.Summed.{is_told, summed}
use Rattle.line_engine.proofs.tracks.Tracks.sum.Given as goal

abbrev pub invariant-loop-track : goal.invariant-loop-track
invariant-loop-track l = (summed l.sum (drop l.track-index l.track-items) ≡ summed l.initial.sum l.track-items) × (is_told l.sum ≡ true)
