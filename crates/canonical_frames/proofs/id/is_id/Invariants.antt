use Rattle.std.proofs.Common.{◌≡◌, ◌<◌, ℕ, true, get_or}
use Rattle.canonical_frames.specs.Values.{fits_place}
use Rattle.canonical_frames.proofs.id.is_id.Given as goal

abbrev pub invariant-loop-place : goal.invariant-loop-place
invariant-loop-place l = (k : ℕ) → k < l.place → fits_place k (get_or l.id k 0) ≡ true
