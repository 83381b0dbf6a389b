use Rattle.std.proofs.Common.{◌≡◌, ◌++◌, ℕ, ◌-◌, ◌<◌, ◌≤◌, Bool, false, List, length}
use Rattle.std.specs.Prelude.{slice_range}
use Rattle.hermes_element.specs.Machine.{Build}
use Rattle.hermes_element.specs.Steps.{run_at, valuing, AtPlace}
use Rattle.hermes_element.specs.declared.place.Place.TheVariants as places
use Rattle.hermes_element.proofs.value.read_wide.Given as goal

abbrev pub invariant-loop-place : goal.invariant-loop-place
invariant-loop-place l = record {
  run : (depth start : ℕ) (key value : List ℕ) (after_cr : Bool) (c : Build)
      → run_at (places.Value l.quote) depth (valuing c key start value after_cr) l.at l.bytes
      ≡ run_at l.place depth (valuing c key start (value ++ slice_range l.bytes l.at l.end) false) l.end l.bytes;
  part : AtPlace l.place l.quote (slice_range l.bytes l.at l.end);
  low : l.at < l.end;
  high : l.end ≤ length l.bytes;
}

abbrev pub decreases-loop-place : goal.decreases-loop-place
decreases-loop-place l = length l.bytes - l.end
