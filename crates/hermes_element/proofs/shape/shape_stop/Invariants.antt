use Rattle.std.proofs.Common.{◌≡◌, ◌≤◌, drop}
use Rattle.hermes_element.specs.Machine.{stop_of}
use Rattle.hermes_element.specs.declared.place.Place.TheVariants as places
use Rattle.hermes_element.proofs.shape.shape_stop.Given as goal

abbrev pub invariant-loop-at : goal.invariant-loop-at
invariant-loop-at l = record {
  same : stop_of l.place l.depth l.at (drop l.at l.bytes) ≡ stop_of places.Start 0 0 l.bytes;
  low : l.depth ≤ l.at;
}
