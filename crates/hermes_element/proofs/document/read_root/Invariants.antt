use Rattle.std.proofs.Common.{◌≡◌, ◌∷◌, ◌-◌, ◌≤◌, length}
use Rattle.hermes_element.specs.Steps.{run_at, beginning, in_content}
use Rattle.hermes_element.specs.declared.place.Place.TheVariants as places
use Rattle.hermes_element.proofs.document.read_root.Given as goal

abbrev pub invariant-loop-has_ended : goal.invariant-loop-has_ended
invariant-loop-has_ended l = record {
  run : run_at places.Open 0 beginning l.at l.bytes ≡ in_content (l.root ∷ l.stack.items) l.end l.bytes;
  high : l.end ≤ length l.bytes;
}

abbrev pub decreases-loop-has_ended : goal.decreases-loop-has_ended
decreases-loop-has_ended l = length l.bytes - l.end
