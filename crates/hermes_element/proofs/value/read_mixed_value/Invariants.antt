use Rattle.std.proofs.Common.{◌≡◌, ℕ, ◌-◌, ◌≤◌, false, List, [], length}
use Rattle.line_base.specs.Text.{IsAllowed}
use Rattle.hermes_element.specs.Machine.{Build}
use Rattle.hermes_element.specs.Steps.{run_at, valuing}
use Rattle.hermes_element.specs.declared.place.Place.TheVariants as places
use Rattle.hermes_element.proofs.value.read_mixed_value.Given as goal

abbrev pub invariant-loop-end : goal.invariant-loop-end
invariant-loop-end l = record {
  run : (depth : ℕ) (key : List ℕ) (c : Build)
      → run_at (places.Value l.quote) depth (valuing c key l.at [] false) l.at l.bytes
      ≡ run_at (places.Value l.quote) depth (valuing c key l.at l.value.items l.after_cr) l.end l.bytes;
  allowed : IsAllowed l.value.items;
  low : l.at ≤ l.end;
  high : l.end ≤ length l.bytes;
}

abbrev pub decreases-loop-end : goal.decreases-loop-end
decreases-loop-end l = length l.bytes - l.end
