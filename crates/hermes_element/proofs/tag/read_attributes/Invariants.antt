use Rattle.std.proofs.Common.{◌≡◌, ◌-◌, ◌≤◌, ℕ, List, [], length}
use Rattle.hermes_element.specs.Element.{Tree, Forest}
use Rattle.hermes_element.specs.Machine.{in_tag}
use Rattle.hermes_element.specs.Steps.{run_at}
use Rattle.hermes_element.specs.declared.place.Place.TheVariants as places
use Rattle.hermes_element.proofs.tag.read_attributes.Given as goal

abbrev pub invariant-loop-end : goal.invariant-loop-end
invariant-loop-end l = record {
  run : (depth : ℕ) (roots : Forest) (stack : List Tree) (tag : Tree) → tag.attributes ≡ []
      → run_at places.Quoted depth (in_tag roots stack tag) l.at l.bytes ≡ run_at places.Quoted depth (in_tag roots stack (record tag { attributes = l.attributes })) l.end l.bytes;
  low : l.at ≤ l.end;
  high : l.end ≤ length l.bytes;
}

abbrev pub decreases-loop-end : goal.decreases-loop-end
decreases-loop-end l = length l.bytes - l.end
