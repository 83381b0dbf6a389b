-- How contents that may be untold grow, step by step.
use Rattle.std.proofs.Common.{◌≤◌, arith, List, ℕ, [], ◌++◌, Option, None, Some, append_assoc, append-nil, sym, ap, ◌∙◌}
use Rattle.line_outside.specs.Faults.{Rose}
use Rattle.line_outside.specs.Sink.{Grows, GrowsInPart}

pub grows_none : (old : Option (List ℕ)) → Grows old old []
grows_none None = tt
grows_none (Some old) = sym (append-nil old)

pub grows_more : (a b c : Option (List ℕ)) (front back : List ℕ) → Grows a b front → Grows b c back → Grows a c (front ++ back)
grows_more None None None front back first second = tt
grows_more None None (Some c) front back first second = second
grows_more None (Some b) c front back first second = absurd first
grows_more (Some a) None None front back first second = tt
grows_more (Some a) None (Some c) front back first second = absurd second
grows_more (Some a) (Some b) None front back first second = tt
grows_more (Some a) (Some b) (Some c) front back first second = second ∙ ap (λ t. t ++ back) first ∙ append_assoc a front back

-- a count that rose in the last of two stretches rose in both together
pub rose_after : (a b c : ℕ) → a ≤ b → b ≤ c → Rose b c → Rose a c
rose_after a b c first second rose below = grind arith

-- and one that rose in the first
pub rose_before : (a b c : ℕ) → a ≤ b → b ≤ c → Rose a b → Rose a c
rose_before a b c first second rose below = grind arith

pub grows_part : (a b c : Option (List ℕ)) (front back : List ℕ) → Grows a b front → GrowsInPart b c back → GrowsInPart a c (front ++ back)
grows_part a b c front back first second = record {
  front = front ++ second.front;
  back = second.back;
  parts = append_assoc front second.front second.back ∙ ap (λ t. front ++ t) second.parts;
  grows = grows_more a b c front second.front first second.grows;
}
