-- The machines from one number to another.
use Rattle.std.proofs.Common.{◌≡◌, ◌∙◌, ℕ, ◌+◌, ◌-◌, List, true, sym, ap, arith, map, take, drop}
use Rattle.std.specs.Prelude.{nat_lt}
use Rattle.std.specs.List.{drop-map, take-map}
use Rattle.node_core.specs.Node.{NodeState}
use Rattle.line_step.specs.State.{owned_by}
use Rattle.line_marks.specs.Stepped.{owned_between}

-- the machines from one number to another
pub between_is : (first last : ℕ) (machines front behind : List NodeState) (count : ℕ) → (first ≡ 0 → ⊥) → front ≡ take count behind → count ≡ (last + 1) - first → behind ≡ drop (first - 1) machines
    → map owned_by front ≡ owned_between first last (map owned_by machines)
between_is first last machines front behind count some front_is count_is behind_is =
    let test : nat_lt 0 first ≡ true = grind (arith, some) in
    rw test
    (ap (map owned_by) (front_is ∙ ap (λ n. take n behind) count_is ∙ ap (take ((last + 1) - first)) behind_is)
    ∙ sym (take-map owned_by ((last + 1) - first) (drop (first - 1) machines))
    ∙ ap (take ((last + 1) - first)) (sym (drop-map owned_by (first - 1) machines)))
