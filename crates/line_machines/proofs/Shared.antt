-- A machine follows another of its lanes, as the code has it.
use Rattle.std.proofs.Common.{◌≡◌, ◌∙◌, ◌-◌, ◌≤◌, ℕ, ap, length, sym}
use Rattle.std.specs.Prelude.{Option, Some, slice_index_or, slice_set}
use Rattle.node_core.specs.Node.{NodeState}
use Rattle.node_core.specs.Shared.{SharedParts, with_shared}
use Rattle.line_step.specs.State.{LineState}
use Rattle.line_step.proofs.Numbers.{machine_at_number}
use Rattle.line_machines.specs.Sharing.{sharing, sharing_at}
use Rattle.line_machines.proofs.Stepped.{place_is}

pub share_made : (machine : ℕ) (shared : SharedParts) (s : LineState) (one new : NodeState) → 1 ≤ machine → machine ≤ length s.machines → one ≡ slice_index_or s.machines (machine - 1) one → new ≡ with_shared shared one
    → record s { machines = slice_set s.machines (machine - 1) new } ≡ sharing machine shared s
share_made machine shared s one new least most at new_is =
    let found = machine_at_number machine s least most in
    let same : found.0 ≡ one = place_is machine s found.0 one found.1 at in
    ap (λ (n : NodeState). record s { machines = slice_set s.machines (machine - 1) n }) new_is
    ∙ sym (ap (λ (f : Option NodeState). sharing_at machine shared f s) (found.1 ∙ ap (λ (n : NodeState). Some n) same))
