use Rattle.std.proofs.Common.{◌≡◌, ℕ, ◌≤◌, List, Option, None, Some, IfSome, length, sym, ap, ◌∙◌}
use Rattle.hermes_stream.specs.Frames.{first_end}
use Rattle.hermes_stream.proofs.Ends.{first_end-within}
use Rattle.hermes_stream.proofs.block.Block.first_end.Goals as goal

within : (bytes : List ℕ) (answer : Option ℕ) → first_end bytes ≡ answer → IfSome answer (λ count. count ≤ length bytes)
within bytes None e = tt
within bytes (Some count) e = (first_end-within bytes count e).1

pub returns-clause-within : goal.returns-clause-within
returns-clause-within c = within c.args.self.now.waiting c.find_end.result (sym (c.find_end.ensures ∙ ap first_end (c.as_slices.ensures ∙ ap (λ h. h.waiting) c.self.view_is)))
