use Rattle.std.proofs.Common.{◌≡◌, length}
use Rattle.line_link.specs.Flow.{reached}
use Rattle.line_link.proofs.flow.reach.Given as goal

-- what is reached in all is reached in the texts that are left
abbrev pub invariant-loop-length : goal.invariant-loop-length
invariant-loop-length l = reached l.left l.texts ≡ reached l.fn.count l.fn.texts

abbrev pub decreases-loop-length : goal.decreases-loop-length
decreases-loop-length l = length l.texts
