use Rattle.std.proofs.Common.{◌≡◌, length}
use Rattle.line_outside.specs.Left.{left_of}
use Rattle.line_outside.specs.Store.{passed}
use Rattle.line_outside.proofs.poll_list.PollList.pass_over.Given as goal

-- what is passed over makes no difference
abbrev pub invariant-loop-self : goal.invariant-loop-self
invariant-loop-self l = passed (left_of l.self-inside.used l.self-inside.answers.items) ≡ passed (left_of l.initial.self-inside.used l.initial.self-inside.answers.items)

abbrev pub decreases-loop-self : goal.decreases-loop-self
decreases-loop-self l = length l.self-inside.answers.items
