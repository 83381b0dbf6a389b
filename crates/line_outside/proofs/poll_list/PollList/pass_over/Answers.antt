use Rattle.std.proofs.Common.{◌≡◌, ◌<◌, ◌∙◌, ap, sym, length, drop}
use Rattle.line_outside.specs.Left.{left_of}
use Rattle.line_outside.specs.Store.{passed}
use Rattle.line_outside.proofs.Passing.{passed-empty, passed-full, fewer}
use Rattle.line_outside.proofs.poll_list.PollList.pass_over.Goals as goal

pub loop-self-smaller : goal.loop-self-smaller
loop-self-smaller c = rw c.pop_front.ensures.rest (fewer c.loop-self.self-inside.answers.items c.loop-self.self-inside.used (c.loop-self-test.ensures {u = tt}))

pub loop-self-preserved : goal.loop-self-preserved
loop-self-preserved c = rw c.pop_front.ensures.rest (passed-empty c.loop-self.self-inside.answers.items c.loop-self.self-inside.used (c.loop-self-test.ensures {u = tt}) ∙ c.loop-self.invariant)

pub returns-clause-passed : goal.returns-clause-passed
returns-clause-passed c = sym (passed-full (left_of c.loop-self.self-inside.used c.loop-self.self-inside.answers.items) (c.loop-self-test.ensures {u = tt})) ∙ c.loop-self.invariant ∙ ap passed c.self.view_is
