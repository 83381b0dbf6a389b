use Rattle.std.proofs.Common.{◌∙◌, sym}
use Rattle.line_link.proofs.Reaching.{reached_here, reached_none}
use Rattle.line_link.proofs.flow.reach.Goals as goal

pub returns-then-left-length : goal.returns-then-left-length
returns-then-left-length c = sym (reached_here c.loop-length.left c.in-Some.length c.loop-length.texts c.in-Some.ensures c.if-left-length.true) ∙ c.loop-length.invariant

pub returns : goal.returns
returns c = sym (reached_none c.loop-length.left c.loop-length.texts c.in_default.ensures) ∙ c.loop-length.invariant
