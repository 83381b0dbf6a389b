use Rattle.law_custody.proofs.Messages.{refused_with_nul}
use Rattle.law_custody.proofs.bytes.a_frame_with_a_nul_is_refused.Goals as goal

pub returns : goal.returns
returns c = λ waiting coming frame gives spoiled. refused_with_nul c.zero_is_refused.ensures frame (c.a_nul_is_in_the_next_frame.ensures.cut waiting coming frame gives spoiled)
