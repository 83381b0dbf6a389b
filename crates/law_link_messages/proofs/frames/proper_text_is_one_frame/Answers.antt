use Rattle.law_link_messages.proofs.Framed.{framed}
use Rattle.law_link_messages.proofs.frames.proper_text_is_one_frame.Goals as goal

pub returns : goal.returns
returns c = framed
