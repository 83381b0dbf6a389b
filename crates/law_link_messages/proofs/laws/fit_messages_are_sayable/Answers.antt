use Rattle.law_link_messages.proofs.Sayable.{fit_are_sayable}
use Rattle.law_link_messages.proofs.laws.fit_messages_are_sayable.Goals as goal

pub returns : goal.returns
returns c = λ messages fit. fit_are_sayable c.written_is_read.ensures c.proper_text_is_one_frame.ensures messages fit
