use Rattle.law_running_line.proofs.Doubled.{is_doubled}
use Rattle.law_running_line.proofs.laws.a_record_is_doubled_without_the_reading.Goals as goal

pub returns : goal.returns
returns c = is_doubled (λ messages fit. c.fit_messages_are_sayable.ensures messages fit)
