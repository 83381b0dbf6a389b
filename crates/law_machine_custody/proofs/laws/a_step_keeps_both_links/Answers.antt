use Rattle.law_machine_custody.proofs.Step.{plain_keeps}
use Rattle.law_machine_custody.proofs.laws.a_step_keeps_both_links.Goals as goal

pub returns : goal.returns
returns c = λ afar above ga gb desk unread event body scene plain offers good. plain_keeps desk unread event body scene plain offers good
