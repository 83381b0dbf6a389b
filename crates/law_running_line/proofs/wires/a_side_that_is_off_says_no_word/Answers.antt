use Rattle.law_running_line.proofs.WiresStep.{step_mutes}
use Rattle.law_running_line.proofs.wires.a_side_that_is_off_says_no_word.Goals as goal

pub returns : goal.returns
returns c = λ side desk read event body stays off. step_mutes side desk read event body stays off
