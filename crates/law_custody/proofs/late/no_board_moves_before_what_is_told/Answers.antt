use Rattle.law_custody.proofs.Awaited.{still_down, still_up}
use Rattle.law_custody.proofs.late.no_board_moves_before_what_is_told.Goals as goal

pub returns-clause-down : goal.returns-clause-down
returns-clause-down v = λ step g l c w k awaits h e. still_down step g l c w k awaits h e

pub returns-clause-up : goal.returns-clause-up
returns-clause-up v = λ step g l c z k h e. still_up step g l c z k h e
