use Rattle.std.proofs.Common.{sym, subst}
use Rattle.law_custody.specs.Unread.{NotOver, not_over_in_gap}
use Rattle.law_custody.proofs.UnreadMoves.{moves_behind}
use Rattle.law_custody.proofs.late.a_board_is_let_go_behind_the_reading.Goals as goal

pub returns-clause-moved : goal.returns-clause-moved
returns-clause-moved c = λ step g l place around e m n left behind. moves_behind step g l place around e m n left behind

pub returns-clause-begun : goal.returns-clause-begun
returns-clause-begun c = λ g l at none. record { exit = none; entry = λ h. subst NotOver (sym at) not_over_in_gap }
