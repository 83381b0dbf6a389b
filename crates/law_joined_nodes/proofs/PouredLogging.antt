-- THE MERGED LOG OF A RUN OVER TCP is one of woven nodes.
use Rattle.std.proofs.Common.{List, None, Option, Some, [], refl, subst, sym, ap, ℕ, ◌++◌, ◌∙◌, ◌∷◌, ◌≡◌, ◌≤◌}
use Rattle.node_core.specs.declared.act.Act.{Act}
use Rattle.law_running_line.specs.New.{IsNew, NumbersDiffer}
use Rattle.law_running_line.specs.Reading.{Reading}
use Rattle.law_running_line.specs.Running.{Running}
use Rattle.law_running_line.specs.Timed.{AreRelated}
use Rattle.law_running_logs.specs.Right.{LogIsRight}
use Rattle.law_joined_nodes.specs.Joined.{Joined}
use Rattle.law_joined_nodes.specs.Logged.{LogsTo, logs_beside, logs_board, logs_go, logs_lost, logs_move, logs_none}
use Rattle.law_joined_nodes.specs.Pipes.{Pipes}
use Rattle.law_joined_nodes.specs.Poured.{at_rest, board_moves, goes_on, goes_poured, is_lost, node_pours}
use Rattle.law_joined_nodes.specs.PouredLog.{IsPouredToo, PouredLog, PouredLogRight, pours_beside, pours_board, pours_go, pours_lost, pours_move, pours_none}
use Rattle.law_joined_nodes.proofs.Books.{Books, begun_books}
use Rattle.law_joined_nodes.proofs.Logging.{log_right}
use Rattle.law_joined_nodes.proofs.Runs.{board_on, going_on, letting_go, lost_on, node_of_pours, pours_on}
use Rattle.law_joined_nodes.proofs.Weaving.{GoesOn, Joins, begun_joins}

pub woven_log : {reading : Reading} {latest : ℕ → ℕ} {s u : Joined} {p q : Pipes} {log : List (List ℕ)} → GoesOn reading → Joins reading s → Books s p → PouredLog reading latest s p log u q → LogsTo reading latest s log u
unfolding node_of_pours letting_go
woven_log goes joins books pours_none = logs_none
woven_log goes joins books (pours_move g least own later is) =
    let on = pours_on goes joins books g in
    logs_move (node_of_pours books g) least own (woven_log goes on.joins on.books later) is
woven_log goes joins books (pours_go g least own later is) =
    let on = going_on goes joins books g in
    logs_go (letting_go books g) least own (woven_log goes on.joins on.books later) is
woven_log goes joins books (pours_lost l same later) =
    let on = lost_on goes joins books l same in
    logs_lost l same (woven_log goes on.joins on.books later)
woven_log goes joins books (pours_board b same later) =
    let on = board_on goes joins books b same in
    logs_board b same (woven_log goes on.joins on.books later)
woven_log goes joins books (pours_beside machine number turn text least can kind later) = logs_beside machine number turn text least can kind (woven_log goes joins books later)

pub poured_log_right : {reading : Reading} → GoesOn reading → ((s : Running) → IsNew s → NumbersDiffer s → AreRelated reading s) → LogIsRight reading → PouredLogRight reading
poured_log_right goes new right s u q log begun poured within =
    log_right goes new right s u log begun (woven_log goes (begun_joins s begun (new s.line begun.new begun.differ)) (begun_books s begun) poured) within

-- ---- it is a run over TCP

pub poured_too : (reading : Reading) → IsPouredToo reading
poured_too reading latest s u p q log pours_none = record { told = []; poured = at_rest }
poured_too reading latest s u p q log (pours_move {told = acts} g least own later is) = (let rest = poured_too reading _ _ u _ q _ later in record { told = acts ++ rest.told; poured = goes_on (node_pours g) rest.poured })
poured_too reading latest s u p q log (pours_go {told = acts} g least own later is) = (let rest = poured_too reading _ _ u _ q _ later in record { told = acts ++ rest.told; poured = goes_on (goes_poured g) rest.poured })
poured_too reading latest s u p q log (pours_lost l same later) = (let rest = poured_too reading _ _ u _ q _ later in record { told = [] ++ rest.told; poured = goes_on (is_lost l same) rest.poured })
poured_too reading latest s u p q log (pours_board b same later) = (let rest = poured_too reading _ _ u _ q _ later in record { told = [] ++ rest.told; poured = goes_on (board_moves b same) rest.poured })
poured_too reading latest s u p q log (pours_beside machine number turn text least can kind later) = poured_too reading _ s u p q _ later
