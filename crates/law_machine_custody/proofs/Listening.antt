-- When a side has heard a message, those behind it are still to be heard, or the side has no connection.
use Rattle.std.proofs.Common.{Bool, List, None, Option, Some, [], ap, drop, false, is_some, refl, ℕ, ℤ, ◌++◌, ◌∙◌, ◌∷◌, ◌≡◌}
use Rattle.line_base.specs.declared.states.Role.TheVariants.{Downstream, Upstream}
use Rattle.line_base.specs.declared.states.Side.{Side}
use Rattle.line_base.specs.declared.states.Side.TheVariants.{Entry, Exit}
use Rattle.board_record.specs.declared.record.Record.{Record}
use Rattle.hermes_horizontal.specs.Parts.{kind_of}
use Rattle.hermes_horizontal.specs.declared.message.Horizontal.{Horizontal}
use Rattle.hermes_horizontal.specs.declared.message.Horizontal.TheVariants as message
use Rattle.hermes_horizontal.specs.declared.message.Message.{Message}
use Rattle.session_core.specs.Breach.{unexpected}
use Rattle.session_core.specs.End.{SessionEnd, at_rest}
use Rattle.session_core.specs.Input.{heard}
use Rattle.session_core.specs.Row.{SessionRow, session_row}
use Rattle.session_core.specs.Table.{IsSessionRow, answers, end_of, is_alive, is_answered, is_notified, is_unsettled, passes_available, passes_finished, passes_forecast, passes_info, passes_over, passes_query, passes_ready, passes_revoked, passes_start, passes_stop, passes_unready, stands_downstream, stands_upstream}
use Rattle.session_core.specs.declared.state.SessionState.TheVariants.{Standing}
use Rattle.session_core.proofs.Rows.{row_is as session_row_is}
use Rattle.handover_out.specs.Row.{OutRow, outlet_row}
use Rattle.handover_out.specs.State.{held, would_open}
use Rattle.handover_out.specs.declared.act.OutDeed.{OutDeed}
use Rattle.handover_out.specs.declared.act.OutSend.{OutSend}
use Rattle.handover_out.specs.declared.act.OutSend.TheVariants as out_sends
use Rattle.handover_out.specs.declared.input.OutInput.TheVariants as out_input
use Rattle.handover_in.specs.Row.{InRow, intake_row}
use Rattle.handover_in.specs.declared.act.InDeed.{InDeed}
use Rattle.handover_in.specs.declared.act.InSend.{InSend}
use Rattle.handover_in.specs.declared.input.InInput.TheVariants as in_input
use Rattle.node_core.specs.Desk.{Desk}
use Rattle.node_core.specs.Done.{Done}
use Rattle.node_core.specs.Halves.{behind_opening, half_closed, opening_board, intake_row_did, outlet_row_did}
use Rattle.node_core.specs.Hears.{hears, intake_took, outlet_took, passed, rowed, taken}
use Rattle.node_core.specs.Session.{breaches}
use Rattle.node_core.specs.Sides.{is_open, with_session}
use Rattle.node_core.specs.Told.{in_told, out_told}
use Rattle.node_core.specs.declared.act.Act.TheVariants as acts
use Rattle.node_core.specs.declared.lane.Body.{Body as Machine}
use Rattle.law_machine_custody.specs.Flight.{unheard}
use Rattle.law_machine_custody.specs.Scene.{Scene, all_met}
use Rattle.law_machine_custody.proofs.Goes.{met_append}

-- these are still to be heard, or the side has no connection
pub data Then (side : Side) (rest : List Horizontal) (d : Done) (c : Scene) : Type 0 where
  still : unheard side (all_met d.acts c) ≡ rest → Then side rest d c
  closed : is_open side d.body ≡ false → Then side rest d c

-- ---- what a row tells takes no message away

pub out_leaves : (side : Side) (desk : Desk) (kept : List Record) (deed : Option OutDeed) (send : Option OutSend) (drive : Option Bool) (back : Option Record) (c : Scene)
    → unheard side (all_met (out_told desk kept (record { deed = deed; send = send; drive = drive; back = back })) c) ≡ unheard side c
out_leaves Entry desk kept None None None back c = refl
out_leaves Entry desk kept None None (Some on) back c = refl
out_leaves Entry desk [] None (Some out_sends.BoardAvailable) None back c = refl
out_leaves Entry desk [] None (Some out_sends.BoardAvailable) (Some on) back c = refl
out_leaves Entry desk (r ∷ rs) None (Some out_sends.BoardAvailable) None back c = refl
out_leaves Entry desk (r ∷ rs) None (Some out_sends.BoardAvailable) (Some on) back c = refl
out_leaves Entry desk kept None (Some out_sends.RevokeBoardAvailable) None back c = refl
out_leaves Entry desk kept None (Some out_sends.RevokeBoardAvailable) (Some on) back c = refl
out_leaves Entry desk kept None (Some (out_sends.Finished state id)) None back c = refl
out_leaves Entry desk kept None (Some (out_sends.Finished state id)) (Some on) back c = refl
out_leaves Entry desk kept (Some deed) None None back c = refl
out_leaves Entry desk kept (Some deed) None (Some on) back c = refl
out_leaves Entry desk [] (Some deed) (Some out_sends.BoardAvailable) None back c = refl
out_leaves Entry desk [] (Some deed) (Some out_sends.BoardAvailable) (Some on) back c = refl
out_leaves Entry desk (r ∷ rs) (Some deed) (Some out_sends.BoardAvailable) None back c = refl
out_leaves Entry desk (r ∷ rs) (Some deed) (Some out_sends.BoardAvailable) (Some on) back c = refl
out_leaves Entry desk kept (Some deed) (Some out_sends.RevokeBoardAvailable) None back c = refl
out_leaves Entry desk kept (Some deed) (Some out_sends.RevokeBoardAvailable) (Some on) back c = refl
out_leaves Entry desk kept (Some deed) (Some (out_sends.Finished state id)) None back c = refl
out_leaves Entry desk kept (Some deed) (Some (out_sends.Finished state id)) (Some on) back c = refl
out_leaves Exit desk kept None None None back c = refl
out_leaves Exit desk kept None None (Some on) back c = refl
out_leaves Exit desk [] None (Some out_sends.BoardAvailable) None back c = refl
out_leaves Exit desk [] None (Some out_sends.BoardAvailable) (Some on) back c = refl
out_leaves Exit desk (r ∷ rs) None (Some out_sends.BoardAvailable) None back c = refl
out_leaves Exit desk (r ∷ rs) None (Some out_sends.BoardAvailable) (Some on) back c = refl
out_leaves Exit desk kept None (Some out_sends.RevokeBoardAvailable) None back c = refl
out_leaves Exit desk kept None (Some out_sends.RevokeBoardAvailable) (Some on) back c = refl
out_leaves Exit desk kept None (Some (out_sends.Finished state id)) None back c = refl
out_leaves Exit desk kept None (Some (out_sends.Finished state id)) (Some on) back c = refl
out_leaves Exit desk kept (Some deed) None None back c = refl
out_leaves Exit desk kept (Some deed) None (Some on) back c = refl
out_leaves Exit desk [] (Some deed) (Some out_sends.BoardAvailable) None back c = refl
out_leaves Exit desk [] (Some deed) (Some out_sends.BoardAvailable) (Some on) back c = refl
out_leaves Exit desk (r ∷ rs) (Some deed) (Some out_sends.BoardAvailable) None back c = refl
out_leaves Exit desk (r ∷ rs) (Some deed) (Some out_sends.BoardAvailable) (Some on) back c = refl
out_leaves Exit desk kept (Some deed) (Some out_sends.RevokeBoardAvailable) None back c = refl
out_leaves Exit desk kept (Some deed) (Some out_sends.RevokeBoardAvailable) (Some on) back c = refl
out_leaves Exit desk kept (Some deed) (Some (out_sends.Finished state id)) None back c = refl
out_leaves Exit desk kept (Some deed) (Some (out_sends.Finished state id)) (Some on) back c = refl

pub in_leaves : (side : Side) (desk : Desk) (deed : Option InDeed) (send : Option InSend) (drive : Option Bool) (keep : Option Record) (gone : Bool) (c : Scene)
    → unheard side (all_met (in_told desk (record { deed = deed; send = send; drive = drive; keep = keep; taken = gone })) c) ≡ unheard side c
in_leaves Entry desk None None None keep gone c = refl
in_leaves Entry desk None None (Some on) keep gone c = refl
in_leaves Entry desk None (Some send) None keep gone c = refl
in_leaves Entry desk None (Some send) (Some on) keep gone c = refl
in_leaves Entry desk (Some deed) None None keep gone c = refl
in_leaves Entry desk (Some deed) None (Some on) keep gone c = refl
in_leaves Entry desk (Some deed) (Some send) None keep gone c = refl
in_leaves Entry desk (Some deed) (Some send) (Some on) keep gone c = refl
in_leaves Exit desk None None None keep gone c = refl
in_leaves Exit desk None None (Some on) keep gone c = refl
in_leaves Exit desk None (Some send) None keep gone c = refl
in_leaves Exit desk None (Some send) (Some on) keep gone c = refl
in_leaves Exit desk (Some deed) None None keep gone c = refl
in_leaves Exit desk (Some deed) None (Some on) keep gone c = refl
in_leaves Exit desk (Some deed) (Some send) None keep gone c = refl
in_leaves Exit desk (Some deed) (Some send) (Some on) keep gone c = refl

-- ---- a side that is closed has no connection

pub out_open : (desk : Desk) (body : Machine) (row : Option OutRow) → is_open Exit (outlet_row_did desk body row).body ≡ is_open Exit body
out_open desk body None = refl
out_open desk body (Some row) = refl

pub in_open : (desk : Desk) (body : Machine) (row : Option InRow) → is_open Entry (intake_row_did desk body row).body ≡ is_open Entry body
in_open desk body None = refl
in_open desk body (Some row) = refl

half_open : (desk : Desk) (side : Side) (body : Machine) → is_open side (half_closed desk side body).body ≡ is_open side body
half_open desk Entry body = in_open desk body (intake_row body.intake in_input.Closed)
half_open desk Exit body = out_open desk body (outlet_row body.outlet out_input.Closed)

pub breach_shuts : (desk : Desk) (side : Side) (text : List ℕ) (body : Machine) → is_open side (breaches desk side text body).body ≡ false
breach_shuts desk Entry text body = half_open desk Entry (with_session Entry (at_rest body.entry.session.role) body)
breach_shuts desk Exit text body = half_open desk Exit (with_session Exit (at_rest body.exit.session.role) body)

-- ---- what the halves take

took_out : (desk : Desk) (heard_one : Message) (rest : List Horizontal) (from body : Machine) (row : Option OutRow) (c : Scene) → unheard Exit c ≡ heard_one.body ∷ rest
    → Then Exit rest (passed desk Exit heard_one body (outlet_took desk from row)) c
took_out desk heard_one rest from body None c is = closed (breach_shuts desk Exit (unexpected (kind_of heard_one.body)) body)
took_out desk heard_one rest from body (Some row) c is =
    still (out_leaves Exit desk from.kept row.act.deed row.act.send row.act.drive row.act.back (all_met (acts.Hears Exit heard_one ∷ []) c) ∙ ap (drop 1) is)

took_in : (desk : Desk) (heard_one : Message) (rest : List Horizontal) (body : Machine) (row : Option InRow) (c : Scene) → unheard Entry c ≡ heard_one.body ∷ rest
    → Then Entry rest (passed desk Entry heard_one body (intake_took desk body row)) c
took_in desk heard_one rest body None c is = closed (breach_shuts desk Entry (unexpected (kind_of heard_one.body)) body)
took_in desk heard_one rest body (Some row) c is =
    still (in_leaves Entry desk row.act.deed row.act.send row.act.drive row.act.keep row.act.taken (all_met (acts.Hears Entry heard_one ∷ []) c) ∙ ap (drop 1) is)

-- the intake is told that the session stands
stands_then : (desk : Desk) (heard_one : Message) (rest : List Horizontal) (body : Machine) (row : Option InRow) (c : Scene) → unheard Entry c ≡ heard_one.body ∷ rest
    → Then Entry rest (record { body = (intake_row_did desk body row).body; acts = acts.Hears Entry heard_one ∷ ((intake_row_did desk body row).acts ++ []) }) c
stands_then desk heard_one rest body None c is = still (ap (drop 1) is)
stands_then desk heard_one rest body (Some row) c is =
    let now : Scene = all_met (acts.Hears Entry heard_one ∷ []) c in
    still (ap (unheard Entry) (met_append (in_told desk row.act) [] now) ∙ in_leaves Entry desk row.act.deed row.act.send row.act.drive row.act.keep row.act.taken now ∙ ap (drop 1) is)

-- ---- the rows of the session

exit_row_then : (desk : Desk) (stamp : Option ℤ) (what : Horizontal) (rest : List Horizontal) (unsettled : Bool) (s : SessionEnd) (row : SessionRow) (body : Machine) (c : Scene)
    → IsSessionRow s (heard what unsettled) row → s.role ≡ Upstream → unheard Exit c ≡ what ∷ rest
    → Then Exit rest (taken desk Exit (record { stamp = stamp; body = what }) row.actions.first row.actions (with_session Exit row.after body)) c
exit_row_then desk stamp _ rest _ _ _ body c stands_upstream role is = still (ap (drop 1) is)
exit_row_then desk stamp _ rest _ _ _ body c is_unsettled role is = closed (half_open desk Exit (with_session Exit (at_rest Upstream) body))
exit_row_then desk stamp _ rest _ _ _ body c stands_downstream role is = cc
exit_row_then desk stamp _ rest _ _ _ body c (answers on) role is = still (ap (drop 1) is)
exit_row_then desk stamp _ rest _ _ _ body c (is_answered on) role is = still (ap (drop 1) is)
exit_row_then desk stamp _ rest _ _ _ body c (is_alive on) role is = still (ap (drop 1) is)
exit_row_then desk stamp _ rest _ _ _ body c (is_notified on) role is = still (ap (drop 1) is)
exit_row_then desk stamp _ rest _ _ _ body c (passes_over on) role is = still (ap (drop 1) is)
exit_row_then desk stamp _ rest _ _ _ body c (passes_ready {k = k} {n = n} {f = f} {quality = quality}) role is =
    let now : Machine = with_session Exit (end_of Upstream Standing 0 n f) body in
    took_out desk (record { stamp = stamp; body = message.MachineReady quality }) rest now now (outlet_row body.outlet out_input.MachineReady) c is
exit_row_then desk stamp _ rest _ _ _ body c (passes_unready {k = k} {n = n} {f = f}) role is =
    let now : Machine = with_session Exit (end_of Upstream Standing 0 n f) body in
    took_out desk (record { stamp = stamp; body = message.RevokeMachineReady }) rest now now (outlet_row body.outlet out_input.RevokeMachineReady) c is
exit_row_then desk stamp _ rest _ _ _ body c (passes_start {k = k} {n = n} {f = f} {id = id}) role is =
    let now : Machine = with_session Exit (end_of Upstream Standing 0 n f) body in
    took_out desk (record { stamp = stamp; body = message.StartTransport id }) rest (record now { kept = behind_opening (would_open body.outlet id) body.kept }) now (outlet_row body.outlet (out_input.Start id (opening_board (would_open body.outlet id) body.kept))) c is
exit_row_then desk stamp _ rest _ _ _ body c (passes_stop {k = k} {n = n} {f = f} {said = said} {id = id}) role is =
    let now : Machine = with_session Exit (end_of Upstream Standing 0 n f) body in
    took_out desk (record { stamp = stamp; body = message.StopTransport said id }) rest now now (outlet_row body.outlet (out_input.Stop said id)) c is
exit_row_then desk stamp _ rest _ _ _ body c passes_query role is = still (ap (drop 1) is)
exit_row_then desk stamp _ rest _ _ _ body c passes_available role is = cc
exit_row_then desk stamp _ rest _ _ _ body c passes_revoked role is = cc
exit_row_then desk stamp _ rest _ _ _ body c passes_finished role is = cc
exit_row_then desk stamp _ rest _ _ _ body c passes_forecast role is = cc
exit_row_then desk stamp _ rest _ _ _ body c passes_info role is = cc

entry_row_then : (desk : Desk) (stamp : Option ℤ) (what : Horizontal) (rest : List Horizontal) (unsettled : Bool) (s : SessionEnd) (row : SessionRow) (body : Machine) (c : Scene)
    → IsSessionRow s (heard what unsettled) row → s.role ≡ Downstream → unheard Entry c ≡ what ∷ rest
    → Then Entry rest (taken desk Entry (record { stamp = stamp; body = what }) row.actions.first row.actions (with_session Entry row.after body)) c
entry_row_then desk stamp _ rest _ _ _ body c stands_upstream role is = cc
entry_row_then desk stamp _ rest _ _ _ body c is_unsettled role is = cc
entry_row_then desk stamp _ rest _ _ _ body c (stands_downstream {k = k} {n = n} {f = f} {service = service}) role is =
    stands_then desk (record { stamp = stamp; body = message.ServiceDescription service }) rest (with_session Entry (end_of Downstream Standing 0 n service.features) body) (intake_row body.intake in_input.Stand) c is
entry_row_then desk stamp _ rest _ _ _ body c (answers on) role is = still (ap (drop 1) is)
entry_row_then desk stamp _ rest _ _ _ body c (is_answered on) role is = still (ap (drop 1) is)
entry_row_then desk stamp _ rest _ _ _ body c (is_alive on) role is = still (ap (drop 1) is)
entry_row_then desk stamp _ rest _ _ _ body c (is_notified on) role is = still (ap (drop 1) is)
entry_row_then desk stamp _ rest _ _ _ body c (passes_over on) role is = still (ap (drop 1) is)
entry_row_then desk stamp _ rest _ _ _ body c passes_ready role is = cc
entry_row_then desk stamp _ rest _ _ _ body c passes_unready role is = cc
entry_row_then desk stamp _ rest _ _ _ body c passes_start role is = cc
entry_row_then desk stamp _ rest _ _ _ body c passes_stop role is = cc
entry_row_then desk stamp _ rest _ _ _ body c passes_query role is = cc
entry_row_then desk stamp _ rest _ _ _ body c (passes_available {k = k} {n = n} {f = f} {board = board}) role is =
    took_in desk (record { stamp = stamp; body = message.BoardAvailable board }) rest (with_session Entry (end_of Downstream Standing 0 n f) body) (intake_row body.intake (in_input.BoardAvailable board)) c is
entry_row_then desk stamp _ rest _ _ _ body c (passes_revoked {k = k} {n = n} {f = f}) role is =
    took_in desk (record { stamp = stamp; body = message.RevokeBoardAvailable }) rest (with_session Entry (end_of Downstream Standing 0 n f) body) (intake_row body.intake in_input.RevokeBoardAvailable) c is
entry_row_then desk stamp _ rest _ _ _ body c (passes_finished {k = k} {n = n} {f = f} {said = said} {id = id}) role is =
    took_in desk (record { stamp = stamp; body = message.TransportFinished said id }) rest (with_session Entry (end_of Downstream Standing 0 n f) body) (intake_row body.intake (in_input.Finished said id)) c is
entry_row_then desk stamp _ rest _ _ _ body c passes_forecast role is = still (ap (drop 1) is)
entry_row_then desk stamp _ rest _ _ _ body c passes_info role is = still (ap (drop 1) is)

exit_then : (desk : Desk) (heard_one : Message) (rest : List Horizontal) (body : Machine) (c : Scene) (row : Option SessionRow) → session_row body.exit.session (heard heard_one.body (is_some (held body.outlet))) ≡ row
    → body.exit.session.role ≡ Upstream → unheard Exit c ≡ heard_one.body ∷ rest → Then Exit rest (rowed desk Exit heard_one body row) c
exit_then desk heard_one rest body c None found role is = closed (breach_shuts desk Exit (unexpected (kind_of heard_one.body)) body)
exit_then desk heard_one rest body c (Some row) found role is =
    exit_row_then desk heard_one.stamp heard_one.body rest (is_some (held body.outlet)) body.exit.session row body c (session_row_is body.exit.session (heard heard_one.body (is_some (held body.outlet))) row found) role is

entry_then : (desk : Desk) (heard_one : Message) (rest : List Horizontal) (body : Machine) (c : Scene) (row : Option SessionRow) → session_row body.entry.session (heard heard_one.body (is_some (held body.outlet))) ≡ row
    → body.entry.session.role ≡ Downstream → unheard Entry c ≡ heard_one.body ∷ rest → Then Entry rest (rowed desk Entry heard_one body row) c
entry_then desk heard_one rest body c None found role is = closed (breach_shuts desk Entry (unexpected (kind_of heard_one.body)) body)
entry_then desk heard_one rest body c (Some row) found role is =
    entry_row_then desk heard_one.stamp heard_one.body rest (is_some (held body.outlet)) body.entry.session row body c (session_row_is body.entry.session (heard heard_one.body (is_some (held body.outlet))) row found) role is

pub exit_hears_then : (desk : Desk) (heard_one : Message) (rest : List Horizontal) (body : Machine) (c : Scene) → body.exit.session.role ≡ Upstream → unheard Exit c ≡ heard_one.body ∷ rest
    → Then Exit rest (hears desk Exit heard_one body) c
exit_hears_then desk heard_one rest body c role is = exit_then desk heard_one rest body c (session_row body.exit.session (heard heard_one.body (is_some (held body.outlet)))) refl role is

pub entry_hears_then : (desk : Desk) (heard_one : Message) (rest : List Horizontal) (body : Machine) (c : Scene) → body.entry.session.role ≡ Downstream → unheard Entry c ≡ heard_one.body ∷ rest
    → Then Entry rest (hears desk Entry heard_one body) c
entry_hears_then desk heard_one rest body c role is = entry_then desk heard_one rest body c (session_row body.entry.session (heard heard_one.body (is_some (held body.outlet)))) refl role is
