-- An intake that is free in a session that stands has read all still, when a side of its machine has heard a message in time.
use Rattle.std.proofs.Common.{Bool, List, None, Option, Some, [], inl, inr, is_some, refl, sym, ℕ, ℤ, ◌∙◌, ◌∷◌, ◌≡◌, ◌⊎◌}
use Rattle.line_base.specs.declared.states.Role.{Role}
use Rattle.line_base.specs.declared.states.Role.TheVariants.{Downstream, Upstream}
use Rattle.line_base.specs.declared.states.Seen.{Seen}
use Rattle.line_base.specs.declared.states.SensorEvent.{SensorEvent}
use Rattle.line_base.specs.declared.states.Side.{Side}
use Rattle.line_base.specs.declared.states.Side.TheVariants.{Entry, Exit}
use Rattle.line_base.specs.declared.states.Transfer.{Transfer}
use Rattle.line_base.specs.declared.states.Transfer.TheVariants as said
use Rattle.board_record.specs.declared.record.Record.{Record}
use Rattle.board_record.specs.declared.sensed.Sensed.{Sensed}
use Rattle.hermes_horizontal.specs.Parts.{kind_of}
use Rattle.hermes_horizontal.specs.declared.message.Horizontal.{Horizontal}
use Rattle.hermes_horizontal.specs.declared.message.Horizontal.TheVariants as message
use Rattle.hermes_horizontal.specs.declared.message.Message.{Message}
use Rattle.session_core.specs.Breach.{unexpected}
use Rattle.session_core.specs.End.{SessionEnd, at_rest}
use Rattle.session_core.specs.Input.{heard}
use Rattle.session_core.specs.Row.{SessionRow, session_row}
use Rattle.session_core.specs.Table.{IsSessionRow, answers, end_of, is_alive, is_answered, is_notified, is_unsettled, passes_available, passes_finished, passes_forecast, passes_info, passes_over, passes_query, passes_ready, passes_revoked, passes_start, passes_stop, passes_unready, stands_downstream, stands_upstream}
use Rattle.session_core.specs.declared.state.SessionState.TheVariants.{NotConnected, Standing}
use Rattle.session_core.proofs.Rows.{row_is as session_row_is}
use Rattle.transfer_state.specs.Intake.{in_ends}
use Rattle.transfer_state.specs.declared.intake.InEnd.TheVariants.{Drop, Keep}
use Rattle.handover_out.specs.Row.{OutRow, outlet_row}
use Rattle.handover_out.specs.State.{held, would_open}
use Rattle.handover_out.specs.declared.input.OutInput.TheVariants as out_input
use Rattle.handover_in.specs.Row.{InRow, intake_row}
use Rattle.handover_in.specs.State.{InState}
use Rattle.handover_in.specs.Table.{IsIntakeRow, available_idle, hears_drop, hears_keep, hears_left, hears_wait, revoked_idle, running_drop, running_keep, running_wait}
use Rattle.handover_in.specs.declared.input.InInput.{InInput}
use Rattle.handover_in.specs.declared.input.InInput.TheVariants as in_input
use Rattle.handover_in.specs.declared.phase.Phase.{Phase as In}
use Rattle.handover_in.specs.declared.phase.Phase.TheVariants as inn
use Rattle.handover_in.proofs.Rows.{row_is as in_row_is}
use Rattle.node_core.specs.Desk.{Desk}
use Rattle.node_core.specs.Halves.{behind_opening, half_closed, intake_row_did, opening_board}
use Rattle.node_core.specs.Hears.{hears, intake_took, outlet_took, passed, rowed, taken}
use Rattle.node_core.specs.Session.{breaches}
use Rattle.node_core.specs.Sides.{with_session}
use Rattle.node_core.specs.declared.lane.Body.{Body as Machine}
use Rattle.law_custody.specs.Floor.{EntryFloor, Run, Sees, in_stopped, is_gone, is_in, is_stolen, on_across, on_back, on_begun, on_full, on_gone, on_stolen, sees_across, sees_back, sees_begun, sees_fresh, sees_full, sees_gone, sees_home, sees_stolen}
use Rattle.law_custody.specs.Place.{Place}
use Rattle.law_custody.specs.Unread.{IsEndRead, all_is_read, is_complete}
use Rattle.law_custody.specs.Words.{events_at}
use Rattle.law_machine_custody.specs.Ahead.{IsFreeRead}
use Rattle.law_machine_custody.specs.InTime.{IsInTime}
use Rattle.law_machine_custody.proofs.Announcing.{outlet_free, quiet_read}

-- ---- a side is closed

-- an entry without a connection is in no session that stands
pub shut_free : {us : List Sensed} (desk : Desk) (role : Role) (body : Machine) (row : Option InRow) → IsFreeRead us (intake_row_did desk (with_session Entry (at_rest role) body) row).body
shut_free desk role body None = record { read = λ stands free. let never : NotConnected ≡ Standing = stands in cc }
shut_free desk role body (Some row) = record { read = λ stands free. let never : NotConnected ≡ Standing = stands in cc }

pub half_free : {us : List Sensed} (desk : Desk) (side : Side) (role : Role) (body : Machine) → IsFreeRead us body → IsFreeRead us (half_closed desk side (with_session side (at_rest role) body)).body
half_free desk Entry role body r = shut_free desk role body (intake_row body.intake in_input.Closed)
half_free desk Exit role body r = outlet_free desk (with_session Exit (at_rest role) body) (outlet_row body.outlet out_input.Closed) (record { read = r.read })

pub breach_free : {us : List Sensed} (desk : Desk) (side : Side) (text : List ℕ) (body : Machine) → IsFreeRead us body → IsFreeRead us (breaches desk side text body).body
breach_free desk Entry text body r = half_free desk Entry body.entry.session.role body r
breach_free desk Exit text body r = half_free desk Exit body.exit.session.role body r

-- ---- an intake that is free behind what it heard was free before, or has read all

-- an offer and its revocation leave the phase
offer_frees : (s : InState) (board : Record) (row : InRow) → IsIntakeRow s (in_input.BoardAvailable board) row → row.after.phase ≡ inn.Idle → s.phase ≡ inn.Idle
offer_frees _ _ _ available_idle free = refl
offer_frees _ _ _ _ free = free

revocation_frees : (s : InState) (row : InRow) → IsIntakeRow s in_input.RevokeBoardAvailable row → row.after.phase ≡ inn.Idle → s.phase ≡ inn.Idle
revocation_frees _ _ revoked_idle free = refl
revocation_frees _ _ _ free = free

kept_read : {own : Seen} {es : List SensorEvent} {p : Place} {n : Run} → Sees own es p n → in_ends own said.Complete ≡ Keep → es ≡ []
kept_read sees_fresh is = refl
kept_read sees_home is = refl
kept_read sees_begun is = cc
kept_read sees_across is = cc
kept_read sees_back is = cc
kept_read sees_full is = cc
kept_read sees_gone is = cc
kept_read sees_stolen is = cc
kept_read on_begun is = refl
kept_read on_across is = refl
kept_read on_back is = cc
kept_read on_full is = cc
kept_read on_gone is = cc
kept_read on_stolen is = cc
kept_read is_in is = refl
kept_read is_gone is = refl
kept_read is_stolen is = refl

dropped_read : {own : Seen} {es : List SensorEvent} {p : Place} {n : Run} → Sees own es p n → in_ends own said.Complete ≡ Drop → es ≡ []
dropped_read sees_fresh is = refl
dropped_read sees_home is = refl
dropped_read sees_begun is = cc
dropped_read sees_across is = cc
dropped_read sees_back is = cc
dropped_read sees_full is = cc
dropped_read sees_gone is = cc
dropped_read sees_stolen is = cc
dropped_read on_begun is = refl
dropped_read on_across is = refl
dropped_read on_back is = cc
dropped_read on_full is = cc
dropped_read on_gone is = cc
dropped_read on_stolen is = cc
dropped_read is_in is = refl
dropped_read is_gone is = refl
dropped_read is_stolen is = refl

complete_read : {es : List SensorEvent} {drive : Bool} {p : Place} {r : Record} (s : InState) (id : ℕ) (row : InRow) → IsIntakeRow s (in_input.Finished said.Complete id) row
    → row.after.phase ≡ inn.Idle → EntryFloor s.phase es drive p r → es ≡ []
complete_read _ _ _ (hears_left _) free floor = cc
complete_read _ _ _ (running_drop other _ _) free floor = absurd (other refl)
complete_read _ _ _ (running_wait other _ _) free floor = absurd (other refl)
complete_read _ _ _ (running_keep other _ _) free floor = absurd (other refl)
complete_read _ _ _ (hears_keep _ is) free (in_stopped sees) = kept_read sees is
complete_read _ _ _ (hears_drop _ is) free (in_stopped sees) = dropped_read sees is
complete_read _ _ _ (hears_wait _ _) free floor = cc

finished_read : {es : List SensorEvent} {drive : Bool} {p : Place} {r : Record} {end : Transfer} (s : InState) (id : ℕ) (row : InRow) → IsEndRead end es → IsIntakeRow s (in_input.Finished end id) row
    → row.after.phase ≡ inn.Idle → EntryFloor s.phase es drive p r → es ≡ []
finished_read s id row all_is_read is free floor = refl
finished_read s id row is_complete is free floor = complete_read s id row is free floor

-- ---- what the halves take

took_out_free : {us : List Sensed} (desk : Desk) (heard_one : Message) (from body : Machine) (row : Option OutRow) → IsFreeRead us from → IsFreeRead us body
    → IsFreeRead us (passed desk Exit heard_one body (outlet_took desk from row)).body
took_out_free desk heard_one from body None f r = breach_free desk Exit (unexpected (kind_of heard_one.body)) body r
took_out_free desk heard_one from body (Some row) f r = record { read = f.read }

took_in_free : {us : List Sensed} (desk : Desk) (heard_one : Message) (w : InInput) (body : Machine) (row : Option InRow) → intake_row body.intake w ≡ row
    → ((r : InRow) → IsIntakeRow body.intake w r → r.after.phase ≡ inn.Idle → (body.intake.phase ≡ inn.Idle) ⊎ (events_at Entry us ≡ [])) → IsFreeRead us body
    → IsFreeRead us (passed desk Entry heard_one body (intake_took desk body row)).body
took_in_free desk heard_one w body None found frees r = breach_free desk Entry (unexpected (kind_of heard_one.body)) body r
took_in_free {us = us} desk heard_one w body (Some row) found frees r = record { read = λ stands free. by_what stands (frees row (in_row_is body.intake w row found) free) } where
  by_what : body.entry.session.state ≡ Standing → (body.intake.phase ≡ inn.Idle) ⊎ (events_at Entry us ≡ []) → events_at Entry us ≡ []
  by_what stands (inl idle) = r.read stands idle
  by_what stands (inr none) = none

-- ---- the rows of the session

exit_row_free : {us : List Sensed} (desk : Desk) (stamp : Option ℤ) (what : Horizontal) (unsettled : Bool) (s : SessionEnd) (row : SessionRow) (body : Machine) → IsSessionRow s (heard what unsettled) row → s.role ≡ Upstream
    → IsFreeRead us body → IsFreeRead us (taken desk Exit (record { stamp = stamp; body = what }) row.actions.first row.actions (with_session Exit row.after body)).body
exit_row_free desk stamp _ _ _ _ body stands_upstream role r = record { read = r.read }
exit_row_free desk stamp _ _ _ _ body is_unsettled role r = half_free desk Exit Upstream body r
exit_row_free desk stamp _ _ _ _ body stands_downstream role r = cc
exit_row_free desk stamp _ _ _ _ body (answers on) role r = record { read = r.read }
exit_row_free desk stamp _ _ _ _ body (is_answered on) role r = record { read = r.read }
exit_row_free desk stamp _ _ _ _ body (is_alive on) role r = record { read = r.read }
exit_row_free desk stamp _ _ _ _ body (is_notified on) role r = record { read = r.read }
exit_row_free desk stamp _ _ _ _ body (passes_over on) role r = record { read = r.read }
exit_row_free desk stamp _ _ _ _ body (passes_ready {k = k} {n = n} {f = f} {quality = quality}) role r =
    let now : Machine = with_session Exit (end_of Upstream Standing 0 n f) body in
    took_out_free desk (record { stamp = stamp; body = message.MachineReady quality }) now now (outlet_row body.outlet out_input.MachineReady) (record { read = r.read }) (record { read = r.read })
exit_row_free desk stamp _ _ _ _ body (passes_unready {k = k} {n = n} {f = f}) role r =
    let now : Machine = with_session Exit (end_of Upstream Standing 0 n f) body in
    took_out_free desk (record { stamp = stamp; body = message.RevokeMachineReady }) now now (outlet_row body.outlet out_input.RevokeMachineReady) (record { read = r.read }) (record { read = r.read })
exit_row_free desk stamp _ _ _ _ body (passes_start {k = k} {n = n} {f = f} {id = id}) role r =
    let now : Machine = with_session Exit (end_of Upstream Standing 0 n f) body in
    took_out_free desk (record { stamp = stamp; body = message.StartTransport id }) (record now { kept = behind_opening (would_open body.outlet id) body.kept }) now (outlet_row body.outlet (out_input.Start id (opening_board (would_open body.outlet id) body.kept))) (record { read = r.read }) (record { read = r.read })
exit_row_free desk stamp _ _ _ _ body (passes_stop {k = k} {n = n} {f = f} {said = end} {id = id}) role r =
    let now : Machine = with_session Exit (end_of Upstream Standing 0 n f) body in
    took_out_free desk (record { stamp = stamp; body = message.StopTransport end id }) now now (outlet_row body.outlet (out_input.Stop end id)) (record { read = r.read }) (record { read = r.read })
exit_row_free desk stamp _ _ _ _ body passes_query role r = record { read = r.read }
exit_row_free desk stamp _ _ _ _ body passes_available role r = cc
exit_row_free desk stamp _ _ _ _ body passes_revoked role r = cc
exit_row_free desk stamp _ _ _ _ body passes_finished role r = cc
exit_row_free desk stamp _ _ _ _ body passes_forecast role r = cc
exit_row_free desk stamp _ _ _ _ body passes_info role r = cc

entry_row_free : {us : List Sensed} {drive : Bool} {p : Place} {q : Record} (desk : Desk) (stamp : Option ℤ) (what : Horizontal) (unsettled : Bool) (s : SessionEnd) (row : SessionRow) (body : Machine) → IsSessionRow s (heard what unsettled) row
    → s.role ≡ Downstream → IsInTime Entry what us → EntryFloor body.intake.phase (events_at Entry us) drive p q → IsFreeRead us (with_session Entry s body)
    → IsFreeRead us (taken desk Entry (record { stamp = stamp; body = what }) row.actions.first row.actions (with_session Entry row.after body)).body
entry_row_free desk stamp _ _ _ _ body stands_upstream role in_time floor r = cc
entry_row_free desk stamp _ _ _ _ body is_unsettled role in_time floor r = cc
entry_row_free desk stamp _ _ _ _ body stands_downstream role in_time floor r = quiet_read in_time
entry_row_free desk stamp _ _ _ _ body (answers on) role in_time floor r = record { read = r.read }
entry_row_free desk stamp _ _ _ _ body (is_answered on) role in_time floor r = record { read = r.read }
entry_row_free desk stamp _ _ _ _ body (is_alive on) role in_time floor r = record { read = r.read }
entry_row_free desk stamp _ _ _ _ body (is_notified on) role in_time floor r = record { read = r.read }
entry_row_free desk stamp _ _ _ _ body (passes_over on) role in_time floor r = record { read = r.read }
entry_row_free desk stamp _ _ _ _ body passes_ready role in_time floor r = cc
entry_row_free desk stamp _ _ _ _ body passes_unready role in_time floor r = cc
entry_row_free desk stamp _ _ _ _ body passes_start role in_time floor r = cc
entry_row_free desk stamp _ _ _ _ body passes_stop role in_time floor r = cc
entry_row_free desk stamp _ _ _ _ body passes_query role in_time floor r = cc
entry_row_free desk stamp _ _ _ _ body (passes_available {k = k} {n = n} {f = f} {board = board}) role in_time floor r =
    took_in_free desk (record { stamp = stamp; body = message.BoardAvailable board }) (in_input.BoardAvailable board) (with_session Entry (end_of Downstream Standing 0 n f) body) (intake_row body.intake (in_input.BoardAvailable board)) refl
    (λ row is free. inl (offer_frees body.intake board row is free)) (record { read = r.read })
entry_row_free desk stamp _ _ _ _ body (passes_revoked {k = k} {n = n} {f = f}) role in_time floor r =
    took_in_free desk (record { stamp = stamp; body = message.RevokeBoardAvailable }) in_input.RevokeBoardAvailable (with_session Entry (end_of Downstream Standing 0 n f) body) (intake_row body.intake in_input.RevokeBoardAvailable) refl
    (λ row is free. inl (revocation_frees body.intake row is free)) (record { read = r.read })
entry_row_free desk stamp _ _ _ _ body (passes_finished {k = k} {n = n} {f = f} {said = end} {id = id}) role in_time floor r =
    took_in_free desk (record { stamp = stamp; body = message.TransportFinished end id }) (in_input.Finished end id) (with_session Entry (end_of Downstream Standing 0 n f) body) (intake_row body.intake (in_input.Finished end id)) refl
    (λ row is free. inr (finished_read body.intake id row in_time is free floor)) (record { read = r.read })
entry_row_free desk stamp _ _ _ _ body passes_forecast role in_time floor r = record { read = r.read }
entry_row_free desk stamp _ _ _ _ body passes_info role in_time floor r = record { read = r.read }

exit_free : {us : List Sensed} (desk : Desk) (heard_one : Message) (body : Machine) (row : Option SessionRow) → session_row body.exit.session (heard heard_one.body (is_some (held body.outlet))) ≡ row
    → body.exit.session.role ≡ Upstream → IsFreeRead us body → IsFreeRead us (rowed desk Exit heard_one body row).body
exit_free desk heard_one body None found role r = breach_free desk Exit (unexpected (kind_of heard_one.body)) body r
exit_free desk heard_one body (Some row) found role r =
    exit_row_free desk heard_one.stamp heard_one.body (is_some (held body.outlet)) body.exit.session row body (session_row_is body.exit.session (heard heard_one.body (is_some (held body.outlet))) row found) role r

entry_free : {us : List Sensed} {drive : Bool} {p : Place} {q : Record} (desk : Desk) (heard_one : Message) (body : Machine) (row : Option SessionRow) → session_row body.entry.session (heard heard_one.body (is_some (held body.outlet))) ≡ row
    → body.entry.session.role ≡ Downstream → IsInTime Entry heard_one.body us → EntryFloor body.intake.phase (events_at Entry us) drive p q → IsFreeRead us body → IsFreeRead us (rowed desk Entry heard_one body row).body
entry_free desk heard_one body None found role in_time floor r = breach_free desk Entry (unexpected (kind_of heard_one.body)) body r
entry_free desk heard_one body (Some row) found role in_time floor r =
    entry_row_free desk heard_one.stamp heard_one.body (is_some (held body.outlet)) body.entry.session row body (session_row_is body.entry.session (heard heard_one.body (is_some (held body.outlet))) row found) role in_time floor r

pub exit_hears_free : {us : List Sensed} (desk : Desk) (heard_one : Message) (body : Machine) → body.exit.session.role ≡ Upstream → IsFreeRead us body → IsFreeRead us (hears desk Exit heard_one body).body
exit_hears_free desk heard_one body role r = exit_free desk heard_one body (session_row body.exit.session (heard heard_one.body (is_some (held body.outlet)))) refl role r

pub entry_hears_free : {us : List Sensed} {drive : Bool} {p : Place} {q : Record} (desk : Desk) (heard_one : Message) (body : Machine) → body.entry.session.role ≡ Downstream → IsInTime Entry heard_one.body us
    → EntryFloor body.intake.phase (events_at Entry us) drive p q → IsFreeRead us body → IsFreeRead us (hears desk Entry heard_one body).body
entry_hears_free desk heard_one body role in_time floor r = entry_free desk heard_one body (session_row body.entry.session (heard heard_one.body (is_some (held body.outlet)))) refl role in_time floor r
