-- The entry of a machine hears the oldest message to it, in time.
use Rattle.std.proofs.Common.{Bool, List, None, Option, Some, [], is_some, refl, subst, sym, ℤ, ◌++◌, ◌∙◌, ◌∷◌, ◌≡◌}
use Rattle.line_base.specs.declared.states.Role.TheVariants.{Downstream, Upstream}
use Rattle.line_base.specs.declared.states.Side.TheVariants.{Entry}
use Rattle.board_record.specs.declared.record.Record.{Record}
use Rattle.board_record.specs.declared.sensed.Sensed.{Sensed}
use Rattle.hermes_horizontal.specs.Parts.{kind_of}
use Rattle.hermes_horizontal.specs.declared.message.Horizontal.{Horizontal}
use Rattle.hermes_horizontal.specs.declared.message.Horizontal.TheVariants as message
use Rattle.hermes_horizontal.specs.declared.message.Message.{Message}
use Rattle.hermes_horizontal.specs.declared.message.Ping.TheVariants as ping
use Rattle.hermes_horizontal.specs.declared.message.Service.{Service}
use Rattle.session_core.specs.Acts.{one}
use Rattle.session_core.specs.Breach.{unexpected}
use Rattle.session_core.specs.End.{SessionEnd}
use Rattle.session_core.specs.Input.{heard}
use Rattle.session_core.specs.Row.{SessionRow, session_row}
use Rattle.session_core.specs.Table.{IsSessionRow, answers, end_of, is_alive, is_answered, is_notified, is_unsettled, passes_available, passes_finished, passes_forecast, passes_info, passes_over, passes_query, passes_ready, passes_revoked, passes_start, passes_stop, passes_unready, stands_downstream, stands_upstream}
use Rattle.session_core.specs.declared.actions.Action.TheVariants.{Stand}
use Rattle.session_core.specs.declared.state.SessionState.TheVariants.{Handshake, Standing}
use Rattle.session_core.proofs.Rows.{row_is as session_row_is}
use Rattle.handover_out.specs.State.{held}
use Rattle.handover_in.specs.Row.{intake_row}
use Rattle.handover_in.specs.declared.act.InAct.{InAct}
use Rattle.handover_in.specs.declared.input.InInput.{InInput}
use Rattle.handover_in.specs.declared.input.InInput.TheVariants as in_input
use Rattle.node_core.specs.Desk.{Desk}
use Rattle.node_core.specs.Done.{behind}
use Rattle.node_core.specs.Halves.{intake_did, intake_row_did, settled}
use Rattle.node_core.specs.Hears.{hears, intake_took, passed, rowed, taken}
use Rattle.node_core.specs.Session.{actions_did}
use Rattle.node_core.specs.Sides.{with_session}
use Rattle.node_core.specs.declared.act.Act.TheVariants as acts
use Rattle.node_core.specs.declared.lane.Body.{Body as Machine}
use Rattle.law_custody.specs.Events.{EntryStep, IsContent, gone_by, hearing_down}
use Rattle.law_custody.specs.Pair.{Body, Ghost, Pair}
use Rattle.law_custody.specs.Words.{down_words, events_at, up_words}
use Rattle.law_custody.proofs.Ahead.{none_later, still_later}
use Rattle.law_custody.proofs.EntryEvents.{hears_available_unread, hears_finished_unread, hears_revoke_available_unread, hears_upstream}
use Rattle.law_custody.proofs.HandsContents.{contents_settled}
use Rattle.law_custody.proofs.LinkEvents.{passes_down, says_aside_up}
use Rattle.law_custody.proofs.Lists.{sent_up}
use Rattle.law_custody.proofs.Unread.{none_unread}
use Rattle.law_machine_custody.specs.Scene.{Scene, all_met, link_above, link_below}
use Rattle.law_machine_custody.specs.Good.{Afar, Goes, GoesBy, Good, Holds, ReadsFirst}
use Rattle.law_machine_custody.specs.InTime.{IsInTime}
use Rattle.law_machine_custody.proofs.Closing.{breaches_unread, told_above}
use Rattle.law_machine_custody.proofs.Goes.{goes_behind, met_append}
use Rattle.law_machine_custody.proofs.Holding.{StartsNot, holds_at_entry, holds_settled}
use Rattle.law_machine_custody.proofs.InTime.{now_in_time}
use Rattle.law_machine_custody.proofs.Rows.{row_at_entry, unheard_above}
use Rattle.law_machine_custody.proofs.Told.{in_messages, in_met, in_scene, in_words, keep_is}

-- the session goes on, in the same state
pub same_entry : {afar : Afar} {above : List Record} {us : List Sensed} {ga gb : Ghost} (body : Machine) (c : Scene) (s s2 : SessionEnd) → s2.state ≡ s.state → s2.role ≡ s.role
    → Good afar above us ga gb (with_session Entry s body) c → Good afar above us ga gb (with_session Entry s2 body) c
same_entry {us = us} {ga = ga} body c s s2 state role g = record {
  above_pair = subst (λ y. Pair ga (record (link_above us body c) { entry = y })) (sym state) g.above_pair;
  below_pair = g.below_pair;
  boards = g.boards;
  above_contents = g.above_contents;
  below_contents = g.below_contents;
  above_holds = g.above_holds;
  below_holds = g.below_holds;
  entry_role = role ∙ g.entry_role;
  exit_role = g.exit_role;
  away = g.away;
  here = g.here;
  recent = g.recent;
}

-- a message that is no word is heard, and messages that are none are said
entry_aside : {afar : Afar} {above : List Record} {us : List Sensed} {ga gb : Ghost} (body : Machine) (c : Scene) (what : Horizontal) (rest ms : List Horizontal)
    → down_words (what ∷ rest) ≡ down_words rest → up_words ms ≡ [] → Good afar above us ga gb body (unheard_above (what ∷ rest) c)
    → Goes afar above us ga gb (unheard_above (what ∷ rest) c) body (told_above ms (unheard_above rest c))
entry_aside {us = us} {ga = ga} {gb = gb} body c what rest ms silent quiet g = record {
  a = ga;
  b = gb;
  good = record {
    above_pair = says_aside_up ga (link_above us body (unheard_above rest c)) ms quiet (passes_down ga (link_above us body c) what rest silent g.above_pair);
    below_pair = g.below_pair;
    boards = g.boards;
    above_contents = rw (sent_up c.above.stands ms c.above.up, quiet) (rw silent at g.above_contents);
    below_contents = g.below_contents;
    above_holds = g.above_holds;
    below_holds = g.below_holds;
    entry_role = g.entry_role;
    exit_role = g.exit_role;
    away = g.away;
    here = g.here;
    recent = g.recent;
  };
  lists_above = λ kept i q boards h. h;
  lists_below = λ o p kept boards h. h;
  still_first = λ n. n;
  still_over = λ n. n;
}

-- the intake has this row for a word
entry_rowed : {afar : Afar} {above : List Record} {us : List Sensed} {ga gb : Ghost} (body : Machine) (c : Scene) (desk : Desk) (heard_one : Message) (w : InInput) (rest : List Horizontal) → StartsNot w
    → Good afar above us ga gb body (unheard_above (heard_one.body ∷ rest) c) → EntryStep (gone_by afar.gone_above) above ga (link_above us body (unheard_above (heard_one.body ∷ rest) c)) w us rest
    → GoesBy afar above us ga gb (unheard_above (heard_one.body ∷ rest) c) (passed desk Entry heard_one body (intake_took desk body (intake_row body.intake w)))
entry_rowed {afar = afar} {above = above} {us = us} {ga = ga} {gb = gb} body c desk heard_one w rest plain g step =
    subst (λ row. GoesBy afar above us ga gb (unheard_above (heard_one.body ∷ rest) c) (passed desk Entry heard_one body (intake_took desk body row))) (sym step.is)
    (goes_behind (acts.Hears Entry heard_one ∷ []) (intake_did desk body step.row) (row_at_entry desk w rest plain g step g.below_pair))

-- the upstream machine described itself: the session stands, and the intake is told
described_did : {afar : Afar} {above : List Record} {us : List Sensed} {ga gb : Ghost} (body : Machine) (c : Scene) (service : Service) (rest : List Horizontal) (s s2 : SessionEnd)
    → s2.state ≡ Standing → s2.role ≡ Downstream → events_at Entry us ≡ [] → Good afar above us ga gb (with_session Entry s body) (unheard_above (message.ServiceDescription service ∷ rest) c)
    → (step : EntryStep (gone_by afar.gone_above) above ga (record (hearing_down (link_above [] (with_session Entry s body) c) (message.ServiceDescription service) rest) { entry = Standing }) in_input.Stand [] rest)
    → Goes afar above us ga gb (unheard_above (message.ServiceDescription service ∷ rest) c) (record (with_session Entry s2 body) { intake = step.row.after; kept = settled step.row.act.keep body.kept })
    (in_scene step.row.act.send step.row.act.drive (unheard_above rest c))
described_did {afar = afar} {us = us} {ga = ga} {gb = gb} body c service rest s s2 stands role none g step =
    let ms = in_messages step.row.act.send in
    let e = in_words step.row.act.send in
    let keep = keep_is step.row.act.keep body.kept in
    let d : Scene = in_scene step.row.act.send step.row.act.drive (unheard_above rest c) in
    record {
      a = ga;
      b = gb;
      good = record {
        above_pair = subst (λ y. Pair ga (record (link_above us (record body { intake = step.row.after }) d) { entry = y })) (sym stands)
            (still_later ga (record (link_above us (record body { intake = step.row.after }) d) { entry = Standing }) us none (step.pair ms e));
        below_pair = g.below_pair;
        boards = subst (λ kept. Body body.outlet.phase gb.place kept step.row.after.phase ga.place c.boards) keep (step.body body.outlet.phase gb.place body.kept c.boards g.boards);
        above_contents = step.contents ms e g.above_contents;
        below_contents = subst (λ kept. IsContent (gone_by afar.gone_below) (link_below us body c) kept) keep (contents_settled step.row.act.keep g.below_contents);
        above_holds = holds_at_entry body.intake in_input.Stand step.row tt step.is (λ r keeps. (step.settles r keeps).free) step.body g.above_holds;
        below_holds = subst (λ kept. Holds afar.gone_below kept body.last_offer gb.place body.outlet.phase c.below.intake.phase) keep (holds_settled step.row.act.keep g.below_holds);
        entry_role = role;
        exit_role = g.exit_role;
        away = g.away;
        here = g.here;
        recent = g.recent;
      };
      lists_above = λ kept i q boards h. h;
      lists_below = λ o p kept boards h. h;
      still_first = λ n. n;
      still_over = λ n. n;
    }

entry_described : {afar : Afar} {above : List Record} {us : List Sensed} {ga gb : Ghost} (body : Machine) (c : Scene) (desk : Desk) (heard_one : Message) (service : Service) (rest : List Horizontal) (s s2 : SessionEnd)
    → s2.state ≡ Standing → s2.role ≡ Downstream → events_at Entry us ≡ [] → Good afar above us ga gb (with_session Entry s body) (unheard_above (message.ServiceDescription service ∷ rest) c)
    → heard_one.body ≡ message.ServiceDescription service
    → GoesBy afar above us ga gb (unheard_above (message.ServiceDescription service ∷ rest) c) (behind (acts.Hears Entry heard_one ∷ []) (actions_did desk Entry (one Stand) (with_session Entry s2 body)))
entry_described {afar = afar} {above = above} {us = us} {ga = ga} {gb = gb} body c desk heard_one service rest s s2 stands role none g is =
    let read = none_later ga (link_above us (with_session Entry s body) (unheard_above (message.ServiceDescription service ∷ rest) c)) us none g.above_pair in
    let step : EntryStep (gone_by afar.gone_above) above ga (record (hearing_down (link_above [] (with_session Entry s body) c) (message.ServiceDescription service) rest) { entry = Standing }) in_input.Stand [] rest
    = (hears_upstream ga (link_above [] (with_session Entry s body) c) service rest read).1 in
    let act : InAct = step.row.act in
    let before : Scene = unheard_above (message.ServiceDescription service ∷ rest) c in
    let now : Scene = unheard_above rest c in
    let body2 : Machine = with_session Entry s2 body in
    subst (λ row. Goes afar above us ga gb before (intake_row_did desk body2 row).body (all_met ((intake_row_did desk body2 row).acts ++ []) now)) (sym step.is)
    (subst (λ z. Goes afar above us ga gb before (intake_did desk body2 step.row).body z)
    (sym (met_append (intake_did desk body2 step.row).acts [] now ∙ in_met desk act.deed act.send act.drive act.keep act.taken now))
    (described_did body c service rest s s2 stands role none g step))

-- ---- the rows of the session

entry_takes : {afar : Afar} {above : List Record} {us : List Sensed} {ga gb : Ghost} (body : Machine) (c : Scene) (desk : Desk) (stamp : Option ℤ) (rest : List Horizontal) (what : Horizontal) (unsettled : Bool) (s : SessionEnd) (row : SessionRow)
    → IsSessionRow s (heard what unsettled) row → ReadsFirst us ga → IsInTime Entry what us
    → Good afar above us ga gb (with_session Entry s body) (unheard_above (what ∷ rest) c)
    → GoesBy afar above us ga gb (unheard_above (what ∷ rest) c) (taken desk Entry (record { stamp = stamp; body = what }) row.actions.first row.actions (with_session Entry row.after body))
entry_takes body c desk stamp rest _ _ _ _ (stands_upstream {k = k}) first in_time g = let wrong : Upstream ≡ Downstream = g.entry_role in cc
entry_takes body c desk stamp rest _ _ _ _ (is_unsettled {k = k}) first in_time g = let wrong : Upstream ≡ Downstream = g.entry_role in cc
entry_takes body c desk stamp rest _ _ _ _ (stands_downstream {k = k} {n = n} {f = f} {service = service}) first in_time g =
    entry_described body c desk (record { stamp = stamp; body = message.ServiceDescription service }) service rest (end_of Downstream Handshake k n f) (end_of Downstream Standing 0 n service.features) refl refl in_time g refl
entry_takes body c desk stamp rest _ _ _ _ (answers {role = role} {state = state} {k = k} {n = n} {f = f} {id = id} is) first in_time g =
    entry_aside _ c (message.CheckAlive (Some ping.Ask) id) rest (message.CheckAlive (Some ping.Answer) id ∷ []) refl refl (same_entry body _ (end_of role state k n f) (end_of role state 0 n f) refl refl g)
entry_takes body c desk stamp rest _ _ _ _ (is_answered {role = role} {state = state} {k = k} {n = n} {f = f} {id = id} is) first in_time g =
    entry_aside _ c (message.CheckAlive (Some ping.Answer) id) rest [] refl refl (same_entry body _ (end_of role state k n f) (end_of role state 0 n f) refl refl g)
entry_takes body c desk stamp rest _ _ _ _ (is_alive {role = role} {state = state} {k = k} {n = n} {f = f} {id = id} is) first in_time g =
    entry_aside _ c (message.CheckAlive None id) rest [] refl refl (same_entry body _ (end_of role state k n f) (end_of role state 0 n f) refl refl g)
entry_takes body c desk stamp rest _ _ _ _ (is_notified {role = role} {state = state} {k = k} {n = n} {f = f} {code = code} {severity = severity} {text = text} is) first in_time g =
    entry_aside _ c (message.Notification code severity text) rest [] refl refl (same_entry body _ (end_of role state k n f) (end_of role state 0 n f) refl refl g)
entry_takes body c desk stamp rest _ _ _ _ (passes_over {role = role} {state = state} {k = k} {n = n} {f = f} {name = name} is) first in_time g =
    entry_aside _ c (message.Other name) rest [] refl refl (same_entry body _ (end_of role state k n f) (end_of role state 0 n f) refl refl g)
entry_takes {us = us} {ga = ga} body c desk stamp rest _ _ _ _ (passes_available {k = k} {n = n} {f = f} {board = board}) first in_time g =
    let now = same_entry body _ (end_of Downstream Standing k n f) (end_of Downstream Standing 0 n f) refl refl g in
    entry_rowed _ c desk (record { stamp = stamp; body = message.BoardAvailable board }) (in_input.BoardAvailable board) rest tt now
    (hears_available_unread ga (link_above us (with_session Entry (end_of Downstream Standing 0 n f) body) c) board rest now.above_pair).1
entry_takes {us = us} {ga = ga} body c desk stamp rest _ _ _ _ (passes_revoked {k = k} {n = n} {f = f}) first in_time g =
    let now = same_entry body _ (end_of Downstream Standing k n f) (end_of Downstream Standing 0 n f) refl refl g in
    entry_rowed _ c desk (record { stamp = stamp; body = message.RevokeBoardAvailable }) in_input.RevokeBoardAvailable rest tt now
    (hears_revoke_available_unread ga (link_above us (with_session Entry (end_of Downstream Standing 0 n f) body) c) rest now.above_pair).1
entry_takes {us = us} {ga = ga} body c desk stamp rest _ _ _ _ (passes_finished {k = k} {n = n} {f = f} {said = said} {id = id}) first in_time g =
    let now = same_entry body _ (end_of Downstream Standing k n f) (end_of Downstream Standing 0 n f) refl refl g in
    entry_rowed _ c desk (record { stamp = stamp; body = message.TransportFinished said id }) (in_input.Finished said id) rest tt now
    (hears_finished_unread ga (link_above us (with_session Entry (end_of Downstream Standing 0 n f) body) c) said id rest now.above_pair first in_time).1
entry_takes body c desk stamp rest _ _ _ _ (passes_forecast {k = k} {n = n} {f = f} {info = info}) first in_time g =
    entry_aside _ c (message.BoardForecast info) rest [] refl refl (same_entry body _ (end_of Downstream Standing k n f) (end_of Downstream Standing 0 n f) refl refl g)
entry_takes body c desk stamp rest _ _ _ _ (passes_info {k = k} {n = n} {f = f} {info = info}) first in_time g =
    entry_aside _ c (message.SendBoardInfo info) rest [] refl refl (same_entry body _ (end_of Downstream Standing k n f) (end_of Downstream Standing 0 n f) refl refl g)
entry_takes body c desk stamp rest _ _ _ _ passes_ready first in_time g = let wrong : Upstream ≡ Downstream = g.entry_role in cc
entry_takes body c desk stamp rest _ _ _ _ passes_unready first in_time g = let wrong : Upstream ≡ Downstream = g.entry_role in cc
entry_takes body c desk stamp rest _ _ _ _ passes_start first in_time g = let wrong : Upstream ≡ Downstream = g.entry_role in cc
entry_takes body c desk stamp rest _ _ _ _ passes_stop first in_time g = let wrong : Upstream ≡ Downstream = g.entry_role in cc
entry_takes body c desk stamp rest _ _ _ _ passes_query first in_time g = let wrong : Upstream ≡ Downstream = g.entry_role in cc

entry_finds : {afar : Afar} {above : List Record} {us : List Sensed} {ga gb : Ghost} (body : Machine) (c : Scene) (desk : Desk) (heard_one : Message) (rest : List Horizontal) (row : Option SessionRow)
    → session_row body.entry.session (heard heard_one.body (is_some (held body.outlet))) ≡ row → ReadsFirst us ga → IsInTime Entry heard_one.body us
    → Good afar above us ga gb body (unheard_above (heard_one.body ∷ rest) c)
    → GoesBy afar above us ga gb (unheard_above (heard_one.body ∷ rest) c) (rowed desk Entry heard_one body row)
entry_finds body c desk heard_one rest None is n in_time g = breaches_unread desk Entry (unexpected (kind_of heard_one.body)) n g
entry_finds body c desk heard_one rest (Some row) is n in_time g =
    entry_takes body c desk heard_one.stamp rest heard_one.body (is_some (held body.outlet)) body.entry.session row (session_row_is body.entry.session (heard heard_one.body (is_some (held body.outlet))) row is) n in_time g

pub entry_hears_unread : {afar : Afar} {above : List Record} {us : List Sensed} {ga gb : Ghost} (body : Machine) (c : Scene) (desk : Desk) (heard_one : Message) (rest : List Horizontal) → ReadsFirst us ga → IsInTime Entry heard_one.body us
    → Good afar above us ga gb body (unheard_above (heard_one.body ∷ rest) c)
    → GoesBy afar above us ga gb (unheard_above (heard_one.body ∷ rest) c) (hears desk Entry heard_one body)
entry_hears_unread body c desk heard_one rest n in_time g = entry_finds body c desk heard_one rest (session_row body.entry.session (heard heard_one.body (is_some (held body.outlet)))) refl n in_time g

pub entry_hears : {afar : Afar} {above : List Record} {ga gb : Ghost} (body : Machine) (c : Scene) (desk : Desk) (heard_one : Message) (rest : List Horizontal)
    → Good afar above [] ga gb body (unheard_above (heard_one.body ∷ rest) c)
    → GoesBy afar above [] ga gb (unheard_above (heard_one.body ∷ rest) c) (hears desk Entry heard_one body)
entry_hears body c desk heard_one rest g = entry_hears_unread body c desk heard_one rest none_unread (now_in_time Entry heard_one.body) g
