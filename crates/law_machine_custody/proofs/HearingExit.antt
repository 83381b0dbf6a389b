-- The exit of a machine hears the oldest message to it, in time.
use Rattle.std.proofs.Common.{Bool, List, None, Option, Some, [], false, inl, inr, is_some, refl, subst, sym, ℕ, ℤ, ◌∙◌, ◌∷◌, ◌≡◌, ◌⊎◌}
use Rattle.line_base.specs.declared.states.Role.TheVariants.{Downstream, Upstream}
use Rattle.line_base.specs.declared.states.Side.TheVariants.{Exit}
use Rattle.board_record.specs.declared.record.Record.{Record}
use Rattle.board_record.specs.declared.sensed.Sensed.{Sensed}
use Rattle.hermes_horizontal.specs.Parts.{kind_of}
use Rattle.hermes_horizontal.specs.declared.message.Horizontal.{Horizontal}
use Rattle.hermes_horizontal.specs.declared.message.Horizontal.TheVariants as message
use Rattle.hermes_horizontal.specs.declared.message.Message.{Message}
use Rattle.hermes_horizontal.specs.declared.message.Ping.TheVariants as ping
use Rattle.hermes_horizontal.specs.declared.message.Service.{Service}
use Rattle.session_core.specs.Breach.{unexpected}
use Rattle.session_core.specs.End.{SessionEnd, at_rest}
use Rattle.session_core.specs.Input.{heard}
use Rattle.session_core.specs.Row.{SessionRow, session_row}
use Rattle.session_core.specs.Table.{IsSessionRow, answers, end_of, is_alive, is_answered, is_notified, is_unsettled, passes_available, passes_finished, passes_forecast, passes_info, passes_over, passes_query, passes_ready, passes_revoked, passes_start, passes_stop, passes_unready, stands_downstream, stands_upstream}
use Rattle.session_core.specs.Acts.{two}
use Rattle.session_core.specs.declared.actions.Action.TheVariants.{Close, Tell}
use Rattle.session_core.specs.declared.actions.Tell.TheVariants.{Unsettled}
use Rattle.session_core.specs.declared.state.SessionState.TheVariants.{Handshake, Standing}
use Rattle.session_core.proofs.Rows.{row_is as session_row_is}
use Rattle.handover_out.specs.Row.{OutRow, last_after, outlet_row}
use Rattle.handover_out.specs.State.{OutState, board_of_phase as held_out, held, would_open}
use Rattle.handover_out.specs.Table.{IsOutletRow, opens, refuses}
use Rattle.handover_out.specs.declared.act.OutAct.{OutAct}
use Rattle.handover_out.specs.declared.input.OutInput.{OutInput}
use Rattle.handover_out.specs.declared.input.OutInput.TheVariants as out_input
use Rattle.handover_out.specs.declared.phase.Phase.{Phase as Out}
use Rattle.handover_out.specs.declared.phase.Phase.TheVariants as out
use Rattle.handover_out.proofs.Rows.{row_is}
use Rattle.node_core.specs.Desk.{Desk}
use Rattle.node_core.specs.Done.{Done, behind}
use Rattle.node_core.specs.Halves.{behind_opening, given_back, half_closed, opening_board, outlet_did}
use Rattle.node_core.specs.Hears.{hears, outlet_took, passed, rowed, taken}
use Rattle.node_core.specs.Information.{answer_to}
use Rattle.node_core.specs.Session.{actions_did}
use Rattle.node_core.specs.Sides.{with_session}
use Rattle.node_core.specs.Told.{tells}
use Rattle.node_core.specs.declared.act.Act.TheVariants as acts
use Rattle.node_core.specs.declared.lane.Body.{Body as Machine}
use Rattle.node_core.proofs.Offers.{OffersOf}
use Rattle.law_custody.specs.Contents.{Looks}
use Rattle.law_custody.specs.Floor.{ExitFloor, at_start}
use Rattle.law_custody.specs.Place.{Fresh, Place, is_upstream}
use Rattle.law_custody.specs.Events.{ExitStep, StartStep, gone_by}
use Rattle.law_custody.specs.Pair.{Body, Ghost, LinkState, Pair, back_to}
use Rattle.law_custody.specs.Unread.{NotOver, not_over_fresh}
use Rattle.law_custody.specs.Words.{down_words, events_at, up_words}
use Rattle.law_custody.proofs.ExitEvents.{described_contents, hears_downstream_unread, hears_ready_unread, hears_revoke_ready_unread, hears_start, hears_stop_unread}
use Rattle.law_custody.proofs.LinkEvents.{passes_up, says_aside_down}
use Rattle.law_custody.proofs.Lists.{sent_down}
use Rattle.law_custody.proofs.Promised.{finds_for_a_start}
use Rattle.law_custody.proofs.Unread.{HasRead, all_read}
use Rattle.law_machine_custody.specs.Scene.{Scene, link_below, shut}
use Rattle.law_machine_custody.specs.Good.{Afar, Goes, GoesBy, Good}
use Rattle.law_machine_custody.specs.InTime.{IsInTime}
use Rattle.law_machine_custody.proofs.Closing.{breaches_unread, exit_shuts_unread, told_below}
use Rattle.law_machine_custody.proofs.Goes.{goes_behind, met_append}
use Rattle.law_machine_custody.proofs.Keeping.{front_brought, front_found, kept_lies, offers_the_front}
use Rattle.law_machine_custody.proofs.Holding.{IsNoStart, IsNotOffer, brought_offered, holds_started, recent_started}
use Rattle.law_machine_custody.proofs.InTime.{none_later_up, now_in_time, still_later_up}
use Rattle.law_machine_custody.proofs.Rows.{row_at_exit, unheard_below}
use Rattle.law_machine_custody.proofs.Told.{IsNoOffer, out_messages, out_met, out_scene, out_words}

-- the session goes on, in the same state
pub same_exit : {afar : Afar} {above : List Record} {us : List Sensed} {ga gb : Ghost} (body : Machine) (c : Scene) (s s2 : SessionEnd) → s2.state ≡ s.state → s2.role ≡ s.role
    → Good afar above us ga gb (with_session Exit s body) c → Good afar above us ga gb (with_session Exit s2 body) c
same_exit {us = us} {gb = gb} body c s s2 state role g = record {
  above_pair = g.above_pair;
  below_pair = subst (λ x. Pair gb (record (link_below us body c) { exit = x })) (sym state) g.below_pair;
  boards = g.boards;
  above_contents = g.above_contents;
  below_contents = g.below_contents;
  above_holds = g.above_holds;
  below_holds = g.below_holds;
  entry_role = g.entry_role;
  exit_role = role ∙ g.exit_role;
  away = g.away;
  here = g.here;
  recent = g.recent;
}

-- a message that is no word is heard, and messages that are none are said
exit_aside : {afar : Afar} {above : List Record} {us : List Sensed} {ga gb : Ghost} (body : Machine) (c : Scene) (what : Horizontal) (rest ms : List Horizontal)
    → up_words (what ∷ rest) ≡ up_words rest → down_words ms ≡ [] → Good afar above us ga gb body (unheard_below (what ∷ rest) c)
    → Goes afar above us ga gb (unheard_below (what ∷ rest) c) body (told_below ms (unheard_below rest c))
exit_aside {us = us} {ga = ga} {gb = gb} body c what rest ms silent quiet g = record {
  a = ga;
  b = gb;
  good = record {
    above_pair = g.above_pair;
    below_pair = says_aside_down gb (link_below us body (unheard_below rest c)) ms quiet (passes_up gb (link_below us body c) what rest silent g.below_pair);
    boards = g.boards;
    above_contents = g.above_contents;
    below_contents = rw (sent_down c.below.stands ms c.below.down, quiet) (rw silent at g.below_contents);
    above_holds = g.above_holds;
    below_holds = g.below_holds;
    entry_role = g.entry_role;
    exit_role = g.exit_role;
    away = g.away;
    here = g.here;
    recent = g.recent;
  };
  lists_above = λ kept i q boards h. h;
  lists_below = λ o p kept boards h. h;
  still_first = λ n. n;
  still_over = λ n. n;
}

-- the downstream machine described itself, and is answered
exit_described : {afar : Afar} {above : List Record} {us : List Sensed} {ga gb : Ghost} (body : Machine) (c : Scene) (service answer : Service) (rest : List Horizontal) (s s2 : SessionEnd)
    → s.state ≡ Handshake → s2.state ≡ Standing → s2.role ≡ Upstream → held_out body.outlet.phase ≡ None
    → Good afar above us ga gb (with_session Exit s body) (unheard_below (message.ServiceDescription service ∷ rest) c)
    → Goes afar above us ga gb (unheard_below (message.ServiceDescription service ∷ rest) c) (with_session Exit s2 body) (told_below (message.ServiceDescription answer ∷ []) (unheard_below rest c))
exit_described {us = us} {ga = ga} {gb = gb} body c service answer rest s s2 shakes stands role free g =
    let l : LinkState = link_below us (with_session Exit s body) c in
    let pair = hears_downstream_unread gb l service answer rest g.below_pair shakes free in
    record {
      a = ga;
      b = gb;
      good = record {
        above_pair = g.above_pair;
        below_pair = subst (λ x. Pair gb (record (link_below us body (told_below (message.ServiceDescription answer ∷ []) (unheard_below rest c))) { exit = x })) (sym stands) pair;
        boards = g.boards;
        above_contents = g.above_contents;
        below_contents = described_contents l service answer rest body.kept g.below_contents;
        above_holds = g.above_holds;
        below_holds = g.below_holds;
        entry_role = g.entry_role;
        exit_role = role;
        away = g.away;
        here = g.here;
        recent = g.recent;
      };
      lists_above = λ kept i q boards h. h;
      lists_below = λ o p kept boards h. h;
      still_first = λ n. n;
      still_over = λ n. n;
    }

-- the outlet has this row for a word
exit_rowed : {afar : Afar} {above : List Record} {us : List Sensed} {ga gb : Ghost} (body : Machine) (c : Scene) (desk : Desk) (heard_one : Message) (w : OutInput) (rest : List Horizontal) → IsNotOffer w → IsNoStart w
    → Good afar above us ga gb body (unheard_below (heard_one.body ∷ rest) c) → ExitStep (gone_by afar.gone_below) gb (link_below us body (unheard_below (heard_one.body ∷ rest) c)) w us rest
    → GoesBy afar above us ga gb (unheard_below (heard_one.body ∷ rest) c) (passed desk Exit heard_one body (outlet_took desk body (outlet_row body.outlet w)))
exit_rowed {afar = afar} {above = above} {us = us} {ga = ga} {gb = gb} body c desk heard_one w rest plain begun g step =
    subst (λ row. GoesBy afar above us ga gb (unheard_below (heard_one.body ∷ rest) c) (passed desk Exit heard_one body (outlet_took desk body row))) (sym step.is)
    (goes_behind (acts.Hears Exit heard_one ∷ []) (outlet_did desk body step.row) (row_at_exit desk w rest plain begun g step g.above_pair))

-- ---- a start

no_back : (s : OutState) (id : ℕ) (brought : Option Record) (row : OutRow) → IsOutletRow s (out_input.Start id brought) row → row.act.back ≡ None
no_back _ _ _ _ (opens _) = refl
no_back _ _ _ _ (refuses _) = refl

-- the board of a handover that opens is upstream
begins_upstream : {drive : Bool} {p : Place} {q : Record} (r : Record) → ExitFloor (out.Moving r false) [] drive p q → is_upstream p ≡ false → ⊥
begins_upstream r at_start up = cc

starts_upstream : (s : OutState) (id : ℕ) (brought : Option Record) (row : OutRow) (r : Record) {drive : Bool} (g : Ghost) → IsOutletRow s (out_input.Start id brought) row
    → ExitFloor row.after.phase [] drive g.place g.board → held_out row.after.phase ≡ Some r → is_upstream g.place ≡ false → ⊥
starts_upstream _ id _ _ r g (opens {board = board} _) floor held up = begins_upstream board floor up
starts_upstream _ id _ _ r g (refuses _) floor held up = cc

-- the board of the handover that a start opens is the one before, or has not gone across
started_over : {p q : Place} → (p ≡ q) ⊎ (p ≡ Fresh) → NotOver q → NotOver p
started_over (inl same) n = subst (λ (r : Place). NotOver r) (sym same) n
started_over (inr fresh) n = subst (λ (r : Place). NotOver r) (sym fresh) not_over_fresh

start_heard : {afar : Afar} {above : List Record} {us : List Sensed} {ga gb : Ghost} (body : Machine) (c : Scene) (id : ℕ) (rest : List Horizontal) (brought : Option Record) (kept : List Record)
    → back_to brought kept ≡ body.kept → ((q : Record) → brought ≡ Some q → body.outlet.offered ≡ Some q.id) → events_at Exit us ≡ [] → Good afar above us ga gb body (unheard_below (message.StartTransport id ∷ rest) c)
    → (step : StartStep (gone_by afar.gone_below) gb (link_below [] body (unheard_below (message.StartTransport id ∷ rest) c)) id brought rest)
    → Goes afar above us ga gb (unheard_below (message.StartTransport id ∷ rest) c) (record body { outlet = step.row.after; kept = kept; last_offer = last_after step.row body.last_offer }) (out_scene step.row.act.send step.row.act.drive (unheard_below rest c))
start_heard {afar = afar} {us = us} {ga = ga} {gb = gb} body c id rest brought kept back front none g step =
    let ms = out_messages step.row.act.send in
    let e = out_words step.row.act.send in
    record {
      a = ga;
      b = step.after;
      good = record {
        above_pair = g.above_pair;
        below_pair = still_later_up step.after (link_below us (record body { outlet = step.row.after; last_offer = last_after step.row body.last_offer }) (out_scene step.row.act.send step.row.act.drive (unheard_below rest c))) us none (step.pair ms e);
        boards = step.body kept body.intake.phase ga.place c.boards (subst (λ ks. Body body.outlet.phase gb.place ks body.intake.phase ga.place c.boards) (sym back) g.boards);
        above_contents = g.above_contents;
        below_contents = step.contents kept ms e;
        above_holds = g.above_holds;
        below_holds = holds_started body.outlet id brought step.row step.is back g.below_pair.talk (step.pair ms e).out step.fresh g.below_holds;
        entry_role = g.entry_role;
        exit_role = g.exit_role;
        away = λ r held up. absurd (starts_upstream _ id brought step.row r step.after (row_is body.outlet (out_input.Start id brought) step.row step.is) (step.pair ms e).out held up);
        here = g.here;
        recent = recent_started body.outlet id brought step.row (row_is body.outlet (out_input.Start id brought) step.row step.is) front g.recent;
      };
      lists_above = λ kept i q boards h. h;
      lists_below = step.below;
      still_first = λ n. n;
      still_over = started_over step.fresh;
    }

start_sends_no_offer : (s : OutState) (id : ℕ) (brought : Option Record) (row : OutRow) → IsOutletRow s (out_input.Start id brought) row → IsNoOffer row.act.send
start_sends_no_offer _ _ _ _ (opens _) = tt
start_sends_no_offer _ _ _ _ (refuses _) = tt

start_rowed : {afar : Afar} {above : List Record} {us : List Sensed} {ga gb : Ghost} (body : Machine) (c : Scene) (desk : Desk) (stamp : Option ℤ) (id : ℕ) (rest : List Horizontal) (brought : Option Record) (kept : List Record)
    → back_to brought kept ≡ body.kept → ((q : Record) → brought ≡ Some q → body.outlet.offered ≡ Some q.id) → events_at Exit us ≡ [] → Good afar above us ga gb body (unheard_below (message.StartTransport id ∷ rest) c)
    → StartStep (gone_by afar.gone_below) gb (link_below [] body (unheard_below (message.StartTransport id ∷ rest) c)) id brought rest
    → GoesBy afar above us ga gb (unheard_below (message.StartTransport id ∷ rest) c) (passed desk Exit (record { stamp = stamp; body = message.StartTransport id }) body (outlet_took desk (record body { kept = kept }) (outlet_row body.outlet (out_input.Start id brought))))
start_rowed {afar = afar} {above = above} {us = us} {ga = ga} {gb = gb} body c desk stamp id rest brought kept back front none g step =
    let m : Message = record { stamp = stamp; body = message.StartTransport id } in
    let act : OutAct = step.row.act in
    let now : Scene = unheard_below rest c in
    let before : Scene = unheard_below (message.StartTransport id ∷ rest) c in
    let shape = row_is body.outlet (out_input.Start id brought) step.row step.is in
    let plain : IsNoOffer act.send = start_sends_no_offer body.outlet id brought step.row shape in
    subst (λ row. GoesBy afar above us ga gb before (passed desk Exit m body (outlet_took desk (record body { kept = kept }) row))) (sym step.is)
    (goes_behind (acts.Hears Exit m ∷ []) (outlet_did desk (record body { kept = kept }) step.row)
    (subst (λ s. Goes afar above us ga gb before (outlet_did desk (record body { kept = kept }) step.row).body s)
    (sym (out_met desk kept act.deed act.send act.drive act.back now plain))
    (subst (λ back. Goes afar above us ga gb before (record body { outlet = step.row.after; kept = given_back back kept; last_offer = last_after step.row body.last_offer }) (out_scene act.send act.drive now)) (sym (no_back body.outlet id brought step.row shape))
    (start_heard body c id rest brought kept back front none g step))))

-- ---- the rows of the session

holds_nothing : (o : Out) → is_some (held_out o) ≡ false → held_out o ≡ None
holds_nothing out.Idle e = refl
holds_nothing (out.Moving r b) e = cc
holds_nothing (out.Stuck r l s) e = cc
holds_nothing (out.Ended z) e = refl

-- the downstream machine describes itself while the outlet holds a board: it is told so, and the connection is closed
exit_unsettled : {afar : Afar} {above : List Record} {us : List Sensed} {ga gb : Ghost} (body : Machine) (c : Scene) (desk : Desk) (stamp : Option ℤ) (service : Service) (rest : List Horizontal) (s : SessionEnd)
    → s.role ≡ Upstream → HasRead (events_at Exit us) → Good afar above us ga gb (with_session Exit s body) (unheard_below (message.ServiceDescription service ∷ rest) c)
    → GoesBy afar above us ga gb (unheard_below (message.ServiceDescription service ∷ rest) c)
    (behind (acts.Hears Exit (record { stamp = stamp; body = message.ServiceDescription service }) ∷ []) (actions_did desk Exit (two (Tell Unsettled) Close) (with_session Exit (at_rest Upstream) body)))
exit_unsettled {afar = afar} {above = above} {us = us} {ga = ga} {gb = gb} body c desk stamp service rest s role n g =
    let shut_one : Done = half_closed desk Exit (with_session Exit (at_rest Upstream) body) in
    let now : Scene = shut Exit (told_below (tells Unsettled ∷ []) c) in
    subst (λ z. Goes afar above us ga gb (unheard_below (message.ServiceDescription service ∷ rest) c) shut_one.body z) (sym (met_append shut_one.acts [] now))
    (exit_shuts_unread desk (at_rest Upstream) (tells Unsettled ∷ []) refl refl refl n g)

exit_takes : {afar : Afar} {above : List Record} {us : List Sensed} {ga gb : Ghost} (body : Machine) (c : Scene) (desk : Desk) (stamp : Option ℤ) (rest : List Horizontal) (what : Horizontal) (unsettled : Bool) (s : SessionEnd) (row : SessionRow)
    → IsSessionRow s (heard what unsettled) row → is_some (held body.outlet) ≡ unsettled → OffersOf body → HasRead (events_at Exit us) → IsInTime Exit what us
    → Good afar above us ga gb (with_session Exit s body) (unheard_below (what ∷ rest) c)
    → GoesBy afar above us ga gb (unheard_below (what ∷ rest) c) (taken desk Exit (record { stamp = stamp; body = what }) row.actions.first row.actions (with_session Exit row.after body))
exit_takes body c desk stamp rest _ _ _ _ (stands_upstream {k = k} {n = n} {f = f} {service = service}) test offers begun in_time g =
    exit_described body c service _ rest (end_of Upstream Handshake k n f) _ refl refl refl (holds_nothing body.outlet.phase test) g
exit_takes body c desk stamp rest _ _ _ _ (is_unsettled {k = k} {n = n} {f = f} {service = service}) test offers begun in_time g =
    exit_unsettled body c desk stamp service rest (end_of Upstream Handshake k n f) refl begun g
exit_takes body c desk stamp rest _ _ _ _ (stands_downstream {k = k} {n = n} {f = f}) test offers begun in_time g = let wrong : Downstream ≡ Upstream = g.exit_role in cc
exit_takes body c desk stamp rest _ _ _ _ (answers {role = role} {state = state} {k = k} {n = n} {f = f} {id = id} is) test offers begun in_time g =
    exit_aside _ c (message.CheckAlive (Some ping.Ask) id) rest (message.CheckAlive (Some ping.Answer) id ∷ []) refl refl (same_exit body _ (end_of role state k n f) (end_of role state 0 n f) refl refl g)
exit_takes body c desk stamp rest _ _ _ _ (is_answered {role = role} {state = state} {k = k} {n = n} {f = f} {id = id} is) test offers begun in_time g =
    exit_aside _ c (message.CheckAlive (Some ping.Answer) id) rest [] refl refl (same_exit body _ (end_of role state k n f) (end_of role state 0 n f) refl refl g)
exit_takes body c desk stamp rest _ _ _ _ (is_alive {role = role} {state = state} {k = k} {n = n} {f = f} {id = id} is) test offers begun in_time g =
    exit_aside _ c (message.CheckAlive None id) rest [] refl refl (same_exit body _ (end_of role state k n f) (end_of role state 0 n f) refl refl g)
exit_takes body c desk stamp rest _ _ _ _ (is_notified {role = role} {state = state} {k = k} {n = n} {f = f} {code = code} {severity = severity} {text = text} is) test offers begun in_time g =
    exit_aside _ c (message.Notification code severity text) rest [] refl refl (same_exit body _ (end_of role state k n f) (end_of role state 0 n f) refl refl g)
exit_takes body c desk stamp rest _ _ _ _ (passes_over {role = role} {state = state} {k = k} {n = n} {f = f} {name = name} is) test offers begun in_time g =
    exit_aside _ c (message.Other name) rest [] refl refl (same_exit body _ (end_of role state k n f) (end_of role state 0 n f) refl refl g)
exit_takes {us = us} {gb = gb} body c desk stamp rest _ _ _ _ (passes_ready {k = k} {n = n} {f = f} {quality = quality}) test offers begun in_time g =
    let now = same_exit body _ (end_of Upstream Standing k n f) (end_of Upstream Standing 0 n f) refl refl g in
    exit_rowed _ c desk (record { stamp = stamp; body = message.MachineReady quality }) out_input.MachineReady rest tt tt now
    (hears_ready_unread gb (link_below us (with_session Exit (end_of Upstream Standing 0 n f) body) c) quality rest now.below_pair).1
exit_takes {us = us} {gb = gb} body c desk stamp rest _ _ _ _ (passes_unready {k = k} {n = n} {f = f}) test offers begun in_time g =
    let now = same_exit body _ (end_of Upstream Standing k n f) (end_of Upstream Standing 0 n f) refl refl g in
    exit_rowed _ c desk (record { stamp = stamp; body = message.RevokeMachineReady }) out_input.RevokeMachineReady rest tt tt now
    (hears_revoke_ready_unread gb (link_below us (with_session Exit (end_of Upstream Standing 0 n f) body) c) rest now.below_pair).1
exit_takes {us = us} {gb = gb} body c desk stamp rest _ _ _ _ (passes_stop {k = k} {n = n} {f = f} {said = said} {id = id}) test offers begun in_time g =
    let now = same_exit body _ (end_of Upstream Standing k n f) (end_of Upstream Standing 0 n f) refl refl g in
    exit_rowed _ c desk (record { stamp = stamp; body = message.StopTransport said id }) (out_input.Stop said id) rest tt tt now
    (hears_stop_unread gb (link_below us (with_session Exit (end_of Upstream Standing 0 n f) body) c) said id rest now.below_pair begun).1
exit_takes {us = us} {ga = ga} {gb = gb} body c desk stamp rest _ _ _ _ (passes_start {k = k} {n = n} {f = f} {id = id}) test offers begun in_time g =
    let now = same_exit body _ (end_of Upstream Standing k n f) (end_of Upstream Standing 0 n f) refl refl g in
    let l : LinkState = link_below [] (with_session Exit (end_of Upstream Standing 0 n f) body) c in
    let read = none_later_up gb (link_below us (with_session Exit (end_of Upstream Standing 0 n f) body) (unheard_below (message.StartTransport id ∷ rest) c)) us in_time now.below_pair in
    let open_it : Bool = would_open body.outlet id in
    let front = offers_the_front body offers in
    let looks = subst (λ brought. Looks body.outlet.offered body.kept id brought) (sym (front_found open_it body.kept)) (finds_for_a_start gb l id rest body.kept read front) in
    start_rowed _ c desk stamp id rest (opening_board open_it body.kept) (behind_opening open_it body.kept) (front_brought open_it body.kept) (brought_offered looks front) in_time now
    (hears_start gb l id (opening_board open_it body.kept) body.kept rest read looks front (λ x kept. now.here x (kept_lies kept now.boards)) now.below_contents).1
exit_takes body c desk stamp rest _ _ _ _ (passes_query {k = k} {n = n} {f = f} {top = top} {bottom = bottom}) test offers begun in_time g =
    exit_aside _ c (message.QueryBoardInfo top bottom) rest (message.SendBoardInfo (answer_to body.kept top bottom) ∷ []) refl refl (same_exit body _ (end_of Upstream Standing k n f) (end_of Upstream Standing 0 n f) refl refl g)
exit_takes body c desk stamp rest _ _ _ _ passes_available test offers begun in_time g = let wrong : Downstream ≡ Upstream = g.exit_role in cc
exit_takes body c desk stamp rest _ _ _ _ passes_revoked test offers begun in_time g = let wrong : Downstream ≡ Upstream = g.exit_role in cc
exit_takes body c desk stamp rest _ _ _ _ passes_finished test offers begun in_time g = let wrong : Downstream ≡ Upstream = g.exit_role in cc
exit_takes body c desk stamp rest _ _ _ _ passes_forecast test offers begun in_time g = let wrong : Downstream ≡ Upstream = g.exit_role in cc
exit_takes body c desk stamp rest _ _ _ _ passes_info test offers begun in_time g = let wrong : Downstream ≡ Upstream = g.exit_role in cc

exit_finds : {afar : Afar} {above : List Record} {us : List Sensed} {ga gb : Ghost} (body : Machine) (c : Scene) (desk : Desk) (heard_one : Message) (rest : List Horizontal) (row : Option SessionRow)
    → session_row body.exit.session (heard heard_one.body (is_some (held body.outlet))) ≡ row → OffersOf body → HasRead (events_at Exit us) → IsInTime Exit heard_one.body us
    → Good afar above us ga gb body (unheard_below (heard_one.body ∷ rest) c)
    → GoesBy afar above us ga gb (unheard_below (heard_one.body ∷ rest) c) (rowed desk Exit heard_one body row)
exit_finds body c desk heard_one rest None is offers begun in_time g = breaches_unread desk Exit (unexpected (kind_of heard_one.body)) begun g
exit_finds body c desk heard_one rest (Some row) is offers begun in_time g =
    exit_takes body c desk heard_one.stamp rest heard_one.body (is_some (held body.outlet)) body.exit.session row (session_row_is body.exit.session (heard heard_one.body (is_some (held body.outlet))) row is) refl offers begun in_time g

pub exit_hears_unread : {afar : Afar} {above : List Record} {us : List Sensed} {ga gb : Ghost} (body : Machine) (c : Scene) (desk : Desk) (heard_one : Message) (rest : List Horizontal) → OffersOf body → HasRead (events_at Exit us) → IsInTime Exit heard_one.body us
    → Good afar above us ga gb body (unheard_below (heard_one.body ∷ rest) c)
    → GoesBy afar above us ga gb (unheard_below (heard_one.body ∷ rest) c) (hears desk Exit heard_one body)
exit_hears_unread body c desk heard_one rest offers begun in_time g = exit_finds body c desk heard_one rest (session_row body.exit.session (heard heard_one.body (is_some (held body.outlet)))) refl offers begun in_time g

pub exit_hears : {afar : Afar} {above : List Record} {ga gb : Ghost} (body : Machine) (c : Scene) (desk : Desk) (heard_one : Message) (rest : List Horizontal) → OffersOf body
    → Good afar above [] ga gb body (unheard_below (heard_one.body ∷ rest) c)
    → GoesBy afar above [] ga gb (unheard_below (heard_one.body ∷ rest) c) (hears desk Exit heard_one body)
exit_hears body c desk heard_one rest offers g = exit_hears_unread body c desk heard_one rest offers all_read (now_in_time Exit heard_one.body) g
