-- The five announcements, by a machine that has read all events, or has some still to read.
use Rattle.std.proofs.Common.{Bool, List, None, Option, Some, [], ap, false, is_none, is_some, refl, slice_get, subst, sym, true, ℕ, ◌∙◌, ◌∷◌, ◌≡◌}
use Rattle.std.proofs.lemmas.Bool.{and_parts, not-true}
use Rattle.line_base.specs.declared.states.SensorEvent.TheVariants as event
use Rattle.line_base.specs.declared.states.Side.TheVariants.{Entry}
use Rattle.board_record.specs.declared.record.Record.{Record}
use Rattle.board_record.specs.declared.sensed.Sensed.{Sensed}
use Rattle.session_core.specs.End.{is_standing_state}
use Rattle.session_core.specs.declared.state.SessionState.{SessionState}
use Rattle.session_core.specs.declared.state.SessionState.TheVariants.{Handshake, NotConnected, Standing}
use Rattle.handover_out.specs.Act.{sends as out_sends}
use Rattle.handover_out.specs.Row.{OutRow, outlet_row}
use Rattle.handover_out.specs.State.{OutState, board_of_phase as held_out, is_idle_phase}
use Rattle.handover_out.specs.declared.act.OutSend.TheVariants.{BoardAvailable, RevokeBoardAvailable}
use Rattle.handover_out.specs.declared.input.OutInput.TheVariants as out_input
use Rattle.handover_out.specs.declared.phase.Phase.{Phase as Out}
use Rattle.handover_out.specs.declared.phase.Phase.TheVariants as out
use Rattle.handover_in.specs.declared.input.InInput.TheVariants as in_input
use Rattle.handover_in.specs.declared.phase.Phase.{Phase as In}
use Rattle.handover_in.specs.declared.phase.Phase.TheVariants as inn
use Rattle.node_core.specs.Announces.{announces, is_intake_free, offer, offer_by, offers_now, readies_now, ready, ready_by, revoke, revoke_by, revokes_now, start, start_by, starts_now, unready, unready_by, unreadies_now}
use Rattle.node_core.specs.Desk.{Desk}
use Rattle.node_core.specs.Done.{Done, and_then}
use Rattle.node_core.specs.Halves.{intake_did, intake_row_did, outlet_row_did, settled}
use Rattle.node_core.specs.declared.lane.Body.{Body as Machine}
use Rattle.law_custody.specs.Contents.{IsRecent}
use Rattle.law_custody.specs.Events.{IsContent, StartSaid, gone_by}
use Rattle.law_custody.specs.Facts.{Has}
use Rattle.law_custody.specs.Pair.{Body, Ghost, LinkState}
use Rattle.law_custody.specs.Words.{events_at}
use Rattle.law_custody.proofs.Ahead.{none_later, steps_ahead, still_later}
use Rattle.law_custody.proofs.EntryEvents.{says_ready, says_start, says_unready}
use Rattle.law_custody.proofs.ExitEvents.{offers_front_board, revokes_offer}
use Rattle.law_custody.proofs.HandsContents.{contents_settled}
use Rattle.law_custody.proofs.Sessions.{ready_stands}
use Rattle.law_machine_custody.specs.Scene.{Scene, all_met, link_above, link_below}
use Rattle.law_machine_custody.specs.Ahead.{GoesAhead, IsFreeRead}
use Rattle.law_machine_custody.specs.Good.{Afar, Goes, GoesBy, Good, Holds}
use Rattle.law_machine_custody.proofs.Goes.{goes_both, goes_not, met_append}
use Rattle.law_machine_custody.proofs.Holding.{holds_offered, holds_said, holds_settled}
use Rattle.law_machine_custody.proofs.Rows.{at_entry_goes}
use Rattle.law_machine_custody.proofs.Told.{in_messages, in_met, in_scene, in_words, keep_is}

-- ---- what the tests say

is_idle : (o : Out) → is_idle_phase o ≡ true → o ≡ out.Idle
is_idle out.Idle e = refl
is_idle (out.Moving r b) e = cc
is_idle (out.Stuck r l s) e = cc
is_idle (out.Ended z) e = cc

is_standing : (s : SessionState) → is_standing_state s ≡ true → s ≡ Standing
is_standing NotConnected e = cc
is_standing Handshake e = cc
is_standing Standing e = refl

is_nothing : (x : Option ℕ) → is_none x ≡ true → x ≡ None
is_nothing None e = refl
is_nothing (Some z) e = cc

is_free_phase : (body : Machine) (i : In) → body.intake.phase ≡ i → is_intake_free body ≡ true → i ≡ inn.Idle
is_free_phase body inn.Idle e free = refl
is_free_phase body (inn.Taking r o h) e free = let no_way : false ≡ true = rw e at free in cc
is_free_phase body (inn.Stopped r o h) e free = let no_way : false ≡ true = rw e at free in cc
is_free_phase body (inn.Waiting r o h) e free = let no_way : false ≡ true = rw e at free in cc

-- ---- REVOKE

revoke_is : (s : OutState) (z : ℕ) → s.phase ≡ out.Idle → s.offered ≡ Some z → outlet_row s out_input.Revoke ≡ Some (record { after = record s { offered = None }; act = out_sends RevokeBoardAvailable })
revoke_is s z e f = rw (e, f) refl

recent_revoked : {last : Option ℕ} {s : OutState} → IsRecent last s → IsRecent last (record s { offered = None })
recent_revoked r = record { offered = λ id e. cc; held = r.held }

revoked : {afar : Afar} {above : List Record} {us : List Sensed} {ga gb : Ghost} {body : Machine} {c : Scene} (desk : Desk) (offered : Option ℕ) → body.outlet.offered ≡ offered
    → body.outlet.phase ≡ out.Idle → is_some offered ≡ true → Good afar above us ga gb body c → GoesBy afar above us ga gb c (revoke_by desk true body)
revoked desk None f e test g = cc
revoked {afar = afar} {above = above} {us = us} {ga = ga} {gb = gb} {body = body} {c = c} desk (Some z) f e test g =
    let t = revokes_offer gb (link_below us body c) z body.kept g.below_pair e f g.below_contents in
    subst (λ row. GoesBy afar above us ga gb c (outlet_row_did desk body row)) (sym (revoke_is body.outlet z e f)) (record {
      a = ga;
      b = gb;
      good = record {
        above_pair = g.above_pair;
        below_pair = t.0;
        boards = g.boards;
        above_contents = g.above_contents;
        below_contents = t.1;
        above_holds = g.above_holds;
        below_holds = g.below_holds;
        entry_role = g.entry_role;
        exit_role = g.exit_role;
        away = g.away;
        here = g.here;
        recent = recent_revoked g.recent;
      };
      lists_above = λ kept i q boards h. h;
      lists_below = λ o p kept boards h. h;
      still_first = λ n. n;
      still_over = λ n. n;
    })

revoke_when : {afar : Afar} {above : List Record} {us : List Sensed} {ga gb : Ghost} {body : Machine} {c : Scene} (desk : Desk) (test : Bool) → revokes_now body ≡ test
    → Good afar above us ga gb body c → GoesBy afar above us ga gb c (revoke_by desk test body)
revoke_when desk false e g = goes_not g
revoke_when {body = body} desk true e g =
    let idle = (and_parts _ _ (and_parts _ _ e).0).0 in
    let some = (and_parts _ _ (and_parts _ _ e).0).1 in
    revoked desk body.outlet.offered refl (is_idle body.outlet.phase idle) some g

pub revoke_ahead : {afar : Afar} {above : List Record} {us : List Sensed} {ga gb : Ghost} {body : Machine} {c : Scene} (desk : Desk)
    → Good afar above us ga gb body c → GoesBy afar above us ga gb c (revoke desk body)
revoke_ahead {body = body} desk g = revoke_when desk (revokes_now body) refl g

-- ---- UNREADY and READY

-- an entry that announces, or would, has read its events
pub quiet_read : {us : List Sensed} {body : Machine} → events_at Entry us ≡ [] → IsFreeRead us body
quiet_read none = record { read = λ stands free. none }

pub all_free_read : {body : Machine} → IsFreeRead [] body
all_free_read = quiet_read refl

-- a free intake that has said it is ready has read all
ready_has_read : {afar : Afar} {above : List Record} {us : List Sensed} {ga gb : Ghost} {body : Machine} {c : Scene} → Good afar above us ga gb body c → IsFreeRead us body
    → body.intake.phase ≡ inn.Idle → body.intake.ready ≡ true → events_at Entry us ≡ []
ready_has_read g r idle is_ready = r.read (ready_stands (rw (idle, is_ready) at g.above_pair.talk)) idle

unready_read : {afar : Afar} {above : List Record} {us : List Sensed} {ga gb : Ghost} {body : Machine} {c : Scene} (desk : Desk) → Good afar above us ga gb body c → IsFreeRead us body
    → unreadies_now desk body ≡ true → events_at Entry us ≡ []
unready_read {body = body} desk g r e =
    let free = (and_parts _ _ (and_parts _ _ e).0).0 in
    let is_ready = (and_parts _ _ (and_parts _ _ e).0).1 in
    ready_has_read g r (is_free_phase body body.intake.phase refl free) is_ready

unready_when : {afar : Afar} {above : List Record} {us : List Sensed} {ga gb : Ghost} {body : Machine} {c : Scene} (desk : Desk) (test : Bool) → unreadies_now desk body ≡ test
    → Good afar above us ga gb body c → IsFreeRead us body → GoesBy afar above us ga gb c (unready_by desk test body)
unready_when desk false e g r = goes_not g
unready_when {us = us} {ga = ga} {body = body} {c = c} desk true e g r =
    let l : LinkState = link_above us body c in
    let none = unready_read desk g r e in
    let free = (and_parts _ _ (and_parts _ _ e).0).0 in
    let is_ready = (and_parts _ _ (and_parts _ _ e).0).1 in
    at_entry_goes desk in_input.Unready tt g (steps_ahead ga l in_input.Unready us none (says_unready ga l (none_later ga l us none g.above_pair) (is_free_phase body body.intake.phase refl free) is_ready)) g.below_pair

pub unready_ahead : {afar : Afar} {above : List Record} {us : List Sensed} {ga gb : Ghost} {body : Machine} {c : Scene} (desk : Desk)
    → Good afar above us ga gb body c → IsFreeRead us body → GoesBy afar above us ga gb c (unready desk body)
unready_ahead {body = body} desk g r = unready_when desk (unreadies_now desk body) refl g r

unready_free : {us : List Sensed} (desk : Desk) (test : Bool) (body : Machine) → (test ≡ true → events_at Entry us ≡ []) → IsFreeRead us body → IsFreeRead us (unready_by desk test body).body
unready_free desk true body none r = quiet_read (none refl)
unready_free desk false body none r = r

ready_read : {us : List Sensed} (desk : Desk) (body : Machine) → IsFreeRead us body → readies_now desk body ≡ true → events_at Entry us ≡ []
ready_read desk body r e =
    let two = (and_parts _ _ (and_parts _ _ (and_parts _ _ e).0).0).0 in
    r.read (is_standing body.entry.session.state (and_parts _ _ two).0) (is_free_phase body body.intake.phase refl (and_parts _ _ two).1)

ready_when : {afar : Afar} {above : List Record} {us : List Sensed} {ga gb : Ghost} {body : Machine} {c : Scene} (desk : Desk) (test : Bool) → readies_now desk body ≡ test
    → Good afar above us ga gb body c → IsFreeRead us body → GoesBy afar above us ga gb c (ready_by desk test body)
ready_when desk false e g r = goes_not g
ready_when {us = us} {ga = ga} {body = body} {c = c} desk true e g r =
    let l : LinkState = link_above us body c in
    let none = ready_read desk body r e in
    let three = (and_parts _ _ (and_parts _ _ e).0).0 in
    let two = (and_parts _ _ three).0 in
    let stands = is_standing body.entry.session.state (and_parts _ _ two).0 in
    let free = (and_parts _ _ two).1 in
    let unsaid = not-true body.intake.ready (and_parts _ _ three).1 in
    at_entry_goes desk in_input.Ready tt g (steps_ahead ga l in_input.Ready us none (says_ready ga l (none_later ga l us none g.above_pair) stands (is_free_phase body body.intake.phase refl free) unsaid)) g.below_pair

pub ready_ahead : {afar : Afar} {above : List Record} {us : List Sensed} {ga gb : Ghost} {body : Machine} {c : Scene} (desk : Desk)
    → Good afar above us ga gb body c → IsFreeRead us body → GoesBy afar above us ga gb c (ready desk body)
ready_ahead {body = body} desk g r = ready_when desk (readies_now desk body) refl g r

ready_free : {us : List Sensed} (desk : Desk) (test : Bool) (body : Machine) → (test ≡ true → events_at Entry us ≡ []) → IsFreeRead us body → IsFreeRead us (ready_by desk test body).body
ready_free desk true body none r = quiet_read (none refl)
ready_free desk false body none r = r

-- ---- OFFER

offer_is : (s : OutState) (id : ℕ) → s.phase ≡ out.Idle → s.offered ≡ None → outlet_row s (out_input.Offer id) ≡ Some (record { after = record s { offered = Some id; touched = Some id }; act = out_sends BoardAvailable })
offer_is s id e f = rw (e, f) refl

recent_offered : (s : OutState) (id : ℕ) → s.phase ≡ out.Idle → IsRecent (Some id) (record s { offered = Some id; touched = Some id })
recent_offered s id idle = record { offered = λ x e. e; held = λ q e. let no_way : None ≡ Some q = sym (ap held_out idle) ∙ e in cc }

offered : {afar : Afar} {above : List Record} {us : List Sensed} {ga gb : Ghost} (body : Machine) {c : Scene} (desk : Desk) (kept : List Record)
    → body.exit.session.state ≡ Standing → body.outlet.phase ≡ out.Idle → body.outlet.offered ≡ None
    → Good afar above us ga gb (record body { kept = kept }) c → GoesBy afar above us ga gb c (offer_by desk true (slice_get kept 0) (record body { kept = kept }))
offered body desk [] stands idle none g = goes_not g
offered {afar = afar} {above = above} {us = us} {ga = ga} {gb = gb} body {c = c} desk (q ∷ ks) stands idle none g =
    let front : Machine = record body { kept = q ∷ ks } in
    let t = offers_front_board gb (link_below us front c) q ks g.below_pair stands idle none g.below_contents in
    subst (λ row. GoesBy afar above us ga gb c (outlet_row_did desk front row)) (sym (offer_is body.outlet q.id idle none)) (record {
      a = ga;
      b = gb;
      good = record {
        above_pair = g.above_pair;
        below_pair = t.0;
        boards = g.boards;
        above_contents = g.above_contents;
        below_contents = t.1;
        above_holds = g.above_holds;
        below_holds = holds_offered g.below_holds;
        entry_role = g.entry_role;
        exit_role = g.exit_role;
        away = g.away;
        here = g.here;
        recent = recent_offered body.outlet q.id idle;
      };
      lists_above = λ kept i q boards h. h;
      lists_below = λ o p kept boards h. h;
      still_first = λ n. n;
      still_over = λ n. n;
    })

offers_not : {afar : Afar} {above : List Record} {us : List Sensed} {ga gb : Ghost} {body : Machine} {c : Scene} (desk : Desk) (front : Option Record)
    → Good afar above us ga gb body c → GoesBy afar above us ga gb c (offer_by desk false front body)
offers_not desk None g = goes_not g
offers_not desk (Some front) g = goes_not g

offer_when : {afar : Afar} {above : List Record} {us : List Sensed} {ga gb : Ghost} {body : Machine} {c : Scene} (desk : Desk) (test : Bool) → offers_now body ≡ test
    → Good afar above us ga gb body c → GoesBy afar above us ga gb c (offer_by desk test (slice_get body.kept 0) body)
offer_when {body = body} desk false e g = offers_not desk (slice_get body.kept 0) g
offer_when {body = body} desk true e g =
    let three = (and_parts _ _ e).0 in
    let two = (and_parts _ _ three).0 in
    let stands = is_standing body.exit.session.state (and_parts _ _ two).0 in
    let idle = is_idle body.outlet.phase (and_parts _ _ two).1 in
    let none = is_nothing body.outlet.offered (and_parts _ _ three).1 in
    offered body desk body.kept stands idle none g

pub offer_ahead : {afar : Afar} {above : List Record} {us : List Sensed} {ga gb : Ghost} {body : Machine} {c : Scene} (desk : Desk)
    → Good afar above us ga gb body c → GoesBy afar above us ga gb c (offer desk body)
offer_ahead {body = body} desk g = offer_when desk (offers_now body) refl g

-- ---- START

none_begun : Has event.Begun [] → ⊥
none_begun has = elim has [ ]

start_did : {afar : Afar} {above : List Record} {us : List Sensed} {ga gb : Ghost} {body : Machine} {c : Scene} → events_at Entry us ≡ []
    → Good afar above us ga gb body c → (step : StartSaid (gone_by afar.gone_above) above ga (link_above [] body c))
    → Goes afar above us ga gb c (record body { intake = step.row.after; kept = settled step.row.act.keep body.kept }) (in_scene step.row.act.send step.row.act.drive c)
start_did {afar = afar} {us = us} {gb = gb} {body = body} {c = c} none g step =
    let ms = in_messages step.row.act.send in
    let e = in_words step.row.act.send in
    let keep = keep_is step.row.act.keep body.kept in
    record {
      a = step.after;
      b = gb;
      good = record {
        above_pair = still_later step.after (link_above us (record body { intake = step.row.after }) (in_scene step.row.act.send step.row.act.drive c)) us none (step.pair ms e);
        below_pair = g.below_pair;
        boards = subst (λ kept. Body body.outlet.phase gb.place kept step.row.after.phase step.after.place c.boards) keep (step.body body.outlet.phase gb.place body.kept c.boards g.boards);
        above_contents = step.contents ms e g.above_contents;
        below_contents = subst (λ kept. IsContent (gone_by afar.gone_below) (link_below us body c) kept) keep (contents_settled step.row.act.keep g.below_contents);
        above_holds = holds_said body.intake step.row step.is (step.pair ms e).in g.above_contents.offer;
        below_holds = subst (λ kept. Holds afar.gone_below kept body.last_offer gb.place body.outlet.phase c.below.intake.phase) keep (holds_settled step.row.act.keep g.below_holds);
        entry_role = g.entry_role;
        exit_role = g.exit_role;
        away = g.away;
        here = g.here;
        recent = g.recent;
      };
      lists_above = step.above_body;
      lists_below = λ o p kept boards h. h;
      still_first = λ n has. absurd (none_begun (subst (λ es. Has event.Begun es) none has));
      still_over = λ n. n;
    }

started : {afar : Afar} {above : List Record} {us : List Sensed} {ga gb : Ghost} {body : Machine} {c : Scene} (desk : Desk) (said : Option Record) → body.intake.offer ≡ said
    → body.intake.phase ≡ inn.Idle → is_some said ≡ true → body.intake.ready ≡ true → events_at Entry us ≡ [] → Good afar above us ga gb body c
    → GoesBy afar above us ga gb c (start_by desk true body)
started desk None f e test is_ready none g = cc
started {afar = afar} {above = above} {us = us} {ga = ga} {gb = gb} {body = body} {c = c} desk (Some q) f e test is_ready none g =
    let l : LinkState = link_above us body c in
    let step : StartSaid (gone_by afar.gone_above) above ga (link_above [] body c) = says_start ga l q (none_later ga l us none g.above_pair) e f is_ready in
    subst (λ row. GoesBy afar above us ga gb c (intake_row_did desk body row)) (sym step.is)
    (subst (λ s. Goes afar above us ga gb c (intake_did desk body step.row).body s)
    (sym (in_met desk step.row.act.deed step.row.act.send step.row.act.drive step.row.act.keep step.row.act.taken c)) (start_did none g step))

start_read : {us : List Sensed} (body : Machine) → IsFreeRead us body → starts_now body ≡ true → events_at Entry us ≡ []
start_read body r e =
    let two = (and_parts _ _ (and_parts _ _ e).0).0 in
    r.read (is_standing body.entry.session.state (and_parts _ _ two).0) (is_free_phase body body.intake.phase refl (and_parts _ _ two).1)

start_when : {afar : Afar} {above : List Record} {us : List Sensed} {ga gb : Ghost} {body : Machine} {c : Scene} (desk : Desk) (test : Bool) → starts_now body ≡ test
    → Good afar above us ga gb body c → IsFreeRead us body → GoesBy afar above us ga gb c (start_by desk test body)
start_when desk false e g r = goes_not g
start_when {body = body} desk true e g r =
    let three = (and_parts _ _ e).0 in
    let two = (and_parts _ _ three).0 in
    let free = (and_parts _ _ two).1 in
    started desk body.intake.offer refl (is_free_phase body body.intake.phase refl free) (and_parts _ _ e).1 (and_parts _ _ three).1 (start_read body r e) g

pub start_ahead : {afar : Afar} {above : List Record} {us : List Sensed} {ga gb : Ghost} {body : Machine} {c : Scene} (desk : Desk)
    → Good afar above us ga gb body c → IsFreeRead us body → GoesBy afar above us ga gb c (start desk body)
start_ahead {body = body} desk g r = start_when desk (starts_now body) refl g r

start_free : {us : List Sensed} (desk : Desk) (test : Bool) (body : Machine) → (test ≡ true → events_at Entry us ≡ []) → IsFreeRead us body → IsFreeRead us (start_by desk test body).body
start_free desk true body none r = quiet_read (none refl)
start_free desk false body none r = r

pub start_goes : {afar : Afar} {above : List Record} {ga gb : Ghost} {body : Machine} {c : Scene} (desk : Desk)
    → Good afar above [] ga gb body c → GoesBy afar above [] ga gb c (start desk body)
start_goes desk g = start_ahead desk g all_free_read

-- ---- all five, in their order, by a machine that may have events still to read

-- the exit's announcements leave the intake and the entry's session
pub outlet_free : {us : List Sensed} (desk : Desk) (body : Machine) (row : Option OutRow) → IsFreeRead us body → IsFreeRead us (outlet_row_did desk body row).body
outlet_free desk body None r = r
outlet_free desk body (Some row) r = record { read = r.read }

revoke_free : {us : List Sensed} (desk : Desk) (test : Bool) (body : Machine) → IsFreeRead us body → IsFreeRead us (revoke_by desk test body).body
revoke_free desk true body r = outlet_free desk body (outlet_row body.outlet out_input.Revoke) r
revoke_free desk false body r = r

offer_free : {us : List Sensed} (desk : Desk) (test : Bool) (front : Option Record) (body : Machine) → IsFreeRead us body → IsFreeRead us (offer_by desk test front body).body
offer_free desk true (Some front) body r = outlet_free desk body (outlet_row body.outlet (out_input.Offer front.id)) r
offer_free desk true None body r = r
offer_free desk false None body r = r
offer_free desk false (Some front) body r = r

-- one after the other, for the ghosts that the first leaves
pub ahead_then_as : {afar : Afar} {above : List Record} {us : List Sensed} {ga gb : Ghost} {c : Scene} (d : Done) (next : Machine → Done) → (first : GoesAhead afar above us ga gb c d)
    → (Good afar above us first.goes.a first.goes.b d.body (all_met d.acts c) → IsFreeRead us d.body → GoesAhead afar above us first.goes.a first.goes.b (all_met d.acts c) (next d.body))
    → GoesAhead afar above us ga gb c (and_then d next)
ahead_then_as {afar = afar} {above = above} {us = us} {ga = ga} {gb = gb} {c = c} d next first later =
    let t = later first.goes.good first.read in
    record {
      goes = subst (λ s. Goes afar above us ga gb c (next d.body).body s) (sym (met_append d.acts (next d.body).acts c)) (goes_both first.goes t.goes);
      read = t.read;
    }

pub ahead_then : {afar : Afar} {above : List Record} {us : List Sensed} {ga gb : Ghost} {c : Scene} (d : Done) (next : Machine → Done) → GoesAhead afar above us ga gb c d
    → ((a b : Ghost) → Good afar above us a b d.body (all_met d.acts c) → IsFreeRead us d.body → GoesAhead afar above us a b (all_met d.acts c) (next d.body))
    → GoesAhead afar above us ga gb c (and_then d next)
ahead_then d next first later = ahead_then_as d next first (λ good read. later first.goes.a first.goes.b good read)

ready_and_start : {afar : Afar} {above : List Record} {us : List Sensed} {ga gb : Ghost} {body : Machine} {c : Scene} (desk : Desk) → Good afar above us ga gb body c → IsFreeRead us body
    → GoesAhead afar above us ga gb c (and_then (ready desk body) (start desk))
ready_and_start {body = body} desk g r = ahead_then (ready desk body) (start desk)
    (record { goes = ready_ahead desk g r; read = ready_free desk (readies_now desk body) body (ready_read desk body r) r })
    (λ a b good read. record { goes = start_ahead desk good read; read = start_free desk (starts_now (ready desk body).body) (ready desk body).body (start_read (ready desk body).body read) read })

offer_and_on : {afar : Afar} {above : List Record} {us : List Sensed} {ga gb : Ghost} {body : Machine} {c : Scene} (desk : Desk) → Good afar above us ga gb body c → IsFreeRead us body
    → GoesAhead afar above us ga gb c (and_then (offer desk body) (λ three. and_then (ready desk three) (start desk)))
offer_and_on {body = body} desk g r = ahead_then (offer desk body) (λ three. and_then (ready desk three) (start desk))
    (record { goes = offer_ahead desk g; read = offer_free desk (offers_now body) (slice_get body.kept 0) body r })
    (λ a b good read. ready_and_start desk good read)

unready_and_on : {afar : Afar} {above : List Record} {us : List Sensed} {ga gb : Ghost} {body : Machine} {c : Scene} (desk : Desk) → Good afar above us ga gb body c → IsFreeRead us body
    → GoesAhead afar above us ga gb c (and_then (unready desk body) (λ two. and_then (offer desk two) (λ three. and_then (ready desk three) (start desk))))
unready_and_on {body = body} desk g r = ahead_then (unready desk body) (λ two. and_then (offer desk two) (λ three. and_then (ready desk three) (start desk)))
    (record { goes = unready_ahead desk g r; read = unready_free desk (unreadies_now desk body) body (unready_read desk g r) r })
    (λ a b good read. offer_and_on desk good read)

pub announces_ahead : {afar : Afar} {above : List Record} {us : List Sensed} {ga gb : Ghost} {body : Machine} {c : Scene} (desk : Desk) → Good afar above us ga gb body c → IsFreeRead us body
    → GoesAhead afar above us ga gb c (announces desk body)
announces_ahead {body = body} desk g r = ahead_then (revoke desk body) (λ one. and_then (unready desk one) (λ two. and_then (offer desk two) (λ three. and_then (ready desk three) (start desk))))
    (record { goes = revoke_ahead desk g; read = revoke_free desk (revokes_now body) body r })
    (λ a b good read. unready_and_on desk good read)

-- and by one that has read all
pub announces_go : {afar : Afar} {above : List Record} {ga gb : Ghost} {body : Machine} {c : Scene} (desk : Desk) → Good afar above [] ga gb body c → GoesBy afar above [] ga gb c (announces desk body)
announces_go desk g = (announces_ahead desk g all_free_read).goes
