-- A LINK IS CONNECTED, at the machine below it: its entry begins a handshake and describes itself.
use Rattle.std.proofs.Common.{Bool, List, None, Option, Some, [], ap, false, refl, subst, sym, true, ℕ, ◌∙◌, ◌∷◌, ◌≡◌}
use Rattle.line_base.specs.declared.states.Role.TheVariants.{Downstream}
use Rattle.line_base.specs.declared.states.Seen.TheVariants as seen
use Rattle.line_base.specs.declared.states.SensorEvent.{SensorEvent}
use Rattle.line_base.specs.declared.states.Side.{Side}
use Rattle.line_base.specs.declared.states.Side.TheVariants.{Entry, Exit}
use Rattle.board_record.specs.declared.record.Record.{Record}
use Rattle.board_record.specs.declared.sensed.Sensed.{Sensed}
use Rattle.hermes_horizontal.specs.declared.message.Horizontal.{Horizontal}
use Rattle.session_core.specs.Acts.{one}
use Rattle.session_core.specs.End.{SessionEnd, at_rest, in_state}
use Rattle.session_core.specs.Input.{opened}
use Rattle.session_core.specs.Row.{SessionRow, session_row}
use Rattle.session_core.specs.declared.actions.Action.TheVariants.{SendService}
use Rattle.session_core.specs.declared.state.SessionState.{SessionState}
use Rattle.session_core.specs.declared.state.SessionState.TheVariants.{Handshake, NotConnected, Standing}
use Rattle.handover_out.specs.Row.{OutRow, outlet_row}
use Rattle.handover_out.specs.declared.input.OutInput.TheVariants as out_input
use Rattle.handover_out.specs.declared.phase.Phase.{Phase as Out}
use Rattle.handover_in.specs.Links.{is_unlinked_phase}
use Rattle.handover_in.specs.Row.{InRow, intake_row}
use Rattle.handover_in.specs.State.{InState, may_connect}
use Rattle.handover_in.specs.declared.input.InInput.TheVariants as in_input
use Rattle.handover_in.specs.declared.phase.Phase.{Phase as In}
use Rattle.handover_in.specs.declared.phase.Phase.TheVariants as inn
use Rattle.node_core.specs.Desk.{Desk}
use Rattle.node_core.specs.Done.{Done, behind, done}
use Rattle.node_core.specs.Event.{Connect, event_did}
use Rattle.node_core.specs.Halves.{intake_row_did, outlet_row_did}
use Rattle.node_core.specs.Reads.{all_read, saw}
use Rattle.node_core.specs.Session.{session_did}
use Rattle.node_core.specs.Sides.{with_session}
use Rattle.node_core.specs.Step.{machine_step}
use Rattle.node_core.specs.Told.{sends, service_of}
use Rattle.node_core.specs.declared.act.Act.TheVariants as acts
use Rattle.node_core.specs.declared.lane.Body.{Body as Machine}
use Rattle.node_core.specs.declared.lane.End.{End}
use Rattle.law_custody.specs.Apart.{away_none, entry_none, entry_waits, entry_waits_heard, entry_waits_in}
use Rattle.law_custody.specs.Floor.{EntryFloor, in_waiting, is_in}
use Rattle.law_custody.specs.Pair.{Ghost}
use Rattle.law_custody.specs.Place.{Place}
use Rattle.law_custody.specs.Talks.{Talks, apart, apart_start, apart_start_stop}
use Rattle.law_custody.specs.Words.{DownWord, UpWord, before_event, events_at, sent}
use Rattle.law_custody.proofs.Connect.{May, may, may_idle, may_waiting}
use Rattle.law_custody.proofs.LinkEvents.{calls_again}
use Rattle.law_machine_custody.specs.Scene.{Scene, link_above}
use Rattle.law_machine_custody.specs.Good.{Afar, Goes, GoesBy, Good}
use Rattle.law_machine_custody.specs.Ahead.{GoesAhead, IsFreeRead}
use Rattle.law_machine_custody.specs.ByHand.{body_read, scene_read}
use Rattle.law_machine_custody.specs.Joined.{with_link}
use Rattle.law_machine_custody.proofs.BehindReading.{read_idle, outlet_apart}
use Rattle.law_machine_custody.proofs.Quiet.{quiet_all, read_keeps, read_quiet}
use Rattle.law_machine_custody.proofs.Fronts.{step_ahead}
use Rattle.law_machine_custody.proofs.FrontRead.{Reads, reads_all}

-- ---- an entry without a connection

pub apart_phase : {b : Bool} {x : SessionState} {o : Out} {of : Option ℕ} {rd : Bool} {i : In} {f : Option Record} {ri : Bool} {p : Place} {up : List UpWord} {down : List DownWord}
    → Talks b x o of rd NotConnected i f ri p up down → is_unlinked_phase i ≡ true
apart_phase (apart_start _ away_none) = refl
apart_phase (apart_start_stop _ away_none) = refl
apart_phase (apart _ entry_none) = refl
apart_phase (apart _ entry_waits) = refl
apart_phase (apart _ entry_waits_in) = refl
apart_phase (apart _ (entry_waits_heard _)) = refl

pub apart_unready : {b : Bool} {x : SessionState} {o : Out} {of : Option ℕ} {rd : Bool} {i : In} {f : Option Record} {ri : Bool} {p : Place} {up : List UpWord} {down : List DownWord}
    → Talks b x o of rd NotConnected i f ri p up down → ri ≡ false
apart_unready (apart_start _ away_none) = refl
apart_unready (apart_start_stop _ away_none) = refl
apart_unready (apart _ entry_none) = refl
apart_unready (apart _ entry_waits) = refl
apart_unready (apart _ entry_waits_in) = refl
apart_unready (apart _ (entry_waits_heard _)) = refl

pub entry_unlinked : {afar : Afar} {above : List Record} {us : List Sensed} {ga gb : Ghost} {body : Machine} {c : Scene} → body.entry.session.state ≡ NotConnected
    → Good afar above us ga gb body c → is_unlinked_phase body.intake.phase ≡ true
entry_unlinked away g = apart_phase (rw away at g.above_pair.talk)

pub entry_unready : {afar : Afar} {above : List Record} {us : List Sensed} {ga gb : Ghost} {body : Machine} {c : Scene} → body.entry.session.state ≡ NotConnected
    → Good afar above us ga gb body c → body.intake.ready ≡ false
entry_unready away g = apart_unready (rw away at g.above_pair.talk)

-- ---- what the reading leaves

in_entry : (desk : Desk) (body : Machine) (row : Option InRow) → (intake_row_did desk body row).body.entry ≡ body.entry
in_entry desk body None = refl
in_entry desk body (Some row) = refl

out_entry : (desk : Desk) (body : Machine) (row : Option OutRow) → (outlet_row_did desk body row).body.entry ≡ body.entry
out_entry desk body None = refl
out_entry desk body (Some row) = refl

saw_entry : (desk : Desk) (at : Side) (event : SensorEvent) (body : Machine) → (saw desk at event body).body.entry ≡ body.entry
saw_entry desk Entry event body = in_entry desk body (intake_row body.intake (in_input.Sensed event))
saw_entry desk Exit event body = out_entry desk body (outlet_row body.outlet (out_input.Sensed event))

pub read_entry : (desk : Desk) (unread : List Sensed) (body : Machine) → (body_read desk unread body).entry ≡ body.entry
read_entry desk unread body = read_keeps (λ b. b.entry ≡ body.entry) desk (λ at event b is. saw_entry desk at event b ∙ is) unread body refl

one_read : (desk : Desk) (at : Side) (event : SensorEvent) (others : List Sensed) (body : Machine) → before_event Entry at event (events_at Entry others) ≡ []
    → ((b : Machine) → events_at Entry others ≡ [] → (body_read desk others b).intake ≡ b.intake) → (body_read desk others (saw desk at event body).body).intake ≡ body.intake
one_read desk Entry event others body none later = cc
one_read desk Exit event others body none later = later (saw desk Exit event body).body none ∙ outlet_apart desk body (outlet_row body.outlet (out_input.Sensed event))

none_read : (desk : Desk) (unread : List Sensed) (body : Machine) → events_at Entry unread ≡ [] → (body_read desk unread body).intake ≡ body.intake
none_read desk [] body none = refl
none_read desk (sensed ∷ others) body none = one_read desk sensed.side sensed.event others body none (λ b is. none_read desk others b is)

waits_read : {r : Record} {h : Bool} {es : List SensorEvent} {drive : Bool} {p : Place} {q : Record} → EntryFloor (inn.Waiting r seen.Complete h) es drive p q → es ≡ []
waits_read (in_waiting is_in) = refl

stays_may : {es : List SensorEvent} (desk : Desk) (read : List Sensed) (body : Machine) (c : Scene) (i : In) {drive : Bool} {p : Place} {q : Record} → body.intake.phase ≡ i → May i → EntryFloor i es drive p q → (es ≡ [] → events_at Entry read ≡ [])
    → may_connect (body_read desk read body).intake.phase ≡ true
stays_may desk read body c _ is may_idle floor none = ap may_connect (read_idle desk read body c is)
stays_may desk read body c _ is may_waiting floor none = ap (λ (s : InState). may_connect s.phase) (none_read desk read body (none (waits_read floor))) ∙ ap may_connect is

pub read_may : {afar : Afar} {above : List Record} {seen rest : List Sensed} {ga gb : Ghost} (desk : Desk) (read : List Sensed) (body : Machine) (c : Scene) → Reads afar above seen rest ga gb desk read body c → may_connect body.intake.phase ≡ true
    → may_connect (body_read desk read body).intake.phase ≡ true
read_may desk read body c reads m = stays_may desk read body c body.intake.phase refl (may body.intake.phase m) reads.before.above_pair.in reads.none

-- what the link above is behind the reading, by a machine whose entry has no connection
pub read_apart : {afar : Afar} {above : List Record} {us : List Sensed} {ga gb : Ghost} (desk : Desk) (unread : List Sensed) (body : Machine) (c : Scene) (stands : Bool) (up down : List Horizontal) → Good afar above us ga gb body c
    → body.entry.session.state ≡ NotConnected → scene_read desk unread body (with_link Entry stands up down c) ≡ with_link Entry stands up down (scene_read desk unread body c)
read_apart desk unread body c stands up down g away = quiet_all Entry stands up down (all_read desk unread body).acts c (read_quiet desk Entry unread body (entry_unlinked away g))

-- ---- the connection

abbrev pub calling : SessionEnd
calling = in_state (at_rest Downstream) Handshake

calls_row : (s : SessionEnd) → s.state ≡ NotConnected → s.role ≡ Downstream → session_row s opened ≡ Some (record { after = calling; actions = one SendService })
calls_row s away role = rw (away, role) refl

pub connect_did : (desk : Desk) (body : Machine) → body.entry.session.state ≡ NotConnected → body.entry.session.role ≡ Downstream
    → event_did desk Connect body ≡ done (with_session Entry calling body) (acts.Connects ∷ sends desk Entry (service_of desk))
connect_did desk body away role = ap (λ (row : Option SessionRow). behind (acts.Connects ∷ []) (session_did desk Entry row body)) (calls_row body.entry.session away role)

pub vanishes : (stands : Bool) (m : Horizontal) (ms : List Horizontal) → stands ≡ false → sent (m ∷ []) stands ms ≡ ms
vanishes true m ms off = cc
vanishes false m ms _ = refl

-- the description vanishes, and the entry shakes hands
calls_go : {afar : Afar} {above : List Record} {us : List Sensed} {ga gb : Ghost} (body : Machine) (c : Scene) → Good afar above us ga gb body c → body.entry.session.state ≡ NotConnected → may_connect body.intake.phase ≡ true
    → Goes afar above us ga gb c (with_session Entry calling body) c
calls_go {us = us} {ga = ga} {gb = gb} body c g away m = record {
  a = ga;
  b = gb;
  good = record {
    above_pair = calls_again ga (link_above us body c) g.above_pair m away;
    below_pair = g.below_pair;
    boards = g.boards;
    above_contents = g.above_contents;
    below_contents = g.below_contents;
    above_holds = g.above_holds;
    below_holds = g.below_holds;
    entry_role = refl;
    exit_role = g.exit_role;
    away = g.away;
    here = g.here;
    recent = g.recent;
  };
  lists_above = λ kept i q boards h. h;
  lists_below = λ o p kept boards h. h;
  still_first = λ n. n;
  still_over = λ n. n;
}

pub connect_goes : {afar : Afar} {above : List Record} {us : List Sensed} {ga gb : Ghost} (desk : Desk) (body : Machine) (c : Scene) → Good afar above us ga gb body c → body.entry.session.state ≡ NotConnected
    → may_connect body.intake.phase ≡ true → c.above.stands ≡ false → GoesBy afar above us ga gb c (event_did desk Connect body)
connect_goes {afar = afar} {above = above} {us = us} {ga = ga} {gb = gb} desk body c g away m off =
    subst (λ (d : Done). GoesBy afar above us ga gb c d) (sym (connect_did desk body away g.entry_role))
    (subst (λ (up : List Horizontal). Goes afar above us ga gb c (with_session Entry calling body) (record c { above = record c.above { up = up } }))
    (sym (vanishes c.above.stands (service_of desk) c.above.up off)) (calls_go body c g away m))

-- an entry that shakes hands is in no session that stands
pub shaking_free : {us : List Sensed} (body : Machine) → IsFreeRead us (with_session Entry calling body)
shaking_free body = record { read = λ stands free. let never : Handshake ≡ Standing = stands in cc }

-- THE STEP OF THE MACHINE BELOW, in a scene whose link above doesn't stand: a first connection before the exit takes it,
-- or a second one
pub connects_ahead : {afar : Afar} {above : List Record} {seen rest : List Sensed} {ga gb : Ghost} (desk : Desk) (read : List Sensed) (body : Machine) (c : Scene) → Reads afar above seen rest ga gb desk read body c
    → body.entry.session.state ≡ NotConnected → may_connect body.intake.phase ≡ true → c.above.stands ≡ false → GoesAhead afar above rest ga gb c (machine_step desk read Connect body)
connects_ahead {rest = rest} desk read body c reads away m off =
    let up = c.above.up in
    let down = c.above.down in
    let one : Machine = body_read desk read body in
    let still : one.entry.session.state ≡ NotConnected = ap (λ (e : End). e.session.state) (read_entry desk read body) ∙ away in
    let is : (scene_read desk read body c).above.stands ≡ c.above.stands = ap (λ (d : Scene). d.above.stands) (read_apart desk read body c c.above.stands up down reads.before away) in
    step_ahead desk read Connect body c (record {
      goes = connect_goes desk one (scene_read desk read body c) reads.after still (read_may desk read body c reads m) (is ∙ off);
      read = subst (λ (d : Done). IsFreeRead rest d.body) (sym (connect_did desk one still reads.after.entry_role)) (shaking_free one);
    })

pub connects_go : {afar : Afar} {above : List Record} {ga gb : Ghost} (desk : Desk) (unread : List Sensed) (body : Machine) (c : Scene) → Good afar above unread ga gb body c
    → body.entry.session.state ≡ NotConnected → may_connect body.intake.phase ≡ true → c.above.stands ≡ false → GoesBy afar above [] ga gb c (machine_step desk unread Connect body)
connects_go desk unread body c g away m off = (connects_ahead desk unread body c (reads_all desk unread body c g) away m off).goes
