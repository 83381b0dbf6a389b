-- A connection that is made at the entry leaves what the intake holds.
use Rattle.std.proofs.Common.{
  ap,
  inl,
  inr,
  refl,
  ◌≡◌,
  ◌∙◌,
  ◌⊎◌,
  ◌&&◌,
  not,
  Bool,
  true,
  false,
  List,
  [],
  ◌∷◌,
  Option,
  Some,
  None,
}
use Rattle.std.specs.Prelude.{slice_get}
use Rattle.std.proofs.lemmas.Bool.{false≢true}
use Rattle.law_supervisor_replay.proofs.OneEvent.{with_intake}
use Rattle.line_base.specs.declared.states.Role.{Role}
use Rattle.line_base.specs.declared.states.Role.TheVariants.{Downstream, Upstream}
use Rattle.line_base.specs.declared.states.Seen.TheVariants as seen
use Rattle.line_base.specs.declared.states.SensorEvent.{SensorEvent}
use Rattle.line_base.specs.declared.states.SensorEvent.TheVariants as event
use Rattle.line_base.specs.declared.states.Side.{Side}
use Rattle.line_base.specs.declared.states.Side.TheVariants.{Entry, Exit}
use Rattle.board_record.specs.declared.record.Record.{Record}
use Rattle.board_record.specs.declared.sensed.Sensed.{Sensed}
use Rattle.session_core.specs.declared.state.SessionState.{SessionState}
use Rattle.session_core.specs.declared.state.SessionState.TheVariants.{
  Handshake,
  NotConnected,
  Standing,
}
use Rattle.session_core.specs.End.{is_standing_state}
use Rattle.session_core.specs.Row.{opened_row, opening_actions}
use Rattle.handover_out.specs.declared.input.OutInput.TheVariants as out_input
use Rattle.handover_out.specs.Row.{OutRow, outlet_row}
use Rattle.handover_in.specs.declared.act.InSend.TheVariants.{MachineReady, RevokeMachineReady}
use Rattle.handover_in.specs.declared.phase.Phase.{Phase}
use Rattle.handover_in.specs.declared.phase.Phase.TheVariants.{Idle, Stopped, Taking, Waiting}
use Rattle.handover_in.specs.Act.{sends}
use Rattle.handover_in.specs.Row.{only_if, ready_row, row, unready_row}
use Rattle.handover_in.specs.State.{may_connect}
use Rattle.handover_in.specs.Table.{state_of}
use Rattle.node_core.specs.Announces.{
  announces,
  offer,
  offer_by,
  offers_now,
  readies_now,
  ready,
  ready_by,
  revoke,
  revoke_by,
  revokes_now,
  start_by,
  starts_now,
  unreadies_now,
  unready,
  unready_by,
}
use Rattle.node_core.specs.Desk.{Desk}
use Rattle.node_core.specs.Event.{Connect, event_did}
use Rattle.node_core.specs.Halves.{intake_row_did, outlet_row_did}
use Rattle.node_core.specs.Reads.{all_read, reads}
use Rattle.node_core.specs.Session.{actions_did, session_did}
use Rattle.node_core.specs.Sides.{is_standing}
use Rattle.node_core.specs.Step.{plain_step}
use Rattle.node_core.specs.declared.lane.Body.{Body}
use Rattle.node_core.specs.declared.lane.End.{End}
use Rattle.law_custody.specs.Floor.{
  EntryFloor,
  Run,
  Sees,
  in_free,
  in_stopped,
  in_taken_in,
  in_taking,
  in_waiting,
  in_waiting_on,
  is_in,
}
use Rattle.law_custody.specs.Place.{Place}
use Rattle.law_custody.specs.Words.{before_event, events_at}

-- the intake's phase is as before, and so is the entry
record Keeps (body now : Body) : Type 0 where
  phase : now.intake.phase ≡ body.intake.phase
  entry : now.entry ≡ body.entry

keeps_all : (body : Body) → Keeps body body
keeps_all body = record { phase = refl; entry = refl }

keeps_both : {body one now : Body} → Keeps body one → Keeps one now → Keeps body now
keeps_both a b = record { phase = b.phase ∙ a.phase; entry = b.entry ∙ a.entry }

outlet_keeps : (desk : Desk) (body : Body) (found : Option OutRow)
    → Keeps body (outlet_row_did desk body found).body
outlet_keeps desk body None = keeps_all body
outlet_keeps desk body (Some row) = record { phase = refl; entry = refl }

-- ---- an intake that is idle, or that has nothing unread

abbrev Settled : List SensorEvent → Phase → Type 0
Settled es phase = (es ≡ []) ⊎ (phase ≡ Idle)

all_seen : {es : List SensorEvent} {place : Place} {run : Run} → Sees seen.Complete es place run
    → es ≡ []
all_seen is_in = refl

is_settled : {phase : Phase} {es : List SensorEvent} {drive : Bool} {place : Place} {board : Record}
    → may_connect phase ≡ true → EntryFloor phase es drive place board → Settled es phase
is_settled may (in_free free apart) = inr refl
is_settled may (in_taking s) = absurd (false≢true may)
is_settled may (in_taken_in s) = absurd (false≢true may)
is_settled may (in_stopped s) = absurd (false≢true may)
is_settled may (in_waiting {own = seen.Complete} s) = inl (all_seen s)
is_settled may (in_waiting {own = seen.NotStarted} s) = absurd (false≢true may)
is_settled may (in_waiting {own = seen.Incomplete} s) = absurd (false≢true may)
is_settled may (in_waiting {own = seen.Taken} s) = absurd (false≢true may)
is_settled may in_waiting_on = absurd (false≢true may)

abbrev sensed_at : Side → SensorEvent → Sensed
sensed_at side e = record { side = side; event = e }

idle_keeps : (desk : Desk) (body : Body) (o : Option Record) (rd : Bool) (e : SensorEvent)
    → Keeps (with_intake body (state_of Idle o rd))
    (reads desk (sensed_at Entry e) (with_intake body (state_of Idle o rd))).body
idle_keeps desk body o rd event.Begun = record { phase = refl; entry = refl }
idle_keeps desk body o rd event.Left = record { phase = refl; entry = refl }
idle_keeps desk body o rd event.Full = record { phase = refl; entry = refl }
idle_keeps desk body o rd event.Back = record { phase = refl; entry = refl }
idle_keeps desk body o rd event.Taken = record { phase = refl; entry = refl }

entry_keeps : (desk : Desk) (body : Body) (phase : Phase) (o : Option Record) (rd : Bool)
    (e : SensorEvent) → phase ≡ Idle
    → Keeps (with_intake body (state_of phase o rd))
    (reads desk (sensed_at Entry e) (with_intake body (state_of phase o rd))).body
entry_keeps desk body Idle o rd e is = idle_keeps desk body o rd e
entry_keeps desk body (Taking board own heard) o rd e is = cc
entry_keeps desk body (Stopped board own heard) o rd e is = cc
entry_keeps desk body (Waiting board own heard) o rd e is = cc

record KeepsOne (es : List SensorEvent) (body now : Body) : Type 0 where
  keeps : Keeps body now
  settled : Settled es now.intake.phase

one_keeps : (desk : Desk) (side : Side) (e : SensorEvent) (es : List SensorEvent) (body : Body)
    → Settled (before_event Entry side e es) body.intake.phase
    → KeepsOne es body (reads desk (sensed_at side e) body).body
one_keeps desk Entry e es body (inl none) = cc
one_keeps desk Entry e es body (inr idle) =
    let k = entry_keeps desk body body.intake.phase body.intake.offer body.intake.ready e idle in
    record { keeps = k; settled = inr (k.phase ∙ idle) }
one_keeps desk Exit e es body (inl none) = record {
  keeps = outlet_keeps desk body (outlet_row body.outlet (out_input.Sensed e));
  settled = inl none;
}
one_keeps desk Exit e es body (inr idle) =
    let k = outlet_keeps desk body (outlet_row body.outlet (out_input.Sensed e)) in
    record { keeps = k; settled = inr (k.phase ∙ idle) }

all_keep : (desk : Desk) (unread : List Sensed) (body : Body)
    → Settled (events_at Entry unread) body.intake.phase
    → Keeps body (all_read desk unread body).body
all_keep desk [] body settled = keeps_all body
all_keep desk (sensed ∷ others) body settled =
    let one = one_keeps desk sensed.side sensed.event (events_at Entry others) body settled in
    keeps_both one.keeps (all_keep desk others (reads desk sensed body).body one.settled)

-- ---- the connection

record Opened (body now : Body) : Type 0 where
  phase : now.intake.phase ≡ body.intake.phase
  handshake : is_standing_state now.entry.session.state ≡ false

opening_stays : (desk : Desk) (role : Role) (body : Body)
    → (actions_did desk Entry (opening_actions role) body).body ≡ body
opening_stays desk Downstream body = refl
opening_stays desk Upstream body = refl

opened_by : (desk : Desk) (body : Body) (state : SessionState) → state ≡ NotConnected
    → Opened body (session_did desk Entry (opened_row state body.entry.session) body).body
opened_by desk body NotConnected is = record {
  phase = ap (λ (b : Body). b.intake.phase) (opening_stays desk body.entry.session.role _);
  handshake = ap (λ (b : Body). is_standing_state b.entry.session.state)
      (opening_stays desk body.entry.session.role _);
}
opened_by desk body Handshake is = cc
opened_by desk body Standing is = cc

-- ---- the announcements start nothing where the entry's session doesn't stand

revoke_keeps : (desk : Desk) (test : Bool) (body : Body)
    → Keeps body (revoke_by desk test body).body
revoke_keeps desk true body = outlet_keeps desk body (outlet_row body.outlet out_input.Revoke)
revoke_keeps desk false body = keeps_all body

offer_keeps : (desk : Desk) (test : Bool) (front : Option Record) (body : Body)
    → Keeps body (offer_by desk test front body).body
offer_keeps desk true (Some front) body =
    outlet_keeps desk body (outlet_row body.outlet (out_input.Offer front.id))
offer_keeps desk true None body = keeps_all body
offer_keeps desk false front body = keeps_all body

-- a row that changes whether the machine is ready
sets_ready : (desk : Desk) (body : Body) (test on : Bool)
    → Keeps body (intake_row_did desk body
    (only_if test (row (record body.intake { ready = on }) (sends MachineReady)))).body
sets_ready desk body true on = record { phase = refl; entry = refl }
sets_ready desk body false on = keeps_all body

sets_unready : (desk : Desk) (body : Body) (test on : Bool)
    → Keeps body (intake_row_did desk body
    (only_if test (row (record body.intake { ready = on }) (sends RevokeMachineReady)))).body
sets_unready desk body true on = record { phase = refl; entry = refl }
sets_unready desk body false on = keeps_all body

unready_row_keeps : (desk : Desk) (body : Body) (phase : Phase)
    → Keeps body (intake_row_did desk body (unready_row phase body.intake)).body
unready_row_keeps desk body Idle = sets_unready desk body body.intake.ready false
unready_row_keeps desk body (Taking board own heard) = keeps_all body
unready_row_keeps desk body (Stopped board own heard) = keeps_all body
unready_row_keeps desk body (Waiting board own heard) = keeps_all body

ready_row_keeps : (desk : Desk) (body : Body) (phase : Phase)
    → Keeps body (intake_row_did desk body (ready_row phase body.intake)).body
ready_row_keeps desk body Idle = sets_ready desk body (not body.intake.ready) true
ready_row_keeps desk body (Taking board own heard) = keeps_all body
ready_row_keeps desk body (Stopped board own heard) = keeps_all body
ready_row_keeps desk body (Waiting board own heard) = keeps_all body

unready_keeps : (desk : Desk) (test : Bool) (body : Body)
    → Keeps body (unready_by desk test body).body
unready_keeps desk true body = unready_row_keeps desk body body.intake.phase
unready_keeps desk false body = keeps_all body

ready_keeps : (desk : Desk) (test : Bool) (body : Body)
    → Keeps body (ready_by desk test body).body
ready_keeps desk true body = ready_row_keeps desk body body.intake.phase
ready_keeps desk false body = keeps_all body

never_starts : (a b c d : Bool) → a ≡ false → (a && b && c && d) ≡ false
never_starts false b c d is = refl
never_starts true b c d is = cc

start_stays : (desk : Desk) (test : Bool) (body : Body) → test ≡ false
    → (start_by desk test body).body.intake.phase ≡ body.intake.phase
start_stays desk false body is = refl
start_stays desk true body is = cc

announces_keep : (desk : Desk) (body : Body)
    → is_standing_state body.entry.session.state ≡ false
    → (announces desk body).body.intake.phase ≡ body.intake.phase
announces_keep desk body off =
    let one : Body = (revoke desk body).body in
    let two : Body = (unready desk one).body in
    let three : Body = (offer desk two).body in
    let four : Body = (ready desk three).body in
    let k : Keeps body four =
    keeps_both (revoke_keeps desk (revokes_now body) body)
    (keeps_both (unready_keeps desk (unreadies_now desk one) one)
    (keeps_both (offer_keeps desk (offers_now two) (slice_get two.kept 0) two)
    (ready_keeps desk (readies_now desk three) three))) in
    let still : is_standing Entry four ≡ false =
    ap (λ (e : End). is_standing_state e.session.state) k.entry ∙ off in
    start_stays desk (starts_now four) four (never_starts _ _ _ _ still) ∙ k.phase

-- ---- the step

pub connect_takes : (desk : Desk) (unread : List Sensed) (body : Body) (drive : Bool)
    (place : Place) (board : Record)
    → may_connect body.intake.phase ≡ true → body.entry.session.state ≡ NotConnected
    → EntryFloor body.intake.phase (events_at Entry unread) drive place board
    → (plain_step desk unread Connect body).body.intake.phase ≡ body.intake.phase
connect_takes desk unread body drive place board may off floor =
    let one : Body = (all_read desk unread body).body in
    let two : Body = (event_did desk Connect one).body in
    let k : Keeps body one = all_keep desk unread body (is_settled may floor) in
    let still_off : one.entry.session.state ≡ NotConnected =
    ap (λ (e : End). e.session.state) k.entry ∙ off in
    let opened : Opened one two = opened_by desk one one.entry.session.state still_off in
    announces_keep desk two opened.handshake ∙ opened.phase ∙ k.phase
