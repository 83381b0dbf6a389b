-- NO FALSE BLAME, for a machine's step: where all that it hears are messages that the machine at the other end sends, in the
-- order in which they were sent, nothing is told of a breach. And whatever is heard so, or wrong, the machine sends only such
-- messages itself.
use Rattle.std.proofs.Common.{
  Bool,
  List,
  None,
  Option,
  Some,
  [],
  ap,
  false,
  is_some,
  map,
  refl,
  subst,
  sym,
  true,
  ℕ,
  ℤ,
  ◌&&◌,
  ◌++◌,
  ◌∙◌,
  ◌∷◌,
  ◌≡◌,
}
use Rattle.std.proofs.lemmas.Bool.{false≢true, and_from}
use Rattle.line_base.specs.declared.states.Code.{Code}
use Rattle.line_base.specs.declared.states.Role.{Role}
use Rattle.line_base.specs.declared.states.Severity.{Severity}
use Rattle.line_base.specs.declared.states.Severity.TheVariants.{Fatal}
use Rattle.hermes_horizontal.specs.Parts.{kind_of}
use Rattle.session_core.specs.Acts.{two}
use Rattle.session_core.specs.Handling.{handling_of}
use Rattle.session_core.specs.Row.{actions_at, service_row, taken_row, traffic_row}
use Rattle.session_core.specs.declared.actions.Tell.TheVariants.{Unsettled}
use Rattle.handover_out.specs.declared.phase.Phase.{Phase as Out}
use Rattle.handover_in.specs.declared.phase.Phase.{Phase as In}
use Rattle.node_core.proofs.Offers.{OffersOf}
use Rattle.node_core.proofs.Keeping.{hears_keeps}
use Rattle.node_core.proofs.Sound.{all_read_keeps}
use Rattle.law_machine_custody.specs.ByHand.{body_read, scene_read}
use Rattle.law_machine_custody.specs.Flight.{AreOldest, oldest_says, unheard}
use Rattle.law_machine_custody.proofs.BehindReading.{read_leaves}
use Rattle.law_machine_custody.proofs.HearingAll.{deaf}
use Rattle.law_machine_custody.proofs.HearingEntry.{entry_hears}
use Rattle.law_machine_custody.proofs.HearingExit.{exit_hears}
use Rattle.law_machine_custody.proofs.Listening.{
  Then,
  breach_shuts,
  closed,
  entry_hears_then,
  exit_hears_then,
  still,
}
use Rattle.law_machine_custody.proofs.Reading.{all_read_good}
use Rattle.law_custody.specs.Apart.{
  Exit as Alone,
  exit_called,
  exit_called_stuck,
  exit_described,
  exit_described_stuck,
  exit_idle,
}
use Rattle.law_custody.specs.Contents.{Looks}
use Rattle.law_custody.specs.Events.{gone_by}
use Rattle.law_custody.specs.Flight.{Readies, Starts}
use Rattle.law_custody.specs.Pair.{Ghost, LinkState}
use Rattle.law_custody.specs.Place.{Place}
use Rattle.law_custody.specs.Shape.{Shape, no_handover, start_and_stop_sent, start_sent}
use Rattle.law_custody.specs.Talks.{
  Talks,
  apart,
  apart_start,
  apart_start_stop,
  live,
  shaking_idle,
  shaking_stuck,
  shaking_stuck_waiting,
  shaking_waiting,
}
use Rattle.law_custody.specs.Words.{DownWord, DownstreamService, UpWord}
use Rattle.law_custody.proofs.EntryEvents.{
  hears_available,
  hears_finished,
  hears_revoke_available,
  hears_upstream,
}
use Rattle.law_custody.proofs.ExitEvents.{hears_ready, hears_revoke_ready, hears_start, hears_stop}
use Rattle.law_custody.proofs.Promised.{finds_for_a_start}
use Rattle.law_machine_custody.specs.Good.{Afar, GoesBy, Good}
use Rattle.law_machine_custody.specs.Scene.{Scene, all_met, link_above, link_below}
use Rattle.law_machine_custody.proofs.Keeping.{front_found, kept_lies, offers_the_front}
use Rattle.law_machine_custody.proofs.Rows.{unheard_above, unheard_below}
use Rattle.line_base.specs.declared.states.Role.TheVariants.{Downstream, Upstream}
use Rattle.line_base.specs.declared.states.Side.{Side}
use Rattle.line_base.specs.declared.states.Side.TheVariants.{Entry, Exit}
use Rattle.board_record.specs.declared.record.Record.{Record}
use Rattle.board_record.specs.declared.sensed.Sensed.{Sensed as Seen}
use Rattle.hermes_horizontal.specs.declared.message.Horizontal.{Horizontal}
use Rattle.hermes_horizontal.specs.declared.message.Horizontal.TheVariants as message
use Rattle.hermes_horizontal.specs.declared.message.Message.{Message}
use Rattle.hermes_horizontal.specs.declared.message.Ping.{Ping}
use Rattle.hermes_horizontal.specs.declared.message.Ping.TheVariants as ping
use Rattle.hermes_horizontal.specs.declared.message.Service.{Service}
use Rattle.session_core.specs.declared.actions.Action.{Action}
use Rattle.session_core.specs.declared.actions.Action.TheVariants.{
  Close,
  Pass,
  Ping as Pings,
  Pong,
  SendService,
  Stand,
  Tell,
}
use Rattle.session_core.specs.declared.actions.Actions.{Actions}
use Rattle.session_core.specs.declared.state.SessionState.{SessionState}
use Rattle.session_core.specs.declared.state.SessionState.TheVariants.{
  Handshake,
  NotConnected,
  Standing,
}
use Rattle.session_core.specs.Acts.{nothing, one}
use Rattle.session_core.specs.End.{
  SessionEnd,
  at_rest,
  is_connected_state,
  stands,
  taken as heard_from,
}
use Rattle.session_core.specs.Input.{heard}
use Rattle.session_core.specs.Row.{
  SessionRow,
  alive_actions,
  connected_row,
  described_row,
  session_row,
}
use Rattle.handover_out.specs.declared.act.OutAct.{OutAct}
use Rattle.handover_out.specs.declared.act.OutDeed.{OutDeed}
use Rattle.handover_out.specs.declared.act.OutSend.{OutSend}
use Rattle.handover_out.specs.declared.act.OutSend.TheVariants as out_sends
use Rattle.handover_out.specs.declared.input.OutInput.TheVariants as out_input
use Rattle.handover_out.specs.Row.{OutRow, outlet_row}
use Rattle.handover_out.specs.State.{held, would_open}
use Rattle.handover_in.specs.declared.act.InAct.{InAct}
use Rattle.handover_in.specs.declared.act.InDeed.{InDeed}
use Rattle.handover_in.specs.declared.act.InSend.{InSend}
use Rattle.handover_in.specs.declared.act.InSend.TheVariants as in_sends
use Rattle.handover_in.specs.declared.input.InInput.TheVariants as in_input
use Rattle.handover_in.specs.Row.{InRow, intake_row}
use Rattle.node_core.specs.Announces.{announces, ready}
use Rattle.node_core.specs.Connect.{if_open}
use Rattle.node_core.specs.Desk.{Desk}
use Rattle.node_core.specs.Done.{Done, and_then, behind}
use Rattle.node_core.specs.Event.{Event, Nothing, Words, event_did, Forecast, Query}
use Rattle.node_core.specs.Halves.{behind_opening, ended, opening_board}
use Rattle.node_core.specs.Hears.{hears, intake_took, outlet_took, passed, rowed, taken}
use Rattle.node_core.specs.Reads.{all_read}
use Rattle.node_core.specs.Session.{actions_did, breaches}
use Rattle.node_core.specs.Sides.{is_open, session_at, with_session}
use Rattle.node_core.specs.Step.{machine_step, plain_step}
use Rattle.node_core.specs.Supervising.{Answer, Ask, watch_of, with_tells}
use Rattle.node_core.specs.declared.supervising.Watch.{Watch}
use Rattle.node_core.proofs.Telling.{tells_pass}
use Rattle.node_core.specs.Told.{
  drives,
  in_does,
  in_sends as in_said,
  in_told,
  notification,
  out_does,
  out_sends as out_said,
  out_told,
  sends,
}
use Rattle.node_core.specs.Words.{all_heard}
use Rattle.node_core.specs.declared.act.Act.{Act}
use Rattle.node_core.specs.declared.act.Act.TheVariants as acts
use Rattle.node_core.specs.declared.lane.Body.{Body}
use Rattle.node_core.specs.declared.word.Word.{Word}
use Rattle.node_core.specs.declared.word.Word.TheVariants as words
use Rattle.law_link_messages.specs.Heard.{bodies}
use Rattle.step_rules.proofs.BlameReady.{
  hears_ready as behind_hearing,
  is_ready,
  read_stays,
  ready_after,
  ready_stands,
}
use Rattle.step_rules.specs.Causes.{
  Announcing,
  ByHand,
  Cause,
  Hearing,
  Meeting,
  Reading,
  Tells,
  hand_inserts,
  tells_alive,
  tells_forecast,
  tells_hearing,
  tells_info,
  tells_notice,
  tells_query,
  tells_service,
  hand_changes,
  changes_quality,
}
use Rattle.step_rules.specs.Made.{
  Made,
  made_act,
  made_both,
  made_breach,
  made_by_hand,
  made_close,
  made_intake,
  made_none,
  made_notice,
  made_outlet,
  made_passed,
  made_row,
  made_start,
  made_will,
  made_word,
  without_connection,
}
use Rattle.step_rules.proofs.Steps.{
  actions_made,
  all_read_made,
  announces_made,
  event_made,
  half_closed_made,
}

-- ---- acts that breach nothing but at such sides, and send only such messages as come to the side at the other end

-- what the machine above says to an entry, and the one below to an exit; of boards beside their handovers only to one that is
-- not in its handshake
abbrev pub is_from : Side → Bool → Horizontal → Bool
is_from side ready (message.CheckAlive ping id) = true
is_from side ready (message.ServiceDescription service) = true
is_from side ready (message.Notification code severity text) = true
is_from Entry ready (message.BoardAvailable board) = true
is_from Entry ready message.RevokeBoardAvailable = true
is_from Entry ready (message.TransportFinished state id) = true
is_from Entry ready (message.BoardForecast info) = ready
is_from Entry ready (message.SendBoardInfo info) = ready
is_from Exit ready (message.MachineReady quality) = true
is_from Exit ready message.RevokeMachineReady = true
is_from Exit ready (message.StartTransport id) = true
is_from Exit ready (message.StopTransport state id) = true
is_from Exit ready (message.QueryBoardInfo top bottom) = ready
is_from side ready what = false

-- at which sides acts may breach, and at which they may tell of boards beside their handovers
pub record Leave : Type 0 where
  pub blames : Side → Bool
  pub frees : Side → Bool

abbrev pub is_mild : Leave → Act → Bool
is_mild may (acts.Breaches side text) = may.blames side
is_mild may (acts.Sends Entry m) = is_from Exit (may.frees Entry) m.body
is_mild may (acts.Sends Exit m) = is_from Entry (may.frees Exit) m.body
is_mild may _ = true

abbrev pub are_mild : Leave → List Act → Bool
are_mild may [] = true
are_mild may (act ∷ others) = is_mild may act && are_mild may others

-- what the supervisor is told breaches nothing, and goes to no neighbour
pub tells_mild : (may : Leave) (desk : Desk) (watch : Watch) (made : List Act)
    → are_mild may (with_tells desk watch made) ≡ are_mild may made
tells_mild may desk watch made =
    tells_pass (are_mild may)
    (λ act told plain same. ap (λ (rest : Bool). is_mild may act && rest) same)
    (λ message told. refl) desk watch made

record Mild (may : Leave) (d : Done) : Type 0 where
  mild : are_mild may d.acts ≡ true

-- at no side, and at this one alone
abbrev pub at_none : Side → Bool
at_none side = false

abbrev pub at_one : Side → Side → Bool
at_one Entry Entry = true
at_one Entry Exit = false
at_one Exit Entry = false
at_one Exit Exit = true

-- at none, and to nobody
abbrev pub no_leave : Leave
no_leave = record { blames = at_none; frees = at_none }

-- all of them are such as come to this side, in their order
abbrev pub AreBodiesFrom : Side → Bool → List Horizontal → Type 0
AreBodiesFrom side ready [] = Unit {0}
AreBodiesFrom side ready (body ∷ others) = (is_from side ready body ≡ true) × AreBodiesFrom side (ready_after side ready body) others

abbrev pub AreFrom : Side → Bool → List Message → Type 0
AreFrom side ready messages = AreBodiesFrom side ready (bodies messages)

mild_append : (may : Leave) (a b : List Act) → are_mild may a ≡ true → are_mild may b ≡ true → are_mild may (a ++ b) ≡ true
mild_append may [] b one two = two
mild_append may (act ∷ a) b one two = mild_by (is_mild may act) one (λ later. mild_append may a b later two) where
  mild_by : (first : Bool) → (first && are_mild may a) ≡ true → (are_mild may a ≡ true → are_mild may (a ++ b) ≡ true) → (first && are_mild may (a ++ b)) ≡ true
  mild_by true is next = next is
  mild_by false is next = is

mild_both : {may : Leave} (first : Done) (next : Body → Done) → Mild may first → Mild may (next first.body) → Mild may (and_then first next)
mild_both {may} first next a b = record { mild = mild_append may first.acts (next first.body).acts a.mild b.mild }

mild_behind : {may : Leave} (told : List Act) (d : Done) → are_mild may told ≡ true → Mild may d → Mild may (behind told d)
mild_behind {may} told d one two = record { mild = mild_append may told d.acts one two.mild }

-- ---- the halves and the sessions

out_does_mild : (may : Leave) (deed : Option OutDeed) → are_mild may (out_does deed) ≡ true
out_does_mild may None = refl
out_does_mild may (Some deed) = refl

out_said_mild : (may : Leave) (desk : Desk) (kept : List Record) (send : Option OutSend) → are_mild may (out_said desk kept send) ≡ true
out_said_mild may desk kept None = refl
out_said_mild may desk [] (Some out_sends.BoardAvailable) = refl
out_said_mild may desk (r ∷ rs) (Some out_sends.BoardAvailable) = refl
out_said_mild may desk kept (Some out_sends.RevokeBoardAvailable) = refl
out_said_mild may desk kept (Some (out_sends.Finished state id)) = refl

drives_mild : (may : Leave) (side : Side) (drive : Option Bool) → are_mild may (drives side drive) ≡ true
drives_mild may side None = refl
drives_mild may side (Some on) = refl

out_mild : (may : Leave) (desk : Desk) (kept : List Record) (act : OutAct) → are_mild may (out_told desk kept act) ≡ true
out_mild may desk kept act = mild_append may (out_does act.deed) (out_said desk kept act.send ++ drives Exit act.drive) (out_does_mild may act.deed) (mild_append may (out_said desk kept act.send) (drives Exit act.drive) (out_said_mild may desk kept act.send) (drives_mild may Exit act.drive))

in_does_mild : (may : Leave) (deed : Option InDeed) → are_mild may (in_does deed) ≡ true
in_does_mild may None = refl
in_does_mild may (Some deed) = refl

in_said_mild : (may : Leave) (desk : Desk) (send : Option InSend) → are_mild may (in_said desk send) ≡ true
in_said_mild may desk None = refl
in_said_mild may desk (Some in_sends.MachineReady) = refl
in_said_mild may desk (Some in_sends.RevokeMachineReady) = refl
in_said_mild may desk (Some (in_sends.Start id)) = refl
in_said_mild may desk (Some (in_sends.Stop state id)) = refl

in_mild : (may : Leave) (desk : Desk) (act : InAct) → are_mild may (in_told desk act) ≡ true
in_mild may desk act = mild_append may (in_does act.deed) (in_said desk act.send ++ drives Entry act.drive) (in_does_mild may act.deed) (mild_append may (in_said desk act.send) (drives Entry act.drive) (in_said_mild may desk act.send) (drives_mild may Entry act.drive))

-- ---- what befalls a machine, but words

-- where boards are told of beside their handovers, the session of that side stands
abbrev pub IsNoWords : (Side → Bool) → Event → Type 0
IsNoWords frees (Words side words) = ⊥
IsNoWords frees Forecast = frees Exit ≡ true
IsNoWords frees (Query barcode) = frees Entry ≡ true
IsNoWords frees _ = Unit {0}

-- ---- the pieces of a step, but for words

abbrev IsQuietCause : Leave → Cause → Type 0
IsQuietCause may Reading = Unit {0}
IsQuietCause may (Hearing side word) = ⊥
IsQuietCause may (Meeting event) = IsNoWords may.frees event
IsQuietCause may (Announcing starting) = Unit {0}

act_mild : {desk : Desk} {cause : Cause} {body : Body} {act : Act} (may : Leave)
    → Tells desk cause body act → IsQuietCause may cause → is_mild may act ≡ true
act_mild may tells_hearing own = absurd own
act_mild may (tells_info says on) own = absurd own
act_mild may (tells_forecast is) own = own
act_mild may tells_query own = own
act_mild may (tells_service {side = Entry} talk) own = refl
act_mild may (tells_service {side = Exit} talk) own = refl
act_mild may (tells_alive {side = Entry} talk) own = refl
act_mild may (tells_alive {side = Exit} talk) own = refl
act_mild may (tells_notice {side = Entry} talk) own = refl
act_mild may (tells_notice {side = Exit} talk) own = refl
act_mild may _ own = refl

hand_mild : {desk : Desk} {event : Event} {body : Body} {kept : List Record} {act : Act}
    (may : Leave) → ByHand desk event body kept act → is_mild may act ≡ true
hand_mild may hand_inserts = refl
hand_mild may (hand_changes (changes_quality is)) = refl
hand_mild may _ = refl

mild : {desk : Desk} {cause : Cause} {body : Body} {d : Done} (may : Leave)
    → Made desk cause body d → IsQuietCause may cause → Mild may d
mild may made_none own = record { mild = refl }
mild may (made_both {one = one} {two = two} first next) own =
    let a = mild may first own in
    let b = mild may next own in
    record { mild = mild_append may one.acts two.acts a.mild b.mild }
mild may (made_word is on made) own = absurd own
mild may (made_act {act = act} tells) own =
    record { mild = and_from (is_mild may act) true (act_mild may tells own) refl }
mild may (made_row to shape made) own = record { mild = (mild may made own).mild }
mild may (made_passed shape first on made) own = absurd own
mild may (made_close talk made) own = record { mild = (mild may made own).mild }
mild may (made_notice on made) own = record { mild = (mild may made own).mild }
mild may (made_breach made) own = absurd own
mild may (made_start says on shape) own = absurd own
mild {desk = desk} may (made_outlet {row = row} {body = body} to shape) own =
    record { mild = out_mild may desk body.kept row.act }
mild {desk = desk} may (made_intake {row = row} to shape) own =
    record { mild = in_mild may desk row.act }
mild may (made_by_hand {act = act} hand) own =
    record { mild = and_from (is_mild may act) true (hand_mild may hand) refl }
mild may (made_will sets) own = record { mild = refl }

-- what a session has its machine do, and that its connection is at an end
actions_mild : {may : Leave} (desk : Desk) (side : Side) (actions : Actions) (body : Body)
    → Mild may (actions_did desk side actions body)
actions_mild {may} desk side actions body =
    mild may (actions_made desk (Meeting Nothing) side actions body tt) tt

ended_mild : {may : Leave} (desk : Desk) (side : Side) (body : Body)
    → Mild may (ended desk side body)
ended_mild {may} desk side body =
    mild may (half_closed_made desk (Meeting Nothing) side (without_connection side body) tt) tt

step_mild_by : {may : Leave} (desk : Desk) (unread : List Seen) (event : Event) (body : Body) → Mild may (event_did desk event (all_read desk unread body).body) → Mild may (machine_step desk unread event body)
step_mild_by {may} desk unread event body m =
    let read = all_read desk unread body in
    let plain : Mild may (plain_step desk unread event body) =
    mild_both read (λ (b : Body). and_then (event_did desk event b) (announces desk)) (mild may (all_read_made desk unread body) tt)
    (mild_both (event_did desk event read.body) (announces desk) m
    (mild may (announces_made desk (event_did desk event read.body).body) tt)) in
    record {
      mild = tells_mild may desk (watch_of desk body)
          (plain_step desk unread event body).acts ∙ plain.mild;
    }

-- without words nothing is breached
pub quiet_step_mild : (may : Leave) (desk : Desk) (unread : List Seen) (event : Event) (body : Body) → IsNoWords may.frees event → are_mild may (machine_step desk unread event body).acts ≡ true
quiet_step_mild may desk unread event body other = (step_mild_by {may = may} desk unread event body (mild may (event_made desk event (all_read desk unread body).body) other)).mild

-- ---- a message that the machine at the other end sends

abbrev IsNoPass : Option Action → Type 0
IsNoPass (Some (Pass what)) = ⊥
IsNoPass action = Unit {0}

taken_aside : {may : Leave} (desk : Desk) (side : Side) (m : Message) (first : Option Action) (actions : Actions) (body : Body) → IsNoPass first → Mild may (taken desk side m first actions body)
taken_aside desk side m None actions body plain = mild_behind (acts.Hears side m ∷ []) (actions_did desk side actions body) refl (actions_mild desk side actions body)
taken_aside desk side m (Some SendService) actions body plain = mild_behind (acts.Hears side m ∷ []) (actions_did desk side actions body) refl (actions_mild desk side actions body)
taken_aside desk side m (Some (Pong id)) actions body plain = mild_behind (acts.Hears side m ∷ []) (actions_did desk side actions body) refl (actions_mild desk side actions body)
taken_aside desk side m (Some (Pings n)) actions body plain = mild_behind (acts.Hears side m ∷ []) (actions_did desk side actions body) refl (actions_mild desk side actions body)
taken_aside desk side m (Some (Tell what)) actions body plain = mild_behind (acts.Hears side m ∷ []) (actions_did desk side actions body) refl (actions_mild desk side actions body)
taken_aside desk side m (Some Close) actions body plain = mild_behind (acts.Hears side m ∷ []) (actions_did desk side actions body) refl (actions_mild desk side actions body)
taken_aside desk side m (Some Stand) actions body plain = mild_behind (acts.Hears side m ∷ []) (actions_did desk side actions body) refl (actions_mild desk side actions body)
taken_aside desk side m (Some (Pass what)) actions body plain = absurd plain

-- the session has a row
hears_by : {may : Leave} (desk : Desk) (side : Side) (m : Message) (body : Body) (r : SessionRow) → session_row (session_at side body) (heard m.body (is_some (held body.outlet))) ≡ Some r
    → Mild may (taken desk side m r.actions.first r.actions (with_session side r.after body)) → Mild may (hears desk side m body)
hears_by {may} desk side m body r is mild = subst (λ (found : Option SessionRow). Mild may (rowed desk side m body found)) (sym is) mild

aside : {may : Leave} (desk : Desk) (side : Side) (m : Message) (body : Body) (r : SessionRow) → session_row (session_at side body) (heard m.body (is_some (held body.outlet))) ≡ Some r → IsNoPass r.actions.first → Mild may (hears desk side m body)
aside desk side m body r is plain = hears_by desk side m body r is (taken_aside desk side m r.actions.first r.actions (with_session side r.after body) plain)

connected_is : (state : SessionState) (after : SessionEnd) (actions : Actions) → is_connected_state state ≡ true → connected_row state after actions ≡ Some (record { after = after; actions = actions })
connected_is NotConnected after actions is = absurd (let h : false ≡ true = is in cc)
connected_is Handshake after actions is = refl
connected_is Standing after actions is = refl

alive_plain : (p : Option Ping) (id : Option (List ℕ)) → IsNoPass (alive_actions p id).first
alive_plain None id = tt
alive_plain (Some ping.Ask) id = tt
alive_plain (Some ping.Answer) id = tt

alive_mild : {may : Leave} (desk : Desk) (side : Side) (stamp : Option ℤ) (p : Option Ping) (id : Option (List ℕ)) (body : Body) → is_open side body ≡ true → Mild may (hears desk side (record { stamp = stamp; body = message.CheckAlive p id }) body)
alive_mild desk side stamp p id body on =
    let s : SessionEnd = session_at side body in
    aside desk side (record { stamp = stamp; body = message.CheckAlive p id }) body (record { after = heard_from s; actions = alive_actions p id }) (connected_is s.state (heard_from s) (alive_actions p id) on) (alive_plain p id)

notified_mild : {may : Leave} (desk : Desk) (side : Side) (stamp : Option ℤ) (code : Code) (severity : Severity) (text : List ℕ) (body : Body) → is_open side body ≡ true → Mild may (hears desk side (record { stamp = stamp; body = message.Notification code severity text }) body)
notified_mild desk side stamp code severity text body on =
    let s : SessionEnd = session_at side body in
    aside desk side (record { stamp = stamp; body = message.Notification code severity text }) body (record { after = heard_from s; actions = nothing }) (connected_is s.state (heard_from s) nothing on) tt

traffic_is : (s : SessionEnd) (what : Horizontal) (role : Role) → s.state ≡ Standing → s.role ≡ role → actions_at (handling_of (kind_of what) role) what ≡ Some (one (Pass what)) → traffic_row s.state s what ≡ Some (record { after = heard_from s; actions = one (Pass what) })
traffic_is s what role stands is passes =
    ap (λ (state : SessionState). traffic_row state s what) stands ∙ ap (λ (r : Role). taken_row s (actions_at (handling_of (kind_of what) r) what)) is ∙ ap (λ (a : Option Actions). taken_row s a) passes

passed_in : {may : Leave} (desk : Desk) (m : Message) (body : Body) (found : Option InRow) (r : InRow) → found ≡ Some r → Mild may (passed desk Entry m body (intake_took desk body found))
passed_in {may} desk m body found r is = subst (λ (f : Option InRow). Mild may (passed desk Entry m body (intake_took desk body f))) (sym is) (record { mild = in_mild may desk r.act })

passed_out : {may : Leave} (desk : Desk) (m : Message) (body after : Body) (found : Option OutRow) (r : OutRow) → found ≡ Some r → Mild may (passed desk Exit m body (outlet_took desk after found))
passed_out {may} desk m body after found r is = subst (λ (f : Option OutRow). Mild may (passed desk Exit m body (outlet_took desk after f))) (sym is) (record { mild = out_mild may desk after.kept r.act })

described_in : (s : SessionEnd) (service : Service) (unsettled : Bool) → s.state ≡ Handshake → s.role ≡ Downstream → session_row s (heard (message.ServiceDescription service) unsettled) ≡ Some (record { after = stands s service.features; actions = one Stand })
described_in s service unsettled shakes is = ap (λ (state : SessionState). service_row state s service.features unsettled) shakes ∙ ap (λ (r : Role). described_row r s service.features unsettled) is

-- an entry hears what comes to it
entry_mild : {may : Leave} {afar : Afar} {above : List Record} {ga gb : Ghost} (desk : Desk) (stamp : Option ℤ) (what : Horizontal) (rest : List Horizontal) (body : Body) (c : Scene) → Good afar above [] ga gb body (unheard_above (what ∷ rest) c) → (ready : Bool) → (ready ≡ true → is_ready Entry body ≡ true) → is_open Entry body ≡ true → is_from Entry ready what ≡ true
    → Mild may (hears desk Entry (record { stamp = stamp; body = what }) body)
entry_mild desk stamp (message.CheckAlive p id) rest body c g ready set on from = alive_mild desk Entry stamp p id body on
entry_mild desk stamp (message.Notification code severity text) rest body c g ready set on from = notified_mild desk Entry stamp code severity text body on
entry_mild {afar} {above} {ga} desk stamp (message.ServiceDescription service) rest body c g ready set on from =
    let k = hears_upstream {Gone = gone_by afar.gone_above} {above = above} ga (link_above [] body c) service rest g.above_pair in
    let s : SessionEnd = body.entry.session in
    aside desk Entry (record { stamp = stamp; body = message.ServiceDescription service }) body (record { after = stands s service.features; actions = one Stand }) (described_in s service (is_some (held body.outlet)) k.0 g.entry_role) tt
entry_mild {afar} {above} {ga} desk stamp (message.BoardAvailable board) rest body c g ready set on from =
    let k = hears_available {Gone = gone_by afar.gone_above} {above = above} ga (link_above [] body c) board rest g.above_pair in
    let s : SessionEnd = body.entry.session in
    let m : Message = record { stamp = stamp; body = message.BoardAvailable board } in
    let row : SessionRow = record { after = heard_from s; actions = one (Pass (message.BoardAvailable board)) } in
    let found : Option InRow = intake_row body.intake (in_input.BoardAvailable board) in
    hears_by desk Entry m body row (traffic_is s (message.BoardAvailable board) Downstream k.0 g.entry_role refl) (passed_in desk m (with_session Entry (heard_from s) body) found k.1.row k.1.is)
entry_mild {afar} {above} {ga} desk stamp message.RevokeBoardAvailable rest body c g ready set on from =
    let k = hears_revoke_available {Gone = gone_by afar.gone_above} {above = above} ga (link_above [] body c) rest g.above_pair in
    let s : SessionEnd = body.entry.session in
    let m : Message = record { stamp = stamp; body = message.RevokeBoardAvailable } in
    let row : SessionRow = record { after = heard_from s; actions = one (Pass message.RevokeBoardAvailable) } in
    let found : Option InRow = intake_row body.intake in_input.RevokeBoardAvailable in
    hears_by desk Entry m body row (traffic_is s message.RevokeBoardAvailable Downstream k.0 g.entry_role refl) (passed_in desk m (with_session Entry (heard_from s) body) found k.1.row k.1.is)
entry_mild {afar} {above} {ga} desk stamp (message.TransportFinished state id) rest body c g ready set on from =
    let k = hears_finished {Gone = gone_by afar.gone_above} {above = above} ga (link_above [] body c) state id rest g.above_pair in
    let s : SessionEnd = body.entry.session in
    let m : Message = record { stamp = stamp; body = message.TransportFinished state id } in
    let row : SessionRow = record { after = heard_from s; actions = one (Pass (message.TransportFinished state id)) } in
    let found : Option InRow = intake_row body.intake (in_input.Finished state id) in
    hears_by desk Entry m body row (traffic_is s (message.TransportFinished state id) Downstream k.0 g.entry_role refl) (passed_in desk m (with_session Entry (heard_from s) body) found k.1.row k.1.is)
entry_mild desk stamp (message.MachineReady quality) rest body c g ready set on from = absurd (false≢true from)
entry_mild desk stamp message.RevokeMachineReady rest body c g ready set on from = absurd (false≢true from)
entry_mild desk stamp (message.StartTransport id) rest body c g ready set on from = absurd (false≢true from)
entry_mild desk stamp (message.StopTransport state id) rest body c g ready set on from = absurd (false≢true from)
entry_mild desk stamp (message.BoardForecast info) rest body c g ready set on from =
    let s : SessionEnd = body.entry.session in
    let m : Message = record { stamp = stamp; body = message.BoardForecast info } in
    hears_by desk Entry m body (record { after = heard_from s; actions = one (Pass (message.BoardForecast info)) }) (traffic_is s (message.BoardForecast info) Downstream (ready_stands s.state on (set from)) g.entry_role refl) (record { mild = refl })
entry_mild desk stamp (message.QueryBoardInfo top bottom) rest body c g ready set on from = absurd (false≢true from)
entry_mild desk stamp (message.SendBoardInfo info) rest body c g ready set on from =
    let s : SessionEnd = body.entry.session in
    let m : Message = record { stamp = stamp; body = message.SendBoardInfo info } in
    hears_by desk Entry m body (record { after = heard_from s; actions = one (Pass (message.SendBoardInfo info)) }) (traffic_is s (message.SendBoardInfo info) Downstream (ready_stands s.state on (set from)) g.entry_role refl) (record { mild = refl })
entry_mild desk stamp (message.Other name) rest body c g ready set on from = absurd (false≢true from)

-- ---- an exit

readies_no_description : {a b : Bool} {up : List UpWord} → Readies a (DownstreamService ∷ up) b → ⊥
readies_no_description r = elim r [ ]

starts_no_description : {a : Bool} {x : ℕ} {up rest : List UpWord} → Starts a (DownstreamService ∷ up) x rest → ⊥
starts_no_description r = elim r [ ]

shape_no_description : {o : Out} {of : Option ℕ} {rd : Bool} {i : In} {f : Option Record} {ri : Bool} {p : Place} {up : List UpWord} {down : List DownWord} → Shape o of rd i f ri p (DownstreamService ∷ up) down → ⊥
shape_no_description (no_handover r f) = readies_no_description r
shape_no_description (start_sent s d) = starts_no_description s
shape_no_description (start_and_stop_sent s d) = starts_no_description s

exit_alone_shakes : {b : Bool} {x : SessionState} {o : Out} {of : Option ℕ} {rd : Bool} {up : List UpWord} → Alone b x o of rd (DownstreamService ∷ up) → is_connected_state x ≡ true → x ≡ Handshake
exit_alone_shakes exit_called on = absurd (false≢true on)
exit_alone_shakes exit_called_stuck on = absurd (false≢true on)
exit_alone_shakes exit_described on = refl
exit_alone_shakes exit_described_stuck on = refl
exit_alone_shakes (exit_idle r) on = absurd (readies_no_description r)

-- an exit to which a description is on its way, and that has a connection, is in its handshake
exit_shakes : {b : Bool} {x y : SessionState} {o : Out} {of : Option ℕ} {rd : Bool} {i : In} {f : Option Record} {ri : Bool} {p : Place} {up : List UpWord} {down : List DownWord} → Talks b x o of rd y i f ri p (DownstreamService ∷ up) down → is_connected_state x ≡ true → x ≡ Handshake
exit_shakes (live shape) on = absurd (shape_no_description shape)
exit_shakes shaking_idle on = refl
exit_shakes shaking_waiting on = refl
exit_shakes shaking_stuck on = refl
exit_shakes shaking_stuck_waiting on = refl
exit_shakes (apart_start s a) on = absurd (starts_no_description s)
exit_shakes (apart_start_stop s a) on = absurd (starts_no_description s)
exit_shakes (apart x e) on = exit_alone_shakes x on

described_out : {may : Leave} (desk : Desk) (stamp : Option ℤ) (service : Service) (body : Body) (unsettled : Bool) → is_some (held body.outlet) ≡ unsettled → body.exit.session.state ≡ Handshake → body.exit.session.role ≡ Upstream → Mild may (hears desk Exit (record { stamp = stamp; body = message.ServiceDescription service }) body)
described_out desk stamp service body false test shakes is =
    let s : SessionEnd = body.exit.session in
    aside desk Exit (record { stamp = stamp; body = message.ServiceDescription service }) body (record { after = stands s service.features; actions = one SendService })
    (ap (λ (u : Bool). session_row s (heard (message.ServiceDescription service) u)) test ∙ ap (λ (state : SessionState). service_row state s service.features false) shakes ∙ ap (λ (r : Role). described_row r s service.features false) is) tt
described_out desk stamp service body true test shakes is =
    let s : SessionEnd = body.exit.session in
    aside desk Exit (record { stamp = stamp; body = message.ServiceDescription service }) body (record { after = at_rest s.role; actions = two (Tell Unsettled) Close })
    (ap (λ (u : Bool). session_row s (heard (message.ServiceDescription service) u)) test ∙ ap (λ (state : SessionState). service_row state s service.features true) shakes ∙ ap (λ (r : Role). described_row r s service.features true) is) tt

exit_mild : {may : Leave} {afar : Afar} {above : List Record} {ga gb : Ghost} (desk : Desk) (stamp : Option ℤ) (what : Horizontal) (rest : List Horizontal) (body : Body) (c : Scene) → OffersOf body → Good afar above [] ga gb body (unheard_below (what ∷ rest) c) → (ready : Bool) → (ready ≡ true → is_ready Exit body ≡ true) → (ready ≡ true → may.frees Exit ≡ true) → is_open Exit body ≡ true → is_from Exit ready what ≡ true
    → Mild may (hears desk Exit (record { stamp = stamp; body = what }) body)
exit_mild desk stamp (message.CheckAlive p id) rest body c offers g ready set free on from = alive_mild desk Exit stamp p id body on
exit_mild desk stamp (message.Notification code severity text) rest body c offers g ready set free on from = notified_mild desk Exit stamp code severity text body on
exit_mild desk stamp (message.ServiceDescription service) rest body c offers g ready set free on from = described_out desk stamp service body (is_some (held body.outlet)) refl (exit_shakes g.below_pair.talk on) g.exit_role
exit_mild {afar} {gb = gb} desk stamp (message.MachineReady quality) rest body c offers g ready set free on from =
    let k = hears_ready {Gone = gone_by afar.gone_below} gb (link_below [] body c) quality rest g.below_pair in
    let s : SessionEnd = body.exit.session in
    let m : Message = record { stamp = stamp; body = message.MachineReady quality } in
    let row : SessionRow = record { after = heard_from s; actions = one (Pass (message.MachineReady quality)) } in
    let body2 : Body = with_session Exit (heard_from s) body in
    hears_by desk Exit m body row (traffic_is s (message.MachineReady quality) Upstream k.0 g.exit_role refl) (passed_out desk m body2 body2 (outlet_row body.outlet out_input.MachineReady) k.1.row k.1.is)
exit_mild {afar} {gb = gb} desk stamp message.RevokeMachineReady rest body c offers g ready set free on from =
    let k = hears_revoke_ready {Gone = gone_by afar.gone_below} gb (link_below [] body c) rest g.below_pair in
    let s : SessionEnd = body.exit.session in
    let m : Message = record { stamp = stamp; body = message.RevokeMachineReady } in
    let row : SessionRow = record { after = heard_from s; actions = one (Pass message.RevokeMachineReady) } in
    let body2 : Body = with_session Exit (heard_from s) body in
    hears_by desk Exit m body row (traffic_is s message.RevokeMachineReady Upstream k.0 g.exit_role refl) (passed_out desk m body2 body2 (outlet_row body.outlet out_input.RevokeMachineReady) k.1.row k.1.is)
exit_mild {afar} {gb = gb} desk stamp (message.StopTransport state id) rest body c offers g ready set free on from =
    let k = hears_stop {Gone = gone_by afar.gone_below} gb (link_below [] body c) state id rest g.below_pair in
    let s : SessionEnd = body.exit.session in
    let m : Message = record { stamp = stamp; body = message.StopTransport state id } in
    let row : SessionRow = record { after = heard_from s; actions = one (Pass (message.StopTransport state id)) } in
    let body2 : Body = with_session Exit (heard_from s) body in
    hears_by desk Exit m body row (traffic_is s (message.StopTransport state id) Upstream k.0 g.exit_role refl) (passed_out desk m body2 body2 (outlet_row body.outlet (out_input.Stop state id)) k.1.row k.1.is)
exit_mild {afar} {gb = gb} desk stamp (message.StartTransport id) rest body c offers g ready set free on from =
    let l : LinkState = link_below [] body c in
    let open_it : Bool = would_open body.outlet id in
    let front = offers_the_front body offers in
    let looks = subst (λ brought. Looks body.outlet.offered body.kept id brought) (sym (front_found open_it body.kept)) (finds_for_a_start gb l id rest body.kept g.below_pair front) in
    let k = hears_start {Gone = gone_by afar.gone_below} gb l id (opening_board open_it body.kept) body.kept rest g.below_pair looks front (λ x kept. g.here x (kept_lies kept g.boards)) g.below_contents in
    let s : SessionEnd = body.exit.session in
    let m : Message = record { stamp = stamp; body = message.StartTransport id } in
    let row : SessionRow = record { after = heard_from s; actions = one (Pass (message.StartTransport id)) } in
    let body2 : Body = with_session Exit (heard_from s) body in
    hears_by desk Exit m body row (traffic_is s (message.StartTransport id) Upstream k.0 g.exit_role refl)
    (passed_out desk m body2 (record body2 { kept = behind_opening open_it body.kept }) (outlet_row body.outlet (out_input.Start id (opening_board open_it body.kept))) k.1.row k.1.is)
exit_mild desk stamp (message.BoardAvailable board) rest body c offers g ready set free on from = absurd (false≢true from)
exit_mild desk stamp message.RevokeBoardAvailable rest body c offers g ready set free on from = absurd (false≢true from)
exit_mild desk stamp (message.TransportFinished state id) rest body c offers g ready set free on from = absurd (false≢true from)
exit_mild desk stamp (message.BoardForecast info) rest body c offers g ready set free on from = absurd (false≢true from)
exit_mild desk stamp (message.QueryBoardInfo top bottom) rest body c offers g ready set free on from =
    let s : SessionEnd = body.exit.session in
    let m : Message = record { stamp = stamp; body = message.QueryBoardInfo top bottom } in
    hears_by desk Exit m body (record { after = heard_from s; actions = one (Pass (message.QueryBoardInfo top bottom)) }) (traffic_is s (message.QueryBoardInfo top bottom) Upstream (ready_stands s.state on (set from)) g.exit_role refl)
    (record { mild = and_from _ true (free from) refl })
exit_mild desk stamp (message.SendBoardInfo info) rest body c offers g ready set free on from = absurd (false≢true from)
exit_mild desk stamp (message.Other name) rest body c offers g ready set free on from = absurd (false≢true from)

-- ---- words, one after another

-- the oldest message is the one that is heard first
pub record Front (body : Horizontal) (others : List Word) (sent : List Horizontal) : Type 0 where
  pub rest : List Horizontal
  pub is : sent ≡ body ∷ rest
  pub oldest : AreOldest others rest

pub front_of : {m : Message} {others : List Word} {sent : List Horizontal} → AreOldest (words.Says m ∷ others) sent → Front m.body others sent
front_of (oldest_says {messages = rest} others) = record { rest = rest; is = refl; oldest = others }

-- one message is heard: nothing is breached, and the relation is kept
record HearsOne (may : Leave) (afar : Afar) (above : List Record) (side : Side) (rest : List Horizontal) (c : Scene) (d : Done) : Type 0 where
  mild : Mild may d
  a : Ghost
  b : Ghost
  good : Good afar above [] a b d.body (all_met d.acts c)
  then : Then side rest d c

hears_one : {may : Leave} {afar : Afar} {above : List Record} {ga gb : Ghost} (desk : Desk) (side : Side) (m : Message) (rest : List Horizontal) (body : Body) (c : Scene) → unheard side c ≡ m.body ∷ rest → OffersOf body → Good afar above [] ga gb body c → (ready : Bool) → (ready ≡ true → is_ready side body ≡ true) → (side ≡ Exit → ready ≡ true → may.frees Exit ≡ true) → is_open side body ≡ true → is_from side ready m.body ≡ true
    → HearsOne may afar above side rest c (hears desk side m body)
hears_one {afar = afar} {above = above} {ga = ga} {gb = gb} desk Entry m rest body c is offers g ready set free on from =
    let same : unheard_above (m.body ∷ rest) c ≡ c = ap (λ (ms : List Horizontal). unheard_above ms c) (sym is) in
    let here : Good afar above [] ga gb body (unheard_above (m.body ∷ rest) c) = subst (λ (may : Scene). Good afar above [] ga gb body may) (sym same) g in
    let goes : GoesBy afar above [] ga gb c (hears desk Entry m body) = subst (λ (may : Scene). GoesBy afar above [] ga gb may (hears desk Entry m body)) same (entry_hears body c desk m rest here) in
    record { mild = entry_mild desk m.stamp m.body rest body c here ready set on from; a = goes.a; b = goes.b; good = goes.good; then = entry_hears_then desk m rest body c g.entry_role is }
hears_one {afar = afar} {above = above} {ga = ga} {gb = gb} desk Exit m rest body c is offers g ready set free on from =
    let same : unheard_below (m.body ∷ rest) c ≡ c = ap (λ (ms : List Horizontal). unheard_below ms c) (sym is) in
    let here : Good afar above [] ga gb body (unheard_below (m.body ∷ rest) c) = subst (λ (may : Scene). Good afar above [] ga gb body may) (sym same) g in
    let goes : GoesBy afar above [] ga gb c (hears desk Exit m body) = subst (λ (may : Scene). GoesBy afar above [] ga gb may (hears desk Exit m body)) same (exit_hears body c desk m rest offers here) in
    record { mild = exit_mild desk m.stamp m.body rest body c offers here ready set (free refl) on from; a = goes.a; b = goes.b; good = goes.good; then = exit_hears_then desk m rest body c g.exit_role is }

open_mild : {may : Leave} (test : Bool) (d : Done) (body : Body) → (test ≡ true → Mild may d) → Mild may (if_open test d body)
open_mild true d body m = m refl
open_mild false d body m = record { mild = refl }

abbrev pub said : List Message → List Word
said messages = map (λ (m : Message). words.Says m) messages

-- the others are heard, or there is nobody to hear them
rest_mild : {may : Leave} (desk : Desk) (side : Side) (messages : List Message) (rest : List Horizontal) (d : Done) (c : Scene) → Then side rest d c → (unheard side (all_met d.acts c) ≡ rest → Mild may (all_heard desk side (said messages) d.body)) → Mild may (all_heard desk side (said messages) d.body)
rest_mild desk side messages rest d c (still is) go_on = go_on is
rest_mild {may} desk side messages rest d c (closed off) go_on = subst (λ (e : Done). Mild may e) (sym (deaf desk side (said messages) d.body off)) (record { mild = refl })

-- an exit is no readier behind a message
ready_at : (side : Side) (ready : Bool) (what : Horizontal) → side ≡ Exit → ready_after side ready what ≡ true → ready ≡ true
ready_at Exit ready what at is = is
ready_at Entry ready what at is = absurd (cc)

said_mild : {may : Leave} {afar : Afar} {above : List Record} (desk : Desk) (side : Side) (messages : List Message) (sent : List Horizontal) {ga gb : Ghost} (body : Body) (c : Scene) → AreOldest (said messages) sent → unheard side c ≡ sent → OffersOf body → Good afar above [] ga gb body c → (ready : Bool) → (ready ≡ true → is_ready side body ≡ true) → (side ≡ Exit → ready ≡ true → may.frees Exit ≡ true) → AreFrom side ready messages
    → Mild may (all_heard desk side (said messages) body)
said_mild desk side [] sent body c oldest is offers g ready set free from = record { mild = refl }
said_mild {may} desk side (m ∷ messages) sent body c oldest is offers g ready set free from =
    let f : Front m.body (said messages) sent = front_of oldest in
    let d : Done = hears desk side m body in
    open_mild (is_open side body) (and_then d (all_heard desk side (said messages))) body (λ on.
    let h = hears_one desk side m f.rest body c (is ∙ f.is) offers g ready set free on from.0 in
    mild_both d (all_heard desk side (said messages)) h.mild
    (rest_mild desk side messages f.rest d c h.then (λ is_rest. said_mild desk side messages f.rest d.body (all_met d.acts c) f.oldest is_rest ((hears_keeps 0 desk side m body).offers offers) h.good
    (ready_after side ready m.body) (behind_hearing desk side m body ready set) (λ at now. free at (ready_at side ready m.body at now)) from.1)))

-- a machine's step in which all that is heard was sent so
pub heard_step_mild : (may : Leave) {afar : Afar} {above : List Record} {ga gb : Ghost} (desk : Desk) (unread : List Seen) (side : Side) (messages : List Message) (body : Body) (c : Scene) → AreOldest (said messages) (unheard side c) → AreFrom side (is_ready side body) messages → (side ≡ Exit → is_ready Exit body ≡ true → may.frees Exit ≡ true) → OffersOf body → Good afar above unread ga gb body c
    → are_mild may (machine_step desk unread (Words side (said messages)) body).acts ≡ true
heard_step_mild may desk unread side messages body c oldest from free offers g =
    (step_mild_by {may = may} desk unread (Words side (said messages)) body
    (said_mild {may = may} desk side messages (unheard side c) (body_read desk unread body) (scene_read desk unread body c) oldest (read_leaves side desk unread body c) ((all_read_keeps 0 desk unread body).offers offers) (all_read_good desk unread body c g)
    (is_ready side body) (read_stays side desk unread body).ready (λ at is. free at (ap (λ (s : Side). is_ready s body) (sym at) ∙ is)) from)).mild

-- nothing is heard
pub silent_step_mild : (may : Leave) (desk : Desk) (unread : List Seen) (side : Side) (body : Body) → are_mild may (machine_step desk unread (Words side []) body).acts ≡ true
silent_step_mild may desk unread side body = (step_mild_by {may = may} desk unread (Words side []) body (record { mild = refl })).mild

-- ---- a wrong word

breaches_mild : {frees : Side → Bool} (desk : Desk) (side : Side) (text : List ℕ) (body : Body) → Mild (record { blames = at_one side; frees = frees }) (breaches desk side text body)
breaches_mild desk Entry text body = mild_behind (acts.Breaches Entry text ∷ (sends desk Entry (notification 1 Fatal text) ++ acts.Closes Entry ∷ [])) (ended desk Entry body) refl (ended_mild desk Entry body)
breaches_mild desk Exit text body = mild_behind (acts.Breaches Exit text ∷ (sends desk Exit (notification 1 Fatal text) ++ acts.Closes Exit ∷ [])) (ended desk Exit body) refl (ended_mild desk Exit body)

-- a step in which a wrong word is heard first breaches at that side alone, and sends no other messages either
pub wrong_step_mild : (frees : Side → Bool) (desk : Desk) (unread : List Seen) (side : Side) (text : List ℕ) (others : List Word) (body : Body) → are_mild (record { blames = at_one side; frees = frees }) (machine_step desk unread (Words side (words.Wrong text ∷ others)) body).acts ≡ true
wrong_step_mild frees desk unread side text others body =
    let b : Body = (all_read desk unread body).body in
    let d : Done = breaches desk side text b in
    (step_mild_by desk unread (Words side (words.Wrong text ∷ others)) body (open_mild (is_open side b) (and_then d (all_heard desk side others)) b (λ on. mild_both d (all_heard desk side others) (breaches_mild desk side text b)
    (subst (λ (e : Done). Mild (record { blames = at_one side; frees = frees }) e) (sym (deaf desk side others d.body (breach_shuts desk side text b))) (record { mild = refl }))))).mild
