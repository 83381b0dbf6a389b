-- What holds of each act that a step can tell holds of all acts of the step.
use Rattle.std.proofs.Common.{◌++◌, Bool, List, [], ◌∷◌, Option, Some, None}
use Rattle.std.specs.Prelude.{slice_get}
use Rattle.std.specs.List.{AllByRecursion}
use Rattle.line_base.specs.declared.states.Side.{Side}
use Rattle.line_base.specs.declared.states.Side.TheVariants.{Entry, Exit}
use Rattle.board_record.specs.declared.record.Record.{Record}
use Rattle.board_record.specs.declared.sensed.Sensed.{Sensed}
use Rattle.hermes_vertical.specs.declared.message.VerticalMessage.{VerticalMessage}
use Rattle.smema_bridge.specs.Levels.{BridgeLevels}
use Rattle.handover_out.specs.declared.act.OutAct.{OutAct}
use Rattle.handover_out.specs.declared.act.OutDeed.{OutDeed}
use Rattle.handover_out.specs.declared.act.OutSend.{OutSend}
use Rattle.handover_out.specs.declared.act.OutSend.TheVariants as out_send
use Rattle.handover_in.specs.declared.act.InAct.{InAct}
use Rattle.handover_in.specs.declared.act.InDeed.{InDeed}
use Rattle.handover_in.specs.declared.act.InSend.{InSend}
use Rattle.node_core.specs.declared.act.Act.{Act}
use Rattle.node_core.specs.declared.act.Act.TheVariants as acts
use Rattle.node_core.specs.declared.act.Signal.{Signal}
use Rattle.node_core.specs.declared.lane.Body.{Body}
use Rattle.node_core.specs.declared.supervising.Watch.{Watch}
use Rattle.node_core.specs.Desk.{Desk}
use Rattle.node_core.specs.Done.{Done}
use Rattle.node_core.specs.Announces.{announces}
use Rattle.node_core.specs.Event.{Event, event_did}
use Rattle.node_core.specs.Reads.{all_read}
use Rattle.node_core.specs.Signals.{signalled}
use Rattle.node_core.specs.Step.{plain_step}
use Rattle.node_core.specs.Supervising.{with_tells}
use Rattle.node_core.specs.Told.{
  deed_of_in,
  deed_of_out,
  drives,
  in_does,
  in_sends,
  in_told,
  offers,
  out_does,
  out_sends,
  out_told,
}
use Rattle.node_core.proofs.Signalling.{signals_all}
use Rattle.node_core.proofs.Telling.{tells_all}
use Rattle.step_rules.specs.Acts.{OfCause, OfEvent, Usual}
use Rattle.step_rules.specs.Causes.{
  ByHand,
  Cause,
  Tells,
  hand_gets,
  hand_gives,
  hand_inserts,
  hand_removes,
  hand_replaces,
  tells_alive,
  tells_answer,
  tells_connecting,
  tells_failed,
  tells_forecast,
  tells_hearing,
  tells_info,
  tells_notice,
  tells_query,
  tells_question,
  tells_reading,
  tells_service,
  tells_supervise,
  will_available,
  will_itself,
  will_ready,
  hand_changes,
  changes_quality,
  changes_circuits,
  changes_front,
}
use Rattle.step_rules.specs.Made.{
  Made,
  made_act,
  made_both,
  made_breach,
  made_by_hand,
  made_close,
  made_intake,
  made_none,
  made_notice,
  made_outlet,
  made_passed,
  made_row,
  made_start,
  made_will,
  made_word,
}
use Rattle.step_rules.proofs.Steps.{step_made}

abbrev pub All : (Act → Type 0) → List Act → Type 0
All P told = AllByRecursion P told

pub join_all : (P : Act → Type 0) (a b : List Act) → All P a → All P b → All P (a ++ b)
join_all P [] b one two = two
join_all P (act ∷ others) b one two = (one.0, join_all P others b one.1 two)

-- ---- the halves

drives_all : {P : Act → Type 0} (every : Usual P) (side : Side) (on : Option Bool)
    → All P (drives side on)
drives_all every side None = tt
drives_all every side (Some on) = (every.drive side on, tt)

out_does_all : {P : Act → Type 0} (every : Usual P) (deed : Option OutDeed)
    → All P (out_does deed)
out_does_all every None = tt
out_does_all every (Some deed) = (every.deed (deed_of_out deed), tt)

offers_all : {P : Act → Type 0} (every : Usual P) (desk : Desk) (board : Option Record)
    → All P (offers desk board)
offers_all every desk None = tt
offers_all every desk (Some board) = (every.sends Exit _, tt)

out_sends_all : {P : Act → Type 0} (every : Usual P) (desk : Desk) (kept : List Record)
    (send : Option OutSend) → All P (out_sends desk kept send)
out_sends_all every desk kept None = tt
out_sends_all every desk kept (Some out_send.BoardAvailable) =
    offers_all every desk (slice_get kept 0)
out_sends_all every desk kept (Some out_send.RevokeBoardAvailable) = (every.sends Exit _, tt)
out_sends_all every desk kept (Some (out_send.Finished state id)) = (every.sends Exit _, tt)

out_all : {P : Act → Type 0} (every : Usual P) (desk : Desk) (kept : List Record) (act : OutAct)
    → All P (out_told desk kept act)
out_all {P} every desk kept act =
    join_all P (out_does act.deed) (out_sends desk kept act.send ++ drives Exit act.drive)
    (out_does_all every act.deed)
    (join_all P (out_sends desk kept act.send) (drives Exit act.drive)
    (out_sends_all every desk kept act.send) (drives_all every Exit act.drive))

in_does_all : {P : Act → Type 0} (every : Usual P) (deed : Option InDeed) → All P (in_does deed)
in_does_all every None = tt
in_does_all every (Some deed) = (every.deed (deed_of_in deed), tt)

in_sends_all : {P : Act → Type 0} (every : Usual P) (desk : Desk) (send : Option InSend)
    → All P (in_sends desk send)
in_sends_all every desk None = tt
in_sends_all every desk (Some send) = (every.sends Entry _, tt)

in_all : {P : Act → Type 0} (every : Usual P) (desk : Desk) (act : InAct)
    → All P (in_told desk act)
in_all {P} every desk act =
    join_all P (in_does act.deed) (in_sends desk act.send ++ drives Entry act.drive)
    (in_does_all every act.deed)
    (join_all P (in_sends desk act.send) (drives Entry act.drive)
    (in_sends_all every desk act.send) (drives_all every Entry act.drive))

-- ---- acts alone

tells_it : {P : Act → Type 0} {desk : Desk} {cause : Cause} {body : Body} {act : Act}
    (every : Usual P) → Tells desk cause body act → OfCause P desk cause → P act
tells_it every tells_reading own = every.reads _ _
tells_it every tells_hearing own = every.hears _ _
tells_it every (tells_service talk) own = every.sends _ _
tells_it every (tells_alive talk) own = every.sends _ _
tells_it every (tells_notice talk) own = every.sends _ _
tells_it every (tells_info says on) own = every.sends _ _
tells_it every (tells_forecast is) own = every.sends _ _
tells_it every tells_query own = every.sends _ _
tells_it every tells_connecting own = own
tells_it every tells_failed own = own.0
tells_it every tells_supervise own = own
tells_it every tells_question own = own
tells_it every tells_answer own = own

by_hand : {desk : Desk} {event : Event} {body : Body} {kept : List Record} {act : Act}
    (P : Act → Type 0) → ByHand desk event body kept act → OfEvent P desk event → P act
by_hand P hand_inserts own = own
by_hand P (hand_removes is) own = own
by_hand P (hand_replaces is) own = own
by_hand P (hand_gives is) own = own
by_hand P hand_gets own = own
by_hand P (hand_changes (changes_quality is)) own = own
by_hand P (hand_changes (changes_circuits is)) own = own
by_hand P (hand_changes (changes_front {id = id} front is)) own = own.1 id

-- ---- the pieces, and the step

pub acts_hold : {P : Act → Type 0} {desk : Desk} {cause : Cause} {body : Body} {d : Done}
    (every : Usual P) → Made desk cause body d → OfCause P desk cause → All P d.acts
acts_hold every made_none own = tt
acts_hold {P} every (made_both {one = one} {two = two} a b) own =
    join_all P one.acts two.acts (acts_hold every a own) (acts_hold every b own)
acts_hold every (made_word is on k) own = acts_hold every k tt
acts_hold every (made_act tells) own = (tells_it every tells own, tt)
acts_hold every (made_row to shape k) own = acts_hold every k own
acts_hold every (made_passed shape first on k) own = acts_hold every k own
acts_hold every (made_close {side = side} talk k) own = (every.closes side, acts_hold every k own)
acts_hold every (made_notice {side = side} on k) own =
    (every.notices side, acts_hold every k own)
acts_hold every (made_breach {side = side} {text = text} k) own = (
  every.breaches side text,
  (every.sends side _, (every.closes side, acts_hold every k own)),
)
acts_hold {P} {desk} every (made_start {row = row} says on shape) own =
    out_all every desk _ row.act
acts_hold {P} {desk} every (made_outlet {row = row} {body = body} to shape) own =
    out_all every desk body.kept row.act
acts_hold {P} {desk} every (made_intake {row = row} to shape) own = in_all every desk row.act
acts_hold {P} every (made_by_hand hand) own = (by_hand P hand own, tt)
acts_hold every (made_will will_itself) own = (own, tt)
acts_hold every (made_will will_ready) own = (own.0, tt)
acts_hold every (made_will will_available) own = (own.0, tt)

pub step_acts_hold : {P : Act → Type 0} (every : Usual P) (desk : Desk) (unread : List Sensed)
    (event : Event) (body : Body) → OfEvent P desk event
    → All P (plain_step desk unread event body).acts
step_acts_hold {P} every desk unread event body own =
    let step = step_made desk unread event body in
    let read = all_read desk unread body in
    let met = event_did desk event read.body in
    let last = announces desk met.body in
    join_all P read.acts (met.acts ++ last.acts) (acts_hold every step.read tt)
    (join_all P met.acts last.acts (acts_hold every step.met own)
    (acts_hold every step.announced tt))

-- and of what is told to the supervisor, and of a bridge's own signals behind it
pub told_acts_hold : {P : Act → Type 0} (every : Usual P)
    → ((message : VerticalMessage) → P (acts.Tells message))
    → ((signal : Signal) (on : Bool) → P (acts.Signals signal on))
    → (desk : Desk) (watch : Watch) (unread : List Sensed) (event : Event) (body : Body)
    (bridge : Option BridgeLevels) (after : Body) → OfEvent P desk event
    → All P (with_tells desk watch (plain_step desk unread event body).acts
    ++ signalled bridge after)
told_acts_hold {P = P} every tells signals desk watch unread event body bridge after own =
    let plain : List Act = (plain_step desk unread event body).acts in
    join_all P (with_tells desk watch plain) (signalled bridge after)
    (tells_all (All P) (λ act others all. all.1) (λ act told others all rest. (all.0, rest))
    (λ message told rest. (tells message, rest)) tt desk watch plain
    (step_acts_hold every desk unread event body own))
    (signals_all (All P) tt (λ signal on. (signals signal on, tt)) (join_all P) bridge after)
