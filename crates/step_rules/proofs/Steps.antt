-- A step is made of its pieces: one lemma for each definition of the machine step, in the order of
-- the definitions.
use Rattle.std.proofs.Common.{
  ◌≡◌,
  ◌∷◌,
  ◌∙◌,
  ℕ,
  Bool,
  true,
  false,
  List,
  [],
  Option,
  Some,
  None,
  ap,
  refl,
  subst,
  sym,
}
use Rattle.std.specs.Prelude.{is_some, slice_get}
use Rattle.line_base.specs.declared.states.SensorEvent.{SensorEvent}
use Rattle.line_base.specs.declared.states.Side.{Side}
use Rattle.line_base.specs.declared.states.Side.TheVariants.{Entry, Exit}
use Rattle.board_record.specs.declared.record.Record.{Record}
use Rattle.board_record.specs.declared.sensed.Sensed.{Sensed}
use Rattle.hermes_horizontal.specs.Parts.{kind_of}
use Rattle.hermes_horizontal.specs.declared.message.Horizontal.{Horizontal}
use Rattle.hermes_horizontal.specs.declared.message.Horizontal.TheVariants as bodies
use Rattle.hermes_horizontal.specs.declared.message.Message.{Message}
use Rattle.smema_bridge.specs.declared.line.SegmentLine.{SegmentLine}
use Rattle.smema_bridge.specs.declared.line.SegmentLine.TheVariants.{Available, Failed, Ready}
use Rattle.session_core.specs.declared.actions.Action.{Action}
use Rattle.session_core.specs.declared.actions.Action.TheVariants.{
  Close,
  Pass,
  Ping,
  Pong,
  SendService,
  Stand,
  Tell,
}
use Rattle.session_core.specs.declared.actions.Actions.{Actions}
use Rattle.session_core.specs.Breach.{unexpected}
use Rattle.session_core.specs.End.{is_standing_state}
use Rattle.session_core.specs.Input.{Input, heard, opened, second, shutdown, tick}
use Rattle.session_core.specs.Row.{SessionRow, session_row}
use Rattle.session_core.specs.Table.{IsSessionRow}
use Rattle.session_core.proofs.Rows.{row_is as session_row_is}
use Rattle.handover_out.specs.declared.input.OutInput.{OutInput}
use Rattle.handover_out.specs.declared.input.OutInput.TheVariants as out_input
use Rattle.handover_out.specs.Row.{OutRow, outlet_row}
use Rattle.handover_out.specs.State.{held, would_open}
use Rattle.handover_out.proofs.Rows.{row_is as out_row_is}
use Rattle.handover_in.specs.declared.input.InInput.{InInput}
use Rattle.handover_in.specs.declared.input.InInput.TheVariants as in_input
use Rattle.handover_in.specs.Row.{InRow, intake_row}
use Rattle.handover_in.proofs.Rows.{row_is as in_row_is}
use Rattle.node_core.specs.declared.act.Act.{Act}
use Rattle.node_core.specs.declared.act.Act.TheVariants as acts
use Rattle.node_core.specs.declared.lane.Body.{Body}
use Rattle.node_core.specs.declared.word.Word.{Word}
use Rattle.node_core.specs.declared.word.Word.TheVariants.{Says, Wrong}
use Rattle.node_core.specs.Announces.{
  announces,
  offer,
  offer_by,
  offers_now,
  readies_now,
  ready,
  ready_by,
  revoke,
  revoke_by,
  revokes_now,
  start_by,
  starts_now,
  unreadies_now,
  unready,
  unready_by,
}
use Rattle.node_core.specs.Boards.{faults, if_kept, is_kept, with_kept, takes_sub}
use Rattle.node_core.specs.Bridge.{failed_front, fails, sets_level, tells_level}
use Rattle.node_core.specs.Connect.{if_open, shuts_down, ticks}
use Rattle.node_core.specs.Desk.{Desk}
use Rattle.node_core.specs.Done.{Done, behind, done}
use Rattle.node_core.specs.Event.{
  Accepted,
  Connect,
  Event,
  Fault,
  Forecast,
  Gets,
  Gives,
  Insert,
  Level,
  Mark,
  Sub,
  Nothing,
  Notice,
  Query,
  Remove,
  Replace,
  Second,
  Shutdown,
  Supervised,
  Tick,
  Will,
  Words,
  event_did,
}
use Rattle.node_core.specs.Halves.{
  at_intake,
  at_outlet,
  behind_opening,
  half_closed,
  intake_row_did,
  opening_board,
  outlet_row_did,
}
use Rattle.node_core.specs.Hears.{
  entry_took,
  entry_word,
  exit_took,
  exit_word,
  intake_took,
  outlet_took,
  passed,
  rowed,
  side_took,
  taken,
}
use Rattle.node_core.specs.Information.{forecasts}
use Rattle.node_core.specs.Reads.{all_read, reads, saw}
use Rattle.node_core.specs.Session.{action_did, actions_did, breaches, maybe_did, session_did}
use Rattle.node_core.specs.Sides.{is_open, is_standing, session_at, with_session}
use Rattle.node_core.specs.Supervising.{Answer, Ask, Supervise, Supervision, supervises}
use Rattle.node_core.specs.Words.{all_heard, word_did}
use Rattle.step_rules.specs.Causes.{
  Announcing,
  ByHand,
  Cause,
  Hearing,
  IsTalk,
  IsWordOf,
  Meeting,
  Reading,
  ToIntake,
  ToOutlet,
  ToSession,
  by_accept,
  by_connect,
  by_message,
  by_second,
  by_shutdown,
  by_tick,
  hand_gets,
  hand_gives,
  hand_inserts,
  hand_removes,
  hand_replaces,
  in_available,
  in_closed,
  in_fault,
  in_finished,
  in_ready,
  in_revoked,
  in_sensed,
  in_stand,
  in_start,
  in_unready,
  out_closed,
  out_fault,
  out_offer,
  out_ready,
  out_revoke,
  out_sensed,
  out_stop,
  out_unready,
  tells_alive,
  tells_answer,
  tells_connecting,
  tells_failed,
  tells_forecast,
  tells_hearing,
  tells_info,
  tells_notice,
  tells_query,
  tells_question,
  tells_reading,
  tells_service,
  tells_supervise,
  will_available,
  will_itself,
  will_ready,
  word_first,
  word_later,
  hand_changes,
  changes_quality,
  changes_circuits,
  changes_front,
}
use Rattle.step_rules.specs.Made.{
  IsMade,
  Made,
  made_act,
  made_both,
  made_breach,
  made_by_hand,
  made_close,
  made_intake,
  made_none,
  made_notice,
  made_outlet,
  made_passed,
  made_row,
  made_start,
  made_will,
  made_word,
  without_connection,
}
use Rattle.step_rules.proofs.Passing.{passes_itself, passes_standing}

-- ---- the halves

outlet_made : {desk : Desk} {cause : Cause} {body : Body} {input : OutInput}
    (found : Option OutRow) → ToOutlet cause body input → outlet_row body.outlet input ≡ found
    → Made desk cause body (outlet_row_did desk body found)
outlet_made None to is = made_none
outlet_made {body = body} {input = input} (Some row) to is =
    made_outlet to (out_row_is body.outlet input row is)

at_outlet_made : {desk : Desk} {cause : Cause} (input : OutInput) (body : Body)
    → ToOutlet cause body input → Made desk cause body (at_outlet desk input body)
at_outlet_made input body to = outlet_made (outlet_row body.outlet input) to refl

intake_made : {desk : Desk} {cause : Cause} {body : Body} {input : InInput}
    (found : Option InRow) → ToIntake desk cause body input → intake_row body.intake input ≡ found
    → Made desk cause body (intake_row_did desk body found)
intake_made None to is = made_none
intake_made {body = body} {input = input} (Some row) to is =
    made_intake to (in_row_is body.intake input row is)

at_intake_made : {desk : Desk} {cause : Cause} (input : InInput) (body : Body)
    → ToIntake desk cause body input → Made desk cause body (at_intake desk input body)
at_intake_made input body to = intake_made (intake_row body.intake input) to refl

pub half_closed_made : (desk : Desk) (cause : Cause) (side : Side) (body : Body) → IsTalk cause
    → Made desk cause body (half_closed desk side body)
half_closed_made desk cause Entry body talk = at_intake_made in_input.Closed body (in_closed talk)
half_closed_made desk cause Exit body talk =
    at_outlet_made out_input.Closed body (out_closed talk)

-- ---- sensor events

saw_made : (desk : Desk) (side : Side) (event : SensorEvent) (body : Body)
    → Made desk Reading body (saw desk side event body)
saw_made desk Entry event body = at_intake_made (in_input.Sensed event) body in_sensed
saw_made desk Exit event body = at_outlet_made (out_input.Sensed event) body out_sensed

pub all_read_made : (desk : Desk) (unread : List Sensed) (body : Body)
    → Made desk Reading body (all_read desk unread body)
all_read_made desk [] body = made_none
all_read_made desk (sensed ∷ others) body =
    made_both (made_both (made_act tells_reading) (saw_made desk sensed.side sensed.event body))
    (all_read_made desk others (reads desk sensed body).body)

-- ---- sessions

action_made : (desk : Desk) (cause : Cause) (side : Side) (action : Action) (body : Body)
    → IsTalk cause → Made desk cause body (action_did desk side action body)
action_made desk cause side SendService body talk = made_act (tells_service talk)
action_made desk cause side (Pong id) body talk = made_act (tells_alive talk)
action_made desk cause side (Ping number) body talk = made_act (tells_alive talk)
action_made desk cause side (Tell what) body talk = made_act (tells_notice talk)
action_made desk cause side Close body talk =
    made_close talk (half_closed_made desk cause side body talk)
action_made desk cause side Stand body talk =
    at_intake_made in_input.Stand body (in_stand talk)
action_made desk cause side (Pass what) body talk = made_none

maybe_made : (desk : Desk) (cause : Cause) (side : Side) (action : Option Action) (body : Body)
    → IsTalk cause → Made desk cause body (maybe_did desk side action body)
maybe_made desk cause side None body talk = made_none
maybe_made desk cause side (Some action) body talk = action_made desk cause side action body talk

pub actions_made : (desk : Desk) (cause : Cause) (side : Side) (actions : Actions) (body : Body)
    → IsTalk cause → Made desk cause body (actions_did desk side actions body)
actions_made desk cause side actions body talk =
    let one = (maybe_did desk side actions.first body).body in
    let two = (maybe_did desk side actions.second one).body in
    made_both (maybe_made desk cause side actions.first body talk)
    (made_both (maybe_made desk cause side actions.second one talk)
    (maybe_made desk cause side actions.third two talk))

session_made : {desk : Desk} {cause : Cause} {side : Side} {input : Input} {body : Body}
    (found : Option SessionRow) → ToSession cause side input → IsTalk cause
    → session_row (session_at side body) input ≡ found
    → Made desk cause body (session_did desk side found body)
session_made None to talk is = made_none
session_made {desk} {cause} {side} {input} {body} (Some row) to talk is =
    made_row to (session_row_is (session_at side body) input row is)
    (actions_made desk cause side row.actions (with_session side row.after body) talk)

pub breach_made : (desk : Desk) (side : Side) (word : Word) (text : List ℕ) (body : Body)
    → Made desk (Hearing side word) body (breaches desk side text body)
breach_made desk side word text body =
    made_breach
    (half_closed_made desk (Hearing side word) side (without_connection side body) tt)

-- ---- messages

-- what a half took, if it has a row
data MadeAny (desk : Desk) (cause : Cause) (body : Body) : Option Done → Type 0 where
  any_none : MadeAny desk cause body None
  any_some : {d : Done} → Made desk cause body d → MadeAny desk cause body (Some d)

outlet_took_made : {desk : Desk} {message : Message} (input : OutInput) (body : Body)
    (found : Option OutRow) → ToOutlet (Hearing Exit (Says message)) body input
    → outlet_row body.outlet input ≡ found
    → MadeAny desk (Hearing Exit (Says message)) body (outlet_took desk body found)
outlet_took_made input body None to is = any_none
outlet_took_made input body (Some row) to is =
    any_some (made_outlet to (out_row_is body.outlet input row is))

start_took_made : {desk : Desk} {message : Message} (id : ℕ) (body : Body)
    (found : Option OutRow) → message.body ≡ bodies.StartTransport id
    → is_standing Exit body ≡ true
    → outlet_row body.outlet
    (out_input.Start id (opening_board (would_open body.outlet id) body.kept)) ≡ found
    → MadeAny desk (Hearing Exit (Says message)) body
    (outlet_took desk
    (record body { kept = behind_opening (would_open body.outlet id) body.kept }) found)
start_took_made id body None says on is = any_none
start_took_made id body (Some row) says on is =
    any_some
    (made_start says on
    (out_row_is body.outlet
    (out_input.Start id (opening_board (would_open body.outlet id) body.kept)) row is))

exit_made : (desk : Desk) (message : Message) (what : Horizontal) (body : Body)
    → message.body ≡ what → is_standing Exit body ≡ true
    → MadeAny desk (Hearing Exit (Says message)) body (exit_took desk (exit_word what) body)
exit_made desk message (bodies.MachineReady quality) body says on =
    outlet_took_made out_input.MachineReady body (outlet_row body.outlet out_input.MachineReady)
    (out_ready says on) refl
exit_made desk message bodies.RevokeMachineReady body says on =
    outlet_took_made out_input.RevokeMachineReady body
    (outlet_row body.outlet out_input.RevokeMachineReady) (out_unready says on) refl
exit_made desk message (bodies.StartTransport id) body says on =
    start_took_made id body
    (outlet_row body.outlet
    (out_input.Start id (opening_board (would_open body.outlet id) body.kept))) says on refl
exit_made desk message (bodies.StopTransport state id) body says on =
    outlet_took_made (out_input.Stop state id) body
    (outlet_row body.outlet (out_input.Stop state id)) (out_stop says on) refl
exit_made desk message (bodies.QueryBoardInfo top bottom) body says on =
    any_some (made_act (tells_info says on))
exit_made desk message _ body says on = any_some made_none

intake_took_made : {desk : Desk} {message : Message} (input : InInput) (body : Body)
    (found : Option InRow) → ToIntake desk (Hearing Entry (Says message)) body input
    → intake_row body.intake input ≡ found
    → MadeAny desk (Hearing Entry (Says message)) body (intake_took desk body found)
intake_took_made input body None to is = any_none
intake_took_made input body (Some row) to is =
    any_some (made_intake to (in_row_is body.intake input row is))

entry_made : (desk : Desk) (message : Message) (what : Horizontal) (body : Body)
    → message.body ≡ what → is_standing Entry body ≡ true
    → MadeAny desk (Hearing Entry (Says message)) body (entry_took desk (entry_word what) body)
entry_made desk message (bodies.BoardAvailable board) body says on =
    intake_took_made (in_input.BoardAvailable board) body
    (intake_row body.intake (in_input.BoardAvailable board)) (in_available says on) refl
entry_made desk message bodies.RevokeBoardAvailable body says on =
    intake_took_made in_input.RevokeBoardAvailable body
    (intake_row body.intake in_input.RevokeBoardAvailable) (in_revoked says on) refl
entry_made desk message (bodies.TransportFinished state id) body says on =
    intake_took_made (in_input.Finished state id) body
    (intake_row body.intake (in_input.Finished state id)) (in_finished says on) refl
entry_made desk message _ body says on = any_some made_none

side_made : (desk : Desk) (side : Side) (message : Message) (body : Body)
    → is_standing side body ≡ true
    → MadeAny desk (Hearing side (Says message)) body (side_took desk side message.body body)
side_made desk Entry message body on = entry_made desk message message.body body refl on
side_made desk Exit message body on = exit_made desk message message.body body refl on

passed_made : (desk : Desk) (side : Side) (message : Message) (body : Body)
    (found : Option Done) → MadeAny desk (Hearing side (Says message)) body found
    → Made desk (Hearing side (Says message)) body (passed desk side message body found)
passed_made desk side message body None any =
    breach_made desk side (Says message) (unexpected (kind_of message.body)) body
passed_made desk side message body (Some d) (any_some made) =
    made_both (made_act tells_hearing) made

stands_with : (side : Side) (body : Body) (row : SessionRow)
    → is_standing_state row.after.state ≡ true
    → is_standing side (with_session side row.after body) ≡ true
stands_with Entry body row on = on
stands_with Exit body row on = on

passing : (desk : Desk) (side : Side) (message : Message) (unsettled : Bool) (body : Body)
    (row : SessionRow) (what : Horizontal)
    → IsSessionRow (session_at side body) (heard message.body unsettled) row
    → row.actions.first ≡ Some (Pass what)
    → Made desk (Hearing side (Says message)) body
    (passed desk side message (with_session side row.after body)
    (side_took desk side what (with_session side row.after body)))
passing desk side message unsettled body row what shape first =
    let after = with_session side row.after body in
    let same : what ≡ message.body = passes_itself shape first in
    let on : is_standing side after ≡ true =
    stands_with side body row (passes_standing shape first) in
    subst (λ (said : Horizontal). Made desk (Hearing side (Says message)) body
    (passed desk side message after (side_took desk side said after))) (sym same)
    (made_passed shape (first ∙ ap (λ (said : Horizontal). Some (Pass said)) same) on
    (passed_made desk side message after (side_took desk side message.body after)
    (side_made desk side message after on)))

taken_made : (desk : Desk) (side : Side) (message : Message) (unsettled : Bool) (body : Body)
    (row : SessionRow) (first : Option Action)
    → IsSessionRow (session_at side body) (heard message.body unsettled) row
    → row.actions.first ≡ first
    → Made desk (Hearing side (Says message)) body
    (taken desk side message first row.actions (with_session side row.after body))
taken_made desk side message unsettled body row first shape is = by first is where
  itself : Made desk (Hearing side (Says message)) body
      (behind (acts.Hears side message ∷ [])
      (actions_did desk side row.actions (with_session side row.after body)))
  itself =
      made_both (made_act tells_hearing)
      (made_row by_message shape
      (actions_made desk (Hearing side (Says message)) side row.actions
      (with_session side row.after body) tt))

  by : (first : Option Action) → row.actions.first ≡ first
      → Made desk (Hearing side (Says message)) body
      (taken desk side message first row.actions (with_session side row.after body))
  by (Some (Pass what)) is = passing desk side message unsettled body row what shape is
  by None is = itself
  by (Some SendService) is = itself
  by (Some (Pong _)) is = itself
  by (Some (Ping _)) is = itself
  by (Some (Tell _)) is = itself
  by (Some Close) is = itself
  by (Some Stand) is = itself

rowed_made : (desk : Desk) (side : Side) (message : Message) (unsettled : Bool) (body : Body)
    (found : Option SessionRow)
    → session_row (session_at side body) (heard message.body unsettled) ≡ found
    → Made desk (Hearing side (Says message)) body (rowed desk side message body found)
rowed_made desk side message unsettled body None is =
    breach_made desk side (Says message) (unexpected (kind_of message.body)) body
rowed_made desk side message unsettled body (Some row) is =
    taken_made desk side message unsettled body row row.actions.first
    (session_row_is (session_at side body) (heard message.body unsettled) row is) refl

pub word_made : (desk : Desk) (side : Side) (word : Word) (body : Body)
    → Made desk (Hearing side word) body (word_did desk side word body)
word_made desk side (Says message) body =
    let unsettled = is_some (held body.outlet) in
    rowed_made desk side message unsettled body
    (session_row (session_at side body) (heard message.body unsettled)) refl
word_made desk side (Wrong text) body = breach_made desk side (Wrong text) text body

if_made : {desk : Desk} {cause : Cause} (test : Bool) {d : Done} {body : Body}
    → (test ≡ true → Made desk cause body d) → Made desk cause body (if_open test d body)
if_made true made = made refl
if_made false made = made_none

heard_made : (desk : Desk) (side : Side) (spoken words : List Word) (body : Body)
    → ((word : Word) → IsWordOf word words → IsWordOf word spoken)
    → Made desk (Meeting (Words side spoken)) body (all_heard desk side words body)
heard_made desk side spoken [] body among = made_none
heard_made desk side spoken (word ∷ words) body among =
    if_made (is_open side body) (λ on.
    made_both (made_word (among word word_first) on (word_made desk side word body))
    (heard_made desk side spoken words (word_did desk side word body).body (λ other later.
    among other (word_later later))))

-- ---- what is done by hand

kept_made : {desk : Desk} {event : Event} {body : Body} {kept : List Record} {act : Act}
    (test : Bool) → (test ≡ true → ByHand desk event body kept act)
    → Made desk (Meeting event) body (if_kept test (with_kept kept body) act body)
kept_made true hand = made_by_hand (hand refl)
kept_made false hand = made_none

faults_made : (desk : Desk) (side : Side) (body : Body)
    → Made desk (Meeting (Fault side)) body (faults desk side body)
faults_made desk Entry body = at_intake_made in_input.Fault body in_fault
faults_made desk Exit body = at_outlet_made out_input.Fault body out_fault

level_made : (desk : Desk) (line : SegmentLine) (on : Bool) (body : Body)
    → Made desk (Meeting (Level line on)) body (tells_level line on body)
level_made desk Ready on body = made_will will_ready
level_made desk Available on body = made_will will_available
level_made desk Failed on body = made_act tells_failed

fails_made : (desk : Desk) (line : SegmentLine) (on : Bool) (found : Option ℕ) (body : Body)
    → failed_front desk.bridge line on body ≡ found
    → Made desk (Meeting (Level line on)) body (fails found body)
fails_made desk line on None body is = made_none
fails_made desk line on (Some id) body is = kept_made (is_kept id body.kept) (λ kept. hand_changes (changes_front is kept))

levels_made : (desk : Desk) (line : SegmentLine) (on : Bool) (body : Body)
    → Made desk (Meeting (Level line on)) body (sets_level desk line on body)
levels_made desk line on body =
    let one = (tells_level line on body).body in
    made_both (level_made desk line on body)
    (fails_made desk line on (failed_front desk.bridge line on one) one refl)

forecasts_made : (desk : Desk) (front : Option Record) (body : Body)
    → slice_get body.kept 0 ≡ front
    → Made desk (Meeting Forecast) body (done body (forecasts desk front))
forecasts_made desk None body is = made_none
forecasts_made desk (Some board) body is = made_act (tells_forecast is)

supervises_made : (desk : Desk) (what : Supervision) (body : Body)
    → Made desk (Meeting (Supervised what)) body (supervises desk what body)
supervises_made desk (Supervise on) body = made_act tells_supervise
supervises_made desk (Ask question) body = made_act tells_question
supervises_made desk (Answer query order) body = made_act tells_answer

-- ---- the event

ticks_made : (desk : Desk) (side : Side) (body : Body)
    → Made desk (Meeting Tick) body (ticks desk side body)
ticks_made desk side body = session_made (session_row (session_at side body) tick) by_tick tt refl

shuts_made : (desk : Desk) (side : Side) (body : Body)
    → Made desk (Meeting Shutdown) body (shuts_down desk side body)
shuts_made desk side body =
    session_made (session_row (session_at side body) shutdown) by_shutdown tt refl

pub event_made : (desk : Desk) (event : Event) (body : Body)
    → Made desk (Meeting event) body (event_did desk event body)
event_made desk Nothing body = made_none
event_made desk Connect body =
    made_both (made_act tells_connecting)
    (session_made (session_row (session_at Entry body) opened) by_connect tt refl)
event_made desk Accepted body =
    session_made (session_row (session_at Exit body) opened) by_accept tt refl
event_made desk Second body =
    session_made (session_row (session_at Exit body) second) by_second tt refl
event_made desk (Words side words) body = heard_made desk side words words body (λ word one. one)
event_made desk (Notice side) body =
    if_made (is_open side body) (λ on.
    made_notice on
    (half_closed_made desk (Meeting (Notice side)) side (without_connection side body) tt))
event_made desk Tick body =
    made_both (ticks_made desk Entry body) (ticks_made desk Exit (ticks desk Entry body).body)
event_made desk Shutdown body =
    made_both (shuts_made desk Entry body) (shuts_made desk Exit (shuts_down desk Entry body).body)
event_made desk (Fault side) body = faults_made desk side body
event_made desk (Will side on) body = made_will will_itself
event_made desk (Level line on) body = levels_made desk line on body
event_made desk (Insert id barcode) body = made_by_hand hand_inserts
event_made desk (Remove id) body = kept_made (is_kept id body.kept) hand_removes
event_made desk (Replace old new) body = kept_made (is_kept old body.kept) hand_replaces
event_made desk (Mark id quality) body = kept_made (is_kept id body.kept) (λ kept. hand_changes (changes_quality kept))
event_made desk (Sub id sub) body = kept_made (takes_sub id sub body.kept) (λ takes. hand_changes (changes_circuits takes))
event_made desk Forecast body = forecasts_made desk (slice_get body.kept 0) body refl
event_made desk (Query barcode) body = made_act tells_query
event_made desk (Supervised what) body = supervises_made desk what body
event_made desk (Gives id to) body = kept_made (is_kept id body.kept) hand_gives
event_made desk (Gets board) body = made_by_hand hand_gets

-- ---- the announcements

pub revoke_made : {starting : Bool} (desk : Desk) (due : Bool) (body : Body)
    → revokes_now body ≡ due → Made desk (Announcing starting) body (revoke_by desk due body)
revoke_made desk true body is = at_outlet_made out_input.Revoke body (out_revoke is)
revoke_made desk false body is = made_none

pub unready_made : {starting : Bool} (desk : Desk) (due : Bool) (body : Body)
    → unreadies_now desk body ≡ due
    → Made desk (Announcing starting) body (unready_by desk due body)
unready_made desk true body is = at_intake_made in_input.Unready body (in_unready is)
unready_made desk false body is = made_none

pub offer_made : {starting : Bool} (desk : Desk) (due : Bool) (front : Option Record) (body : Body)
    → offers_now body ≡ due → slice_get body.kept 0 ≡ front
    → Made desk (Announcing starting) body (offer_by desk due front body)
offer_made desk true (Some front) body is first =
    at_outlet_made (out_input.Offer front.id) body (out_offer is first)
offer_made desk true None body is first = made_none
offer_made desk false front body is first = made_none

pub ready_made : {starting : Bool} (desk : Desk) (due : Bool) (body : Body)
    → readies_now desk body ≡ due → Made desk (Announcing starting) body (ready_by desk due body)
ready_made desk true body is = at_intake_made in_input.Ready body (in_ready is)
ready_made desk false body is = made_none

pub start_made : (desk : Desk) (due : Bool) (body : Body) → starts_now body ≡ due
    → Made desk (Announcing true) body (start_by desk due body)
start_made desk true body is = at_intake_made in_input.Start body (in_start is)
start_made desk false body is = made_none

pub announces_made : (desk : Desk) (body : Body)
    → Made desk (Announcing true) body (announces desk body)
announces_made desk body =
    let one = (revoke desk body).body in
    let two = (unready desk one).body in
    let three = (offer desk two).body in
    let four = (ready desk three).body in
    made_both (revoke_made desk (revokes_now body) body refl)
    (made_both (unready_made desk (unreadies_now desk one) one refl)
    (made_both (offer_made desk (offers_now two) (slice_get two.kept 0) two refl refl)
    (made_both (ready_made desk (readies_now desk three) three refl)
    (start_made desk (starts_now four) four refl))))

-- ---- the step

pub step_made : (desk : Desk) (unread : List Sensed) (event : Event) (body : Body)
    → IsMade desk unread event body
step_made desk unread event body =
    let read = (all_read desk unread body).body in
    record {
      read = all_read_made desk unread body;
      met = event_made desk event read;
      announced = announces_made desk (event_did desk event read).body;
    }
