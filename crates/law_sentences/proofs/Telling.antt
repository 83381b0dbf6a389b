-- What a step of a machine tells: each start that is heard in it is answered as it is announced, and what the outlet has
-- after it is what the acts say. One lemma for each definition, in the order of the definitions.
use Rattle.std.proofs.Common.{◌∙◌, ◌≡◌, ℕ, Bool, true, false, List, [], ◌∷◌, Option, Some, None, refl, sym}
use Rattle.std.specs.List.{AllByRecursion}
use Rattle.std.specs.Prelude.{slice_get}
use Rattle.line_base.specs.declared.states.Quality.TheVariants as qualities
use Rattle.line_base.specs.declared.states.Role.TheVariants.{Upstream}
use Rattle.line_base.specs.declared.states.Side.{Side}
use Rattle.line_base.specs.declared.states.Side.TheVariants.{Entry, Exit}
use Rattle.line_base.specs.declared.states.SensorEvent.{SensorEvent}
use Rattle.board_record.specs.declared.record.Record.{Record}
use Rattle.board_record.specs.declared.sensed.Sensed.{Sensed as Seen}
use Rattle.smema_bridge.specs.declared.line.SegmentLine.{SegmentLine}
use Rattle.smema_bridge.specs.declared.line.SegmentLine.TheVariants as segment
use Rattle.session_core.specs.Input.{opened, second, tick, shutdown}
use Rattle.session_core.specs.Row.{session_row}
use Rattle.handover_out.specs.declared.input.OutInput.TheVariants as out_input
use Rattle.handover_in.specs.declared.input.InInput.TheVariants as in_input
use Rattle.node_core.specs.Desk.{Desk}
use Rattle.node_core.specs.declared.act.Act.{Act}
use Rattle.node_core.specs.declared.act.Act.TheVariants as acts
use Rattle.node_core.specs.declared.lane.Body.{Body}
use Rattle.node_core.specs.Done.{Done, done, behind, and_then}
use Rattle.node_core.specs.Sides.{is_open, session_at}
use Rattle.node_core.specs.Halves.{OffersFront, ended}
use Rattle.node_core.specs.Reads.{all_read, reads, saw}
use Rattle.node_core.specs.Connect.{notices, opens, shuts_down, ticks}
use Rattle.node_core.specs.Boards.{faults, if_kept, is_kept, wills, with_kept, takes_sub}
use Rattle.node_core.specs.Bridge.{failed_front, fails, tells_level}
use Rattle.node_core.specs.Information.{asks_for, forecasts}
use Rattle.node_core.specs.Announces.{announces, offer, offer_by, offers_now, readies_now, ready, ready_by, revoke, revoke_by, revokes_now, start, start_by, starts_now, unready, unready_by, unreadies_now}
use Rattle.node_core.specs.Event.{Event, Nothing, Connect, Accepted, Second, Words, Notice, Tick, Shutdown, Fault, Will, Level, Insert, Remove, Replace, Mark, Sub, Gives, Gets, Forecast, Query, Supervised, event_did}
use Rattle.node_core.specs.Step.{machine_step, plain_step}
use Rattle.node_core.specs.Supervising.{Supervision, Supervise, Ask, Answer, supervises, telling, watch_of}
use Rattle.node_core.proofs.Sound.{read_exit, read_offers}
use Rattle.law_sentences.proofs.Orderly.{AreSilent, tells_offered, tells_orderly, tells_ready}
use Rattle.law_sentences.proofs.Halves.{AreEnd, Tells, at_intake_tells, at_outlet_tells, offer_tells, same_outlet, tells_behind, tells_both, tells_silent, tells_still}
use Rattle.step_rules.proofs.Linked.{Linked, all_read_linked}
use Rattle.law_sentences.proofs.Hearing.{CanHear, IsGood, ended_tells, heard_tell, if_tells, session_tells}

-- ---- sensor events

reads_silent : (side : Side) (event : SensorEvent) → AreSilent (acts.Reads side event ∷ [])
reads_silent side event = record { plain = refl; offered = λ o. refl; ready = λ r. refl }

saw_tells : (desk : Desk) (side : Side) (event : SensorEvent) (body : Body) → Tells body (saw desk side event body)
saw_tells desk Entry event body = at_intake_tells desk (in_input.Sensed event) body
saw_tells desk Exit event body = at_outlet_tells desk (out_input.Sensed event) body tt

read_tells : (desk : Desk) (sensed : Seen) (body : Body) → Tells body (reads desk sensed body)
read_tells desk sensed body = tells_behind body (acts.Reads sensed.side sensed.event ∷ []) (saw desk sensed.side sensed.event body) (reads_silent sensed.side sensed.event) (saw_tells desk sensed.side sensed.event body)

all_read_tell : (desk : Desk) (unread : List Seen) (body : Body) → Tells body (all_read desk unread body)
all_read_tell desk [] body = tells_still body
all_read_tell desk (s ∷ ss) body = tells_both body (reads desk s body) (all_read desk ss) (read_tells desk s body) (all_read_tell desk ss (reads desk s body).body)

-- ---- connections

notices_end : (side : Side) → AreEnd side (acts.Notices side ∷ [])
notices_end Entry = record { plain = refl; offered = λ o. refl; ready = λ r. refl }
notices_end Exit = record { plain = refl; offered = λ o. refl; ready = λ r. refl }

opens_tell : (desk : Desk) (side : Side) (body : Body) → Tells body (opens desk side body)
opens_tell desk side body = session_tells desk side (session_row (session_at side body) opened) body

ticks_tell : (desk : Desk) (side : Side) (body : Body) → Tells body (ticks desk side body)
ticks_tell desk side body = session_tells desk side (session_row (session_at side body) tick) body

shuts_down_tell : (desk : Desk) (side : Side) (body : Body) → Tells body (shuts_down desk side body)
shuts_down_tell desk side body = session_tells desk side (session_row (session_at side body) shutdown) body

notices_tell : (desk : Desk) (side : Side) (body : Body) → Tells body (notices desk side body)
notices_tell desk side body = if_tells (is_open side body) (behind (acts.Notices side ∷ []) (ended desk side body)) body (ended_tells desk side body (acts.Notices side ∷ []) (notices_end side))

-- ---- what is done by hand

by_hand : (body : Body) (kept : List Record) (told : List Act) → AreSilent told → Tells body (done (with_kept kept body) told)
by_hand body kept told silent = tells_silent body (done (with_kept kept body) told) (record { offered = refl; ready = refl }) silent

where_kept : (test : Bool) (body : Body) (kept : List Record) (act : Act) → AreSilent (act ∷ []) → Tells body (if_kept test (with_kept kept body) act body)
where_kept true body kept act silent = by_hand body kept (act ∷ []) silent
where_kept false body kept act silent = tells_still body

faults_tell : (desk : Desk) (side : Side) (body : Body) → Tells body (faults desk side body)
faults_tell desk Entry body = at_intake_tells desk in_input.Fault body
faults_tell desk Exit body = at_outlet_tells desk out_input.Fault body tt

wills_tell : (side : Side) (on : Bool) (body : Body) → Tells body (wills side on body)
wills_tell Entry on body = tells_silent body (wills Entry on body) (record { offered = refl; ready = refl }) (record { plain = refl; offered = λ o. refl; ready = λ r. refl })
wills_tell Exit on body = tells_silent body (wills Exit on body) (record { offered = refl; ready = refl }) (record { plain = refl; offered = λ o. refl; ready = λ r. refl })

-- ---- a level of a bridge's segment, and what is told of boards

level_tells : (line : SegmentLine) (on : Bool) (body : Body) → Tells body (tells_level line on body)
level_tells segment.Ready on body = tells_silent body (tells_level segment.Ready on body) (record { offered = refl; ready = refl }) (record { plain = refl; offered = λ o. refl; ready = λ r. refl })
level_tells segment.Available on body = tells_silent body (tells_level segment.Available on body) (record { offered = refl; ready = refl }) (record { plain = refl; offered = λ o. refl; ready = λ r. refl })
level_tells segment.Failed on body = tells_silent body (tells_level segment.Failed on body) (record { offered = refl; ready = refl }) (record { plain = refl; offered = λ o. refl; ready = λ r. refl })

fails_tells : (front : Option ℕ) (body : Body) → Tells body (fails front body)
fails_tells None body = tells_still body
fails_tells (Some id) body = where_kept (is_kept id body.kept) body _ (acts.Marks id qualities.Failed) (record { plain = refl; offered = λ o. refl; ready = λ r. refl })

sets_tell : (desk : Desk) (line : SegmentLine) (on : Bool) (body : Body) → Tells body (event_did desk (Level line on) body)
sets_tell desk line on body =
    let told = tells_level line on body in
    tells_both body told (λ (one : Body). fails (failed_front desk.bridge line on one) one) (level_tells line on body)
    (fails_tells (failed_front desk.bridge line on told.body) told.body)

forecasts_tell : (desk : Desk) (front : Option Record) (body : Body) → Tells body (done body (forecasts desk front))
forecasts_tell desk None body = tells_still body
forecasts_tell desk (Some board) body = tells_silent body (done body (forecasts desk (Some board))) (same_outlet body) (record { plain = refl; offered = λ o. refl; ready = λ r. refl })

asks_tell : (desk : Desk) (barcode : List ℕ) (body : Body) → Tells body (asks_for desk barcode body)
asks_tell desk barcode body = tells_silent body (asks_for desk barcode body) (same_outlet body) (record { plain = refl; offered = λ o. refl; ready = λ r. refl })

-- what the supervisor asks and says
supervised_tell : (desk : Desk) (what : Supervision) (body : Body) → Tells body (supervises desk what body)
supervised_tell desk (Supervise on) body = tells_silent body (supervises desk (Supervise on) body) (same_outlet body) (record { plain = refl; offered = λ o. refl; ready = λ r. refl })
supervised_tell desk (Ask question) body = tells_silent body (supervises desk (Ask question) body) (same_outlet body) (record { plain = refl; offered = λ o. refl; ready = λ r. refl })
supervised_tell desk (Answer query order) body = tells_silent body (supervises desk (Answer query order) body) (same_outlet body) (record { plain = refl; offered = λ o. refl; ready = λ r. refl })

-- ---- the announcements

revoke_tells : (desk : Desk) (test : Bool) (body : Body) → Tells body (revoke_by desk test body)
revoke_tells desk true body = at_outlet_tells desk out_input.Revoke body tt
revoke_tells desk false body = tells_still body

unready_tells : (desk : Desk) (test : Bool) (body : Body) → Tells body (unready_by desk test body)
unready_tells desk true body = at_intake_tells desk in_input.Unready body
unready_tells desk false body = tells_still body

offers_tell : (desk : Desk) (test : Bool) (front : Option Record) (body : Body) → slice_get body.kept 0 ≡ front → Tells body (offer_by desk test front body)
offers_tell desk true (Some front) body is = offer_tells desk body front is
offers_tell desk true None body is = tells_still body
offers_tell desk false front body is = tells_still body

ready_tells : (desk : Desk) (test : Bool) (body : Body) → Tells body (ready_by desk test body)
ready_tells desk true body = at_intake_tells desk in_input.Ready body
ready_tells desk false body = tells_still body

start_tells : (desk : Desk) (test : Bool) (body : Body) → Tells body (start_by desk test body)
start_tells desk true body = at_intake_tells desk in_input.Start body
start_tells desk false body = tells_still body

announces_tell : (desk : Desk) (body : Body) → Tells body (announces desk body)
announces_tell desk body =
    let one = (revoke desk body).body in
    let two = (unready desk one).body in
    let three = (offer desk two).body in
    let four = (ready desk three).body in
    tells_both body (revoke desk body) (λ (b : Body). and_then (unready desk b) (λ (c : Body). and_then (offer desk c) (λ (e : Body). and_then (ready desk e) (start desk)))) (revoke_tells desk (revokes_now body) body)
    (tells_both one (unready desk one) (λ (b : Body). and_then (offer desk b) (λ (c : Body). and_then (ready desk c) (start desk))) (unready_tells desk (unreadies_now desk one) one)
    (tells_both two (offer desk two) (λ (b : Body). and_then (ready desk b) (start desk)) (offers_tell desk (offers_now two) (slice_get two.kept 0) two refl)
    (tells_both three (ready desk three) (start desk) (ready_tells desk (readies_now desk three) three) (start_tells desk (starts_now four) four))))

-- ---- the events, and the step

-- the words of an event that are wrong are no starts
abbrev pub IsGoodEvent : Event → Type 0
IsGoodEvent (Words side words) = AllByRecursion IsGood words
IsGoodEvent _ = Unit {0}

event_tells : (desk : Desk) (event : Event) (body : Body) → IsGoodEvent event → ((side : Side) → CanHear side body) → Tells body (event_did desk event body)
event_tells desk Nothing body good can = tells_still body
event_tells desk Connect body good can = tells_behind body (acts.Connects ∷ []) (opens desk Entry body) (record { plain = refl; offered = λ o. refl; ready = λ r. refl }) (opens_tell desk Entry body)
event_tells desk Accepted body good can = opens_tell desk Exit body
event_tells desk Second body good can = session_tells desk Exit (session_row (session_at Exit body) second) body
event_tells desk (Words side words) body good can = heard_tell desk side words body good (can side)
event_tells desk (Notice side) body good can = notices_tell desk side body
event_tells desk Tick body good can = tells_both body (ticks desk Entry body) (ticks desk Exit) (ticks_tell desk Entry body) (ticks_tell desk Exit (ticks desk Entry body).body)
event_tells desk Shutdown body good can = tells_both body (shuts_down desk Entry body) (shuts_down desk Exit) (shuts_down_tell desk Entry body) (shuts_down_tell desk Exit (shuts_down desk Entry body).body)
event_tells desk (Fault side) body good can = faults_tell desk side body
event_tells desk (Will side on) body good can = wills_tell side on body
event_tells desk (Level line on) body good can = sets_tell desk line on body
event_tells desk (Insert id barcode) body good can = by_hand body _ (acts.Inserts id ∷ []) (record { plain = refl; offered = λ o. refl; ready = λ r. refl })
event_tells desk (Remove id) body good can = where_kept (is_kept id body.kept) body _ (acts.Removes id) (record { plain = refl; offered = λ o. refl; ready = λ r. refl })
event_tells desk (Replace old new) body good can = where_kept (is_kept old body.kept) body _ (acts.Replaces old new) (record { plain = refl; offered = λ o. refl; ready = λ r. refl })
event_tells desk (Mark id quality) body good can = where_kept (is_kept id body.kept) body _ (acts.Marks id quality) (record { plain = refl; offered = λ o. refl; ready = λ r. refl })
event_tells desk (Sub id sub) body good can = where_kept (takes_sub id sub body.kept) body _ (acts.Subs id sub.pos) (record { plain = refl; offered = λ o. refl; ready = λ r. refl })
event_tells desk (Gives id to) body good can = where_kept (is_kept id body.kept) body _ (acts.Gives id to) (record { plain = refl; offered = λ o. refl; ready = λ r. refl })
event_tells desk (Gets board) body good can = by_hand body _ (acts.Gets board.id ∷ []) (record { plain = refl; offered = λ o. refl; ready = λ r. refl })
event_tells desk Forecast body good can = forecasts_tell desk (slice_get body.kept 0) body
event_tells desk (Query barcode) body good can = asks_tell desk barcode body
event_tells desk (Supervised what) body good can = supervised_tell desk what body

-- what a machine has between two steps
pub record HearsWell (body : Body) : Type 0 where
  pub front : OffersFront body
  pub linked : Linked body
  pub role : body.exit.session.role ≡ Upstream

plain_tells : (desk : Desk) (unread : List Seen) (event : Event) (body : Body) → IsGoodEvent event → HearsWell body → Tells body (plain_step desk unread event body)
plain_tells desk unread event body good well =
    let one = all_read desk unread body in
    let two = event_did desk event one.body in
    let can : (side : Side) → CanHear side one.body = λ side. record { front = read_offers desk unread body well.front; linked = all_read_linked desk unread body well.linked; role = read_exit desk unread body ∙ well.role } in
    tells_both body one (λ (b : Body). and_then (event_did desk event b) (announces desk)) (all_read_tell desk unread body)
    (tells_both one.body two (announces desk) (event_tells desk event one.body good can) (announces_tell desk two.body))

-- and with what the supervisor is told of it
pub telling_tells : (desk : Desk) (body : Body) (did : Done) → Tells body did → Tells body (telling desk body did)
telling_tells desk body did t = record {
  orderly = tells_orderly desk (watch_of desk body) t.orderly;
  offered = t.offered ∙ sym (tells_offered desk (watch_of desk body) did.acts body.outlet.offered);
  ready = t.ready ∙ sym (tells_ready desk (watch_of desk body) did.acts body.outlet.ready);
}

pub step_tells : (desk : Desk) (unread : List Seen) (event : Event) (body : Body) → IsGoodEvent event → HearsWell body → Tells body (machine_step desk unread event body)
step_tells desk unread event body good well = telling_tells desk body (plain_step desk unread event body) (plain_tells desk unread event body good well)
