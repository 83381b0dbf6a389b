-- What leaves the connections of a machine as they are: what its halves do, what it reads, announces and does by hand.
use Rattle.std.proofs.Common.{◌≡◌, ◌∙◌, ◌++◌, Bool, true, false, List, [], ◌∷◌, Option, Some, None, refl, ap, ℕ}
use Rattle.std.specs.Prelude.{slice_get}
use Rattle.line_base.specs.declared.states.Side.{Side}
use Rattle.line_base.specs.declared.states.Side.TheVariants.{Entry, Exit}
use Rattle.line_base.specs.declared.states.Quality.TheVariants as qualities
use Rattle.line_base.specs.declared.states.SensorEvent.{SensorEvent}
use Rattle.board_record.specs.declared.record.Record.{Record}
use Rattle.board_record.specs.declared.sensed.Sensed.{Sensed as Seen}
use Rattle.handover_out.specs.declared.act.OutDeed.{OutDeed}
use Rattle.handover_out.specs.declared.act.OutSend.{OutSend}
use Rattle.handover_out.specs.declared.act.OutSend.TheVariants.{BoardAvailable, RevokeBoardAvailable, Finished}
use Rattle.handover_out.specs.declared.input.OutInput.{OutInput}
use Rattle.handover_out.specs.declared.input.OutInput.TheVariants as out_input
use Rattle.handover_out.specs.Row.{OutRow, outlet_row}
use Rattle.handover_in.specs.declared.act.InDeed.{InDeed}
use Rattle.handover_in.specs.declared.act.InSend.{InSend}
use Rattle.handover_in.specs.declared.input.InInput.{InInput}
use Rattle.handover_in.specs.declared.input.InInput.TheVariants as in_input
use Rattle.handover_in.specs.Row.{InRow, intake_row}
use Rattle.node_core.specs.Desk.{Desk}
use Rattle.node_core.specs.declared.act.Act.{Act}
use Rattle.node_core.specs.declared.act.Act.TheVariants as acts
use Rattle.node_core.specs.declared.lane.Body.{Body}
use Rattle.node_core.specs.Done.{Done, done, stays, behind, and_then}
use Rattle.node_core.specs.Told.{out_does, in_does, out_sends, in_sends, out_told, in_told, drives, offers}
use Rattle.node_core.specs.Sides.{is_open}
use Rattle.node_core.specs.Halves.{at_outlet, at_intake, outlet_row_did, intake_row_did, half_closed}
use Rattle.node_core.specs.Reads.{saw, reads, all_read}
use Rattle.node_core.specs.Boards.{with_kept, if_kept, faults, wills, is_kept, with_mark}
use Rattle.node_core.specs.Announces.{revoke_by, revokes_now, revoke, unready_by, unreadies_now, unready, offer_by, offers_now, offer, ready_by, readies_now, ready, start_by, starts_now, start, announces}
use Rattle.node_core.specs.Bridge.{failed_front, fails, sets_level, tells_level}
use Rattle.node_core.specs.Information.{forecasts, forecasts_front, asks_for}
use Rattle.node_core.specs.Signals.{signalled}
use Rattle.node_core.specs.declared.supervising.Watch.{Watch}
use Rattle.node_core.specs.Supervising.{
  Supervision,
  Supervise,
  Ask,
  Answer,
  supervises,
  supervision_act,
  with_tells,
}
use Rattle.smema_bridge.specs.declared.line.SegmentLine.{SegmentLine}
use Rattle.smema_bridge.specs.declared.line.SegmentLine.TheVariants.{Ready, Available, Failed}
use Rattle.smema_bridge.specs.Levels.{BridgeLevels}
use Rattle.node_core.proofs.Signalling.{signals_all}
use Rattle.node_core.proofs.Telling.{beside}
use Rattle.step_rules.specs.Opened.{open_act, open_after}

pub open_append : (at : Side) (opened : Bool) (a b : List Act) → open_after at opened (a ++ b) ≡ open_after at (open_after at opened a) b
open_append at opened [] b = refl
open_append at opened (x ∷ xs) b = open_append at (open_act at opened x) xs b

-- ---- acts that end no connection

abbrev pub IsQuiet : Side → List Act → Type 0
IsQuiet at acts = (opened : Bool) → open_after at opened acts ≡ opened

pub quiet_both : (at : Side) (a b : List Act) → IsQuiet at a → IsQuiet at b → IsQuiet at (a ++ b)
quiet_both at a b first second opened = open_append at opened a b ∙ ap (λ (o : Bool). open_after at o b) (first opened) ∙ second opened

-- ---- a micro event that leaves the connections as they are

pub record Leaves (at : Side) (body : Body) (d : Done) : Type 0 where
  pub same : is_open at d.body ≡ is_open at body
  pub quiet : IsQuiet at d.acts

pub leaves_still : (at : Side) (body : Body) → Leaves at body (stays body)
leaves_still at body = record { same = refl; quiet = λ opened. refl }

pub leaves_told : (at : Side) (body : Body) (told : List Act) → IsQuiet at told → Leaves at body (done body told)
leaves_told at body told quiet = record { same = refl; quiet = quiet }

-- acts first
pub leaves_behind : (at : Side) (body : Body) (told : List Act) (d : Done) → IsQuiet at told → Leaves at body d → Leaves at body (behind told d)
leaves_behind at body told d quiet k = record { same = k.same; quiet = quiet_both at told d.acts quiet k.quiet }

-- one after the other
pub leaves_both : (at : Side) (body : Body) (first : Done) (next : Body → Done) → Leaves at body first → Leaves at first.body (next first.body) → Leaves at body (and_then first next)
leaves_both at body first next a b = record { same = b.same ∙ a.same; quiet = quiet_both at first.acts (next first.body).acts a.quiet b.quiet }

-- ---- the halves

quiet_drives : (at side : Side) (drive : Option Bool) → IsQuiet at (drives side drive)
quiet_drives at side None opened = refl
quiet_drives at side (Some on) opened = refl

quiet_out_deed : (at : Side) (deed : Option OutDeed) → IsQuiet at (out_does deed)
quiet_out_deed at None opened = refl
quiet_out_deed at (Some deed) opened = refl

quiet_in_deed : (at : Side) (deed : Option InDeed) → IsQuiet at (in_does deed)
quiet_in_deed at None opened = refl
quiet_in_deed at (Some deed) opened = refl

quiet_offers : (at : Side) (desk : Desk) (board : Option Record) → IsQuiet at (offers desk board)
quiet_offers at desk None opened = refl
quiet_offers at desk (Some board) opened = refl

quiet_out_send : (at : Side) (desk : Desk) (kept : List Record) (send : Option OutSend) → IsQuiet at (out_sends desk kept send)
quiet_out_send at desk kept None opened = refl
quiet_out_send at desk kept (Some BoardAvailable) opened = quiet_offers at desk (slice_get kept 0) opened
quiet_out_send at desk kept (Some RevokeBoardAvailable) opened = refl
quiet_out_send at desk kept (Some (Finished state id)) opened = refl

quiet_in_send : (at : Side) (desk : Desk) (send : Option InSend) → IsQuiet at (in_sends desk send)
quiet_in_send at desk None opened = refl
quiet_in_send at desk (Some send) opened = refl

quiet_out : (at : Side) (desk : Desk) (body : Body) (r : OutRow) → IsQuiet at (out_told desk body.kept r.act)
quiet_out at desk body r = quiet_both at (out_does r.act.deed) (out_sends desk body.kept r.act.send ++ drives Exit r.act.drive) (quiet_out_deed at r.act.deed)
    (quiet_both at (out_sends desk body.kept r.act.send) (drives Exit r.act.drive) (quiet_out_send at desk body.kept r.act.send) (quiet_drives at Exit r.act.drive))

quiet_in : (at : Side) (desk : Desk) (r : InRow) → IsQuiet at (in_told desk r.act)
quiet_in at desk r = quiet_both at (in_does r.act.deed) (in_sends desk r.act.send ++ drives Entry r.act.drive) (quiet_in_deed at r.act.deed)
    (quiet_both at (in_sends desk r.act.send) (drives Entry r.act.drive) (quiet_in_send at desk r.act.send) (quiet_drives at Entry r.act.drive))

pub outlet_leaves : (at : Side) (desk : Desk) (body : Body) (found : Option OutRow) → Leaves at body (outlet_row_did desk body found)
outlet_leaves at desk body None = leaves_still at body
outlet_leaves Entry desk body (Some r) = record { same = refl; quiet = quiet_out Entry desk body r }
outlet_leaves Exit desk body (Some r) = record { same = refl; quiet = quiet_out Exit desk body r }

pub intake_leaves : (at : Side) (desk : Desk) (body : Body) (found : Option InRow) → Leaves at body (intake_row_did desk body found)
intake_leaves at desk body None = leaves_still at body
intake_leaves Entry desk body (Some r) = record { same = refl; quiet = quiet_in Entry desk r }
intake_leaves Exit desk body (Some r) = record { same = refl; quiet = quiet_in Exit desk r }

pub at_outlet_leaves : (at : Side) (desk : Desk) (input : OutInput) (body : Body) → Leaves at body (at_outlet desk input body)
at_outlet_leaves at desk input body = outlet_leaves at desk body (outlet_row body.outlet input)

pub at_intake_leaves : (at : Side) (desk : Desk) (input : InInput) (body : Body) → Leaves at body (at_intake desk input body)
at_intake_leaves at desk input body = intake_leaves at desk body (intake_row body.intake input)

pub half_closed_leaves : (at : Side) (desk : Desk) (side : Side) (body : Body) → Leaves at body (half_closed desk side body)
half_closed_leaves at desk Entry body = at_intake_leaves at desk in_input.Closed body
half_closed_leaves at desk Exit body = at_outlet_leaves at desk out_input.Closed body

-- ---- sensor events

saw_leaves : (at : Side) (desk : Desk) (side : Side) (event : SensorEvent) (body : Body) → Leaves at body (saw desk side event body)
saw_leaves at desk Entry event body = at_intake_leaves at desk (in_input.Sensed event) body
saw_leaves at desk Exit event body = at_outlet_leaves at desk (out_input.Sensed event) body

read_leaves : (at : Side) (desk : Desk) (sensed : Seen) (body : Body) → Leaves at body (reads desk sensed body)
read_leaves at desk sensed body = leaves_behind at body (acts.Reads sensed.side sensed.event ∷ []) (saw desk sensed.side sensed.event body) (λ opened. refl) (saw_leaves at desk sensed.side sensed.event body)

pub all_read_leaves : (at : Side) (desk : Desk) (unread : List Seen) (body : Body) → Leaves at body (all_read desk unread body)
all_read_leaves at desk [] body = leaves_still at body
all_read_leaves at desk (s ∷ ss) body = leaves_both at body (reads desk s body) (all_read desk ss) (read_leaves at desk s body) (all_read_leaves at desk ss (reads desk s body).body)

-- ---- what is done by hand

pub kept_leaves : (at : Side) (body : Body) (kept : List Record) (told : List Act) → IsQuiet at told → Leaves at body (done (with_kept kept body) told)
kept_leaves Entry body kept told quiet = record { same = refl; quiet = quiet }
kept_leaves Exit body kept told quiet = record { same = refl; quiet = quiet }

pub if_kept_leaves : (at : Side) (test : Bool) (body : Body) (kept : List Record) (act : Act) → IsQuiet at (act ∷ []) → Leaves at body (if_kept test (with_kept kept body) act body)
if_kept_leaves at true body kept act quiet = kept_leaves at body kept (act ∷ []) quiet
if_kept_leaves at false body kept act quiet = leaves_still at body

pub faults_leave : (at : Side) (desk : Desk) (side : Side) (body : Body) → Leaves at body (faults desk side body)
faults_leave at desk Entry body = at_intake_leaves at desk in_input.Fault body
faults_leave at desk Exit body = at_outlet_leaves at desk out_input.Fault body

pub wills_leave : (at side : Side) (on : Bool) (body : Body) → Leaves at body (wills side on body)
wills_leave Entry Entry on body = record { same = refl; quiet = λ opened. refl }
wills_leave Entry Exit on body = record { same = refl; quiet = λ opened. refl }
wills_leave Exit Entry on body = record { same = refl; quiet = λ opened. refl }
wills_leave Exit Exit on body = record { same = refl; quiet = λ opened. refl }

-- ---- a bridge, and what is told of boards

quiet_signals : (at : Side) (bridge : Option BridgeLevels) (body : Body) → IsQuiet at (signalled bridge body)
quiet_signals at bridge body = signals_all (IsQuiet at) (λ opened. refl) (λ signal on opened. refl) (quiet_both at) bridge body

-- behind the acts of a step a bridge's own signals end no connection
pub open_signalled : (at : Side) (opened : Bool) (made : List Act) (bridge : Option BridgeLevels) (body : Body)
    → open_after at opened (made ++ signalled bridge body) ≡ open_after at opened made
open_signalled at opened made bridge body =
    open_append at opened made (signalled bridge body) ∙ quiet_signals at bridge body (open_after at opened made)

tells_level_leaves : (at : Side) (line : SegmentLine) (on : Bool) (body : Body) → Leaves at body (tells_level line on body)
tells_level_leaves Entry Ready on body = record { same = refl; quiet = λ opened. refl }
tells_level_leaves Entry Available on body = record { same = refl; quiet = λ opened. refl }
tells_level_leaves Entry Failed on body = record { same = refl; quiet = λ opened. refl }
tells_level_leaves Exit Ready on body = record { same = refl; quiet = λ opened. refl }
tells_level_leaves Exit Available on body = record { same = refl; quiet = λ opened. refl }
tells_level_leaves Exit Failed on body = record { same = refl; quiet = λ opened. refl }

fails_leaves : (at : Side) (front : Option ℕ) (body : Body) → Leaves at body (fails front body)
fails_leaves at None body = leaves_still at body
fails_leaves at (Some id) body =
    if_kept_leaves at (is_kept id body.kept) body (with_mark id qualities.Failed body.kept)
    (acts.Marks id qualities.Failed) (λ opened. refl)

pub levels_leave : (at : Side) (desk : Desk) (line : SegmentLine) (on : Bool) (body : Body) → Leaves at body (sets_level desk line on body)
levels_leave at desk line on body =
    let told = tells_level line on body in
    leaves_both at body told (λ one. fails (failed_front desk.bridge line on one) one) (tells_level_leaves at line on body)
    (fails_leaves at (failed_front desk.bridge line on told.body) told.body)

quiet_forecasts : (at : Side) (desk : Desk) (board : Option Record) → IsQuiet at (forecasts desk board)
quiet_forecasts at desk None opened = refl
quiet_forecasts at desk (Some board) opened = refl

pub forecasts_leave : (at : Side) (desk : Desk) (body : Body) → Leaves at body (forecasts_front desk body)
forecasts_leave at desk body =
    leaves_told at body (forecasts desk (slice_get body.kept 0)) (quiet_forecasts at desk (slice_get body.kept 0))

pub asks_leave : (at : Side) (desk : Desk) (barcode : List ℕ) (body : Body) → Leaves at body (asks_for desk barcode body)
asks_leave at desk barcode body = record { same = refl; quiet = λ opened. refl }

-- ---- the supervisor

-- what is told to the supervisor ends no connection
pub open_with_tells : (at : Side) (opened : Bool) (desk : Desk) (watch : Watch) (made : List Act)
    → open_after at opened (with_tells desk watch made) ≡ open_after at opened made
open_with_tells at opened desk watch made =
    beside (λ told plain. (o : Bool) → open_after at o told ≡ open_after at o plain) (λ o. refl)
    (λ act told plain same o. same (open_act at o act))
    (λ message told plain same o. same o) desk watch made opened

-- nor does what it says, and what it is asked
pub supervision_ends_none : (at : Side) (desk : Desk) (what : Supervision)
    → IsQuiet at (supervision_act desk what ∷ [])
supervision_ends_none at desk (Supervise on) opened = refl
supervision_ends_none at desk (Ask question) opened = refl
supervision_ends_none at desk (Answer query order) opened = refl

pub supervises_leaves : (at : Side) (desk : Desk) (what : Supervision) (body : Body)
    → Leaves at body (supervises desk what body)
supervises_leaves at desk what body =
    leaves_told at body (supervision_act desk what ∷ []) (supervision_ends_none at desk what)

-- ---- the announcements

revoke_leaves : (at : Side) (desk : Desk) (test : Bool) (body : Body) → Leaves at body (revoke_by desk test body)
revoke_leaves at desk true body = at_outlet_leaves at desk out_input.Revoke body
revoke_leaves at desk false body = leaves_still at body

unready_leaves : (at : Side) (desk : Desk) (test : Bool) (body : Body) → Leaves at body (unready_by desk test body)
unready_leaves at desk true body = at_intake_leaves at desk in_input.Unready body
unready_leaves at desk false body = leaves_still at body

offer_leaves : (at : Side) (desk : Desk) (test : Bool) (front : Option Record) (body : Body) → Leaves at body (offer_by desk test front body)
offer_leaves at desk true (Some front) body = at_outlet_leaves at desk (out_input.Offer front.id) body
offer_leaves at desk true None body = leaves_still at body
offer_leaves at desk false front body = leaves_still at body

ready_leaves : (at : Side) (desk : Desk) (test : Bool) (body : Body) → Leaves at body (ready_by desk test body)
ready_leaves at desk true body = at_intake_leaves at desk in_input.Ready body
ready_leaves at desk false body = leaves_still at body

start_leaves : (at : Side) (desk : Desk) (test : Bool) (body : Body) → Leaves at body (start_by desk test body)
start_leaves at desk true body = at_intake_leaves at desk in_input.Start body
start_leaves at desk false body = leaves_still at body

pub announces_leave : (at : Side) (desk : Desk) (body : Body) → Leaves at body (announces desk body)
announces_leave at desk body =
    let one = revoke desk body in
    let two = unready desk one.body in
    let three = offer desk two.body in
    let four = ready desk three.body in
    leaves_both at body one (λ (b1 : Body). and_then (unready desk b1) (λ (b2 : Body). and_then (offer desk b2) (λ (b3 : Body). and_then (ready desk b3) (start desk)))) (revoke_leaves at desk (revokes_now body) body)
    (leaves_both at one.body two (λ (b2 : Body). and_then (offer desk b2) (λ (b3 : Body). and_then (ready desk b3) (start desk))) (unready_leaves at desk (unreadies_now desk one.body) one.body)
    (leaves_both at two.body three (λ (b3 : Body). and_then (ready desk b3) (start desk)) (offer_leaves at desk (offers_now two.body) (slice_get two.body.kept 0) two.body)
    (leaves_both at three.body four (start desk) (ready_leaves at desk (readies_now desk three.body) three.body) (start_leaves at desk (starts_now four.body) four.body))))
