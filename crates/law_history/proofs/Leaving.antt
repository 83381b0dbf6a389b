-- In which steps a board is said to have left: as the machine reads its events, where its outlet holds a board that is across
-- or inside; and never where it holds none.
use Rattle.std.proofs.Common.{Bool, List, None, Option, Some, [], ap, false, refl, subst, sym, true, ◌++◌, ◌∙◌, ◌∷◌, ◌≡◌}
use Rattle.std.proofs.lemmas.Bool.{or_left, or_right, or_from}
use Rattle.law_machine_custody.proofs.BehindReading.{intake_apart}
use Rattle.line_base.specs.declared.states.SensorEvent.{SensorEvent}
use Rattle.line_base.specs.declared.states.SensorEvent.TheVariants as event
use Rattle.line_base.specs.declared.states.Side.{Side}
use Rattle.line_base.specs.declared.states.Side.TheVariants.{Entry, Exit}
use Rattle.board_record.specs.declared.record.Record.{Record}
use Rattle.board_record.specs.declared.sensed.Sensed.{Sensed}
use Rattle.handover_out.specs.declared.input.OutInput.TheVariants as out_input
use Rattle.handover_out.specs.declared.phase.Phase.{Phase as Out}
use Rattle.handover_out.specs.declared.phase.Phase.TheVariants as out
use Rattle.handover_out.specs.Row.{OutRow, outlet_row}
use Rattle.handover_out.specs.State.{OutState, board_of_phase as held_out}
use Rattle.handover_out.specs.Table.{IsOutletRow, back_ended, back_idle, begun_ended, begun_idle, full_ended, full_idle, left_ended, left_idle, taken_ended, taken_idle}
use Rattle.handover_out.proofs.Rows.{row_is as out_row_is}
use Rattle.handover_in.specs.declared.act.InDeed.{InDeed}
use Rattle.handover_in.specs.declared.act.InDeed.TheVariants as in_deeds
use Rattle.handover_in.specs.declared.act.InSend.{InSend}
use Rattle.handover_in.specs.declared.input.InInput.TheVariants as in_input
use Rattle.handover_in.specs.Row.{InRow, intake_row}
use Rattle.node_core.specs.Desk.{Desk}
use Rattle.node_core.specs.Halves.{intake_row_did, outlet_row_did}
use Rattle.node_core.specs.Reads.{all_read, reads}
use Rattle.node_core.specs.Told.{drives, in_does, in_sends}
use Rattle.node_core.specs.declared.lane.Body.{Body}
use Rattle.law_custody.specs.Floor.{ExitFloor, at_start, begun_read, begun_unread, both_gone, both_unread, left_gone, left_unread, out_ended, out_idle, stuck_back, stuck_begun, stuck_gone, stuck_left, stuck_left_gone}
use Rattle.law_custody.specs.Place.{Beyond, Place}
use Rattle.law_custody.specs.Words.{events_at}
use Rattle.law_history.proofs.Halves.{leaves_not, out_inner}
use Rattle.law_history.proofs.Stepping.{inner_stays, leaving_append, tells_leaving}

-- ---- the events that end in it

pub data LeavesBy : Out → List SensorEvent → Type 0 where
  by_left : {r : Record} {c : Bool} {es : List SensorEvent} → LeavesBy (out.Moving r c) (event.Left ∷ es)
  by_begun : {r : Record} {c : Bool} {es : List SensorEvent} → LeavesBy (out.Moving r c) (event.Begun ∷ event.Left ∷ es)
  by_stuck : {r : Record} {l s : Bool} {es : List SensorEvent} → LeavesBy (out.Stuck r l s) (event.Left ∷ es)

-- a board that is across or inside, and that the outlet holds
pub leaves_by : {o : Out} {es : List SensorEvent} {drive : Bool} {p : Place} {r : Record} (q : Record) → ExitFloor o es drive p r → Beyond p → held_out o ≡ Some q → LeavesBy o es
leaves_by q (out_idle taken apart) far held = absurd (let no_way : ◌≡◌ {A = Option Record} None (Some q) = held in cc)
leaves_by q (out_ended taken apart) far held = absurd (let no_way : ◌≡◌ {A = Option Record} None (Some q) = held in cc)
leaves_by q at_start far held = elim far [ ]
leaves_by q begun_unread far held = elim far [ ]
leaves_by q begun_read far held = elim far [ ]
leaves_by q (both_unread beyond) far held = by_begun
leaves_by q (left_unread beyond) far held = by_left
leaves_by q both_gone far held = by_begun
leaves_by q left_gone far held = by_left
leaves_by q stuck_begun far held = elim far [ ]
leaves_by q stuck_back far held = elim far [ ]
leaves_by q stuck_gone far held = elim far [ ]
leaves_by q (stuck_left beyond) far held = by_stuck
leaves_by q stuck_left_gone far held = by_stuck

-- ---- reading them

left_said : (desk : Desk) (body : Body) (r : Record) (c : Bool) → body.outlet.phase ≡ out.Moving r c → tells_leaving (reads desk (record { side = Exit; event = event.Left }) body).acts ≡ true
left_said desk body r true is = rw is refl
left_said desk body r false is = rw is refl

stuck_said : (desk : Desk) (body : Body) (r : Record) (l s : Bool) → body.outlet.phase ≡ out.Stuck r l s → tells_leaving (reads desk (record { side = Exit; event = event.Left }) body).acts ≡ true
stuck_said desk body r true true is = rw is refl
stuck_said desk body r true false is = rw is refl
stuck_said desk body r false s is = rw is refl

begun_moves : (desk : Desk) (body : Body) (r : Record) (c : Bool) → body.outlet.phase ≡ out.Moving r c → (reads desk (record { side = Exit; event = event.Begun }) body).body.outlet.phase ≡ out.Moving r true
begun_moves desk body r true is = rw is refl
begun_moves desk body r false is = rw is refl

-- the first act, or the later ones
said_now : (desk : Desk) (sensed : Sensed) (others : List Sensed) (body : Body) → tells_leaving (reads desk sensed body).acts ≡ true → tells_leaving (all_read desk (sensed ∷ others) body).acts ≡ true
said_now desk sensed others body is =
    leaving_append (reads desk sensed body).acts (all_read desk others (reads desk sensed body).body).acts ∙ or_left (tells_leaving (reads desk sensed body).acts) (tells_leaving (all_read desk others (reads desk sensed body).body).acts) is

said_later : (desk : Desk) (sensed : Sensed) (others : List Sensed) (body : Body) → tells_leaving (all_read desk others (reads desk sensed body).body).acts ≡ true → tells_leaving (all_read desk (sensed ∷ others) body).acts ≡ true
said_later desk sensed others body is =
    leaving_append (reads desk sensed body).acts (all_read desk others (reads desk sensed body).body).acts ∙ or_right (tells_leaving (reads desk sensed body).acts) (tells_leaving (all_read desk others (reads desk sensed body).body).acts) is

abbrev Leaves : Desk → List Sensed → Type 0
Leaves desk unread = (body : Body) (o : Out) (es : List SensorEvent) → body.outlet.phase ≡ o → events_at Exit unread ≡ es → LeavesBy o es → tells_leaving (all_read desk unread body).acts ≡ true

exit_leaves : (desk : Desk) (seen : SensorEvent) (others : List Sensed) (body : Body) (o : Out) (es : List SensorEvent) → Leaves desk others → body.outlet.phase ≡ o → seen ∷ events_at Exit others ≡ es → LeavesBy o es
    → tells_leaving (all_read desk (record { side = Exit; event = seen } ∷ others) body).acts ≡ true
exit_leaves desk seen others body _ _ later phase same (by_left {r = r} {c = c} {es = es}) =
    let is : seen ≡ event.Left = cc in
    said_now desk (record { side = Exit; event = seen }) others body (subst (λ (e : SensorEvent). tells_leaving (reads desk (record { side = Exit; event = e }) body).acts ≡ true) (sym is) (left_said desk body r c phase))
exit_leaves desk seen others body _ _ later phase same (by_stuck {r = r} {l = l} {s = s} {es = es}) =
    let is : seen ≡ event.Left = cc in
    said_now desk (record { side = Exit; event = seen }) others body (subst (λ (e : SensorEvent). tells_leaving (reads desk (record { side = Exit; event = e }) body).acts ≡ true) (sym is) (stuck_said desk body r l s phase))
exit_leaves desk seen others body _ _ later phase same (by_begun {r = r} {c = c} {es = es}) =
    let is : seen ≡ event.Begun = cc in
    let rest : events_at Exit others ≡ event.Left ∷ es = cc in
    let moves : (reads desk (record { side = Exit; event = seen }) body).body.outlet.phase ≡ out.Moving r true = subst (λ (e : SensorEvent). (reads desk (record { side = Exit; event = e }) body).body.outlet.phase ≡ out.Moving r true) (sym is) (begun_moves desk body r c phase) in
    said_later desk (record { side = Exit; event = seen }) others body (later (reads desk (record { side = Exit; event = seen }) body).body (out.Moving r true) (event.Left ∷ es) moves rest by_left)

one_leaves : (desk : Desk) (side : Side) (seen : SensorEvent) (others : List Sensed) → Leaves desk others → Leaves desk (record { side = side; event = seen } ∷ others)
one_leaves desk Entry seen others later body o es phase same by =
    let sensed : Sensed = record { side = Entry; event = seen } in
    said_later desk sensed others body (later (reads desk sensed body).body o es (ap (λ (s : OutState). s.phase) (intake_apart desk body (intake_row body.intake (in_input.Sensed seen))) ∙ phase) same by)
one_leaves desk Exit seen others later body o es phase same by = exit_leaves desk seen others body o es later phase same by

none_by : {o : Out} {es : List SensorEvent} {X : Type 0} → [] ≡ es → LeavesBy o es → X
none_by same by_left = cc
none_by same by_begun = cc
none_by same by_stuck = cc

pub leaves_told : (desk : Desk) (unread : List Sensed) → Leaves desk unread
leaves_told desk [] body o es phase same by = none_by same by
leaves_told desk (sensed ∷ others) body o es phase same by = one_leaves desk sensed.side sensed.event others (leaves_told desk others) body o es phase same by

-- ---- an outlet that holds none

none_row : {s : OutState} {e : SensorEvent} {row : OutRow} → IsOutletRow s (out_input.Sensed e) row → held_out s.phase ≡ None → (held_out row.after.phase ≡ None) × (row.act.deed ≡ None)
none_row begun_idle none = (refl, refl)
none_row begun_ended none = (refl, refl)
none_row left_idle none = (refl, refl)
none_row left_ended none = (refl, refl)
none_row full_idle none = (refl, refl)
none_row full_ended none = (refl, refl)
none_row back_idle none = (refl, refl)
none_row back_ended none = (refl, refl)
none_row taken_idle none = (refl, refl)
none_row taken_ended none = (refl, refl)
none_row _ none = (cc, cc)

sends_stay : (desk : Desk) (send : Option InSend) (drive : Option Bool) → tells_leaving (in_sends desk send ++ drives Entry drive) ≡ false
sends_stay desk None None = refl
sends_stay desk None (Some on) = refl
sends_stay desk (Some what) None = refl
sends_stay desk (Some what) (Some on) = refl

in_stays : (desk : Desk) (deed : Option InDeed) (send : Option InSend) (drive : Option Bool) → tells_leaving (in_does deed ++ (in_sends desk send ++ drives Entry drive)) ≡ false
in_stays desk None send drive = sends_stay desk send drive
in_stays desk (Some (in_deeds.Starts id)) send drive = sends_stay desk send drive
in_stays desk (Some (in_deeds.Settles id)) send drive = sends_stay desk send drive
in_stays desk (Some (in_deeds.Drops id)) send drive = sends_stay desk send drive

entry_stays : (desk : Desk) (body : Body) (found : Option InRow) → tells_leaving (intake_row_did desk body found).acts ≡ false
entry_stays desk body None = refl
entry_stays desk body (Some row) = in_stays desk row.act.deed row.act.send row.act.drive

exit_none : (desk : Desk) (body : Body) (seen : SensorEvent) (found : Option OutRow) → outlet_row body.outlet (out_input.Sensed seen) ≡ found → held_out body.outlet.phase ≡ None
    → (tells_leaving (outlet_row_did desk body found).acts ≡ false) × (held_out (outlet_row_did desk body found).body.outlet.phase ≡ None)
exit_none desk body seen None is none = (refl, none)
exit_none desk body seen (Some row) is none =
    let both = none_row (out_row_is body.outlet (out_input.Sensed seen) row is) none in
    (inner_stays (outlet_row_did desk body (Some row)).acts (out_inner desk body.kept row (ap leaves_not both.1)), both.0)

one_none : (desk : Desk) (side : Side) (seen : SensorEvent) (body : Body) → held_out body.outlet.phase ≡ None
    → (tells_leaving (reads desk (record { side = side; event = seen }) body).acts ≡ false) × (held_out (reads desk (record { side = side; event = seen }) body).body.outlet.phase ≡ None)
one_none desk Entry seen body none = (entry_stays desk body (intake_row body.intake (in_input.Sensed seen)), ap (λ (s : OutState). held_out s.phase) (intake_apart desk body (intake_row body.intake (in_input.Sensed seen))) ∙ none)
one_none desk Exit seen body none = exit_none desk body seen (outlet_row body.outlet (out_input.Sensed seen)) refl none

pub none_leave : (desk : Desk) (unread : List Sensed) (body : Body) → held_out body.outlet.phase ≡ None → tells_leaving (all_read desk unread body).acts ≡ false
none_leave desk [] body none = refl
none_leave desk (sensed ∷ others) body none =
    let both = one_none desk sensed.side sensed.event body none in
    leaving_append (reads desk sensed body).acts (all_read desk others (reads desk sensed body).body).acts
    ∙ or_from (tells_leaving (reads desk sensed body).acts) (tells_leaving (all_read desk others (reads desk sensed body).body).acts) both.0 (none_leave desk others (reads desk sensed body).body both.1)
