-- A MACHINE IS BEFALLEN, in time, before it has read all events: it hears words, its connection is found closed, a drive fails, its clock ticks, it shuts down, its will changes.
use Rattle.std.proofs.Common.{Bool, List, None, Option, Some, [], ap, false, refl, sym, true, ℕ, ◌∙◌, ◌∷◌, ◌≡◌}
use Rattle.line_base.specs.declared.states.Quality.TheVariants as qualities
use Rattle.line_base.specs.declared.states.Side.{Side}
use Rattle.line_base.specs.declared.states.Side.TheVariants.{Entry, Exit}
use Rattle.board_record.specs.declared.record.Record.{Record}
use Rattle.board_record.specs.declared.sensed.Sensed.{Sensed}
use Rattle.session_core.specs.End.{SessionEnd}
use Rattle.session_core.specs.Input.{shutdown as to_shut_down, tick}
use Rattle.session_core.specs.Row.{SessionRow, session_row}
use Rattle.session_core.specs.Table.{IsSessionRow, asks, gives_up_handshake, gives_up_standing, shuts_down as row_shuts_down, waits_in_handshake, waits_standing}
use Rattle.session_core.proofs.Rows.{row_is as session_row_is}
use Rattle.smema_bridge.specs.declared.line.SegmentLine.{SegmentLine}
use Rattle.smema_bridge.specs.declared.line.SegmentLine.TheVariants.{Available, Failed, Ready}
use Rattle.handover_out.specs.Row.{outlet_row}
use Rattle.handover_out.specs.declared.input.OutInput.TheVariants as out_input
use Rattle.handover_in.specs.Row.{InRow, complete_if, fault_row, intake_row}
use Rattle.handover_in.specs.State.{InState}
use Rattle.handover_in.specs.declared.input.InInput.TheVariants as in_input
use Rattle.handover_in.specs.declared.phase.Phase.{Phase as In}
use Rattle.handover_in.specs.declared.phase.Phase.TheVariants as inn
use Rattle.node_core.specs.Boards.{faults, if_kept, is_kept, wills, with_mark}
use Rattle.node_core.specs.Bridge.{failed_front, fails, tells_level}
use Rattle.node_core.specs.Connect.{both_shut_down, both_tick, if_open, notices, shuts_down, ticks}
use Rattle.node_core.specs.Desk.{Desk}
use Rattle.node_core.specs.Done.{behind}
use Rattle.node_core.specs.Event.{Event, event_did}
use Rattle.node_core.specs.Halves.{ended, intake_row_did}
use Rattle.node_core.specs.Session.{actions_did, session_did}
use Rattle.node_core.specs.Sides.{is_open, session_at, with_session}
use Rattle.node_core.specs.Step.{machine_step}
use Rattle.node_core.specs.declared.act.Act.{Act}
use Rattle.node_core.specs.declared.act.Act.TheVariants as acts
use Rattle.node_core.specs.declared.lane.Body.{Body as Machine}
use Rattle.node_core.proofs.Offers.{OffersOf}
use Rattle.node_core.proofs.Sound.{all_read_keeps}
use Rattle.law_custody.specs.Pair.{Ghost}
use Rattle.law_custody.proofs.Unread.{all_read, none_unread}
use Rattle.law_machine_custody.specs.Scene.{Scene}
use Rattle.law_machine_custody.specs.Good.{Afar, GoesBy, Good}
use Rattle.law_machine_custody.specs.Ahead.{GoesAhead, IsFreeRead}
use Rattle.law_machine_custody.specs.Flight.{IsPlain, plain_fault, plain_forecast, plain_level, plain_notice, plain_nothing, plain_query, plain_shutdown, plain_supervised, plain_tick, plain_will, plain_words, unheard}
use Rattle.law_machine_custody.specs.InTime.{IsMetInTime, IsReadEnough}
use Rattle.law_machine_custody.proofs.Announcing.{outlet_free}
use Rattle.law_machine_custody.proofs.BehindReading.{read_leaves}
use Rattle.law_machine_custody.proofs.Beside.{asks_go, forecasts_go, levels_go, supervises_go}
use Rattle.law_machine_custody.proofs.Clock.{both_shut_down_unread, both_tick_unread, if_open_goes, wills_go}
use Rattle.law_machine_custody.proofs.Closing.{MayFollow, noticed_unread}
use Rattle.law_machine_custody.proofs.Fronts.{step_ahead}
use Rattle.law_machine_custody.proofs.Goes.{goes_not}
use Rattle.law_machine_custody.proofs.HearingAll.{words_ahead}
use Rattle.law_machine_custody.proofs.HearingFree.{half_free, shut_free}
use Rattle.law_machine_custody.proofs.Reading.{faults_unread}
use Rattle.law_machine_custody.proofs.FrontRead.{Reads}

follows : {us : List Sensed} {ga : Ghost} (side : Side) → IsReadEnough us ga → MayFollow side us ga
follows Entry n = n.entry
follows Exit n = record { begun = n.begun }

-- ---- a connection is found closed

notices_unread : {afar : Afar} {above : List Record} {us : List Sensed} {ga gb : Ghost} {body : Machine} {c : Scene} (desk : Desk) (side : Side) → MayFollow side us ga
    → Good afar above us ga gb body c → GoesBy afar above us ga gb c (notices desk side body)
notices_unread {body = body} desk side n g = if_open_goes (is_open side body) (behind (acts.Notices side ∷ []) (ended desk side body)) body g (λ open_now. noticed_unread desk side n g)

notices_free : {us : List Sensed} (desk : Desk) (side : Side) (test : Bool) (body : Machine) → IsFreeRead us body → IsFreeRead us (if_open test (behind (acts.Notices side ∷ []) (ended desk side body)) body).body
notices_free desk Entry true body r = half_free desk Entry body.entry.session.role body r
notices_free desk Exit true body r = half_free desk Exit body.exit.session.role body r
notices_free desk Entry false body r = r
notices_free desk Exit false body r = r

-- ---- a drive fails

abbrev phase_after : Option InRow → In
phase_after None = inn.Idle
phase_after (Some row) = row.after.phase

-- and an intake that is free behind it was free before
fault_frees : (i : In) (s : InState) (row : InRow) → i ≡ s.phase → fault_row i s ≡ Some row → row.after.phase ≡ inn.Idle → s.phase ≡ inn.Idle
fault_frees inn.Idle s row at is free = sym at
fault_frees (inn.Taking board own heard) s row at is free = let never : inn.Stopped board own (complete_if heard) ≡ inn.Idle = ap phase_after is ∙ free in cc
fault_frees (inn.Stopped board own heard) s row at is free = ap phase_after is ∙ free
fault_frees (inn.Waiting board own heard) s row at is free = ap phase_after is ∙ free

entry_fault_free : {us : List Sensed} (desk : Desk) (body : Machine) (row : Option InRow) → intake_row body.intake in_input.Fault ≡ row → IsFreeRead us body → IsFreeRead us (intake_row_did desk body row).body
entry_fault_free desk body None is r = r
entry_fault_free desk body (Some row) is r = record { read = λ stands free. r.read stands (fault_frees body.intake.phase body.intake row refl is free) }

faults_free : {us : List Sensed} (desk : Desk) (side : Side) (body : Machine) → IsFreeRead us body → IsFreeRead us (faults desk side body).body
faults_free desk Entry body r = entry_fault_free desk body (intake_row body.intake in_input.Fault) refl r
faults_free desk Exit body r = outlet_free desk body (outlet_row body.outlet out_input.Fault) r

wills_free : {us : List Sensed} (side : Side) (on : Bool) (body : Machine) → IsFreeRead us body → IsFreeRead us (wills side on body).body
wills_free Entry on body r = record { read = r.read }
wills_free Exit on body r = record { read = r.read }

-- ---- the clock ticks, and the machine shuts down

-- both sides in turn, each in what its session's row does
exit_tick_free : {us : List Sensed} (desk : Desk) (body : Machine) (s : SessionEnd) (row : SessionRow) → IsSessionRow s tick row → IsFreeRead us body
    → IsFreeRead us (actions_did desk Exit row.actions (with_session Exit row.after body)).body
exit_tick_free desk body _ _ (asks is two) r = record { read = r.read }
exit_tick_free desk body _ _ (gives_up_handshake {role = role} is) r = half_free desk Exit role body r
exit_tick_free desk body _ _ (gives_up_standing {role = role} is alive) r = half_free desk Exit role body r
exit_tick_free desk body _ _ (waits_in_handshake is also) r = record { read = r.read }
exit_tick_free desk body _ _ (waits_standing is also) r = record { read = r.read }

entry_tick_free : {us : List Sensed} (desk : Desk) (body : Machine) (s : SessionEnd) (row : SessionRow) → IsSessionRow s tick row → IsFreeRead us (with_session Entry s body)
    → IsFreeRead us (actions_did desk Entry row.actions (with_session Entry row.after body)).body
entry_tick_free desk body _ _ (asks is two) r = record { read = r.read }
entry_tick_free desk body _ _ (gives_up_handshake {role = role} is) r = shut_free desk role body (intake_row body.intake in_input.Closed)
entry_tick_free desk body _ _ (gives_up_standing {role = role} is alive) r = shut_free desk role body (intake_row body.intake in_input.Closed)
entry_tick_free desk body _ _ (waits_in_handshake is also) r = record { read = r.read }
entry_tick_free desk body _ _ (waits_standing is also) r = record { read = r.read }

tick_free : {us : List Sensed} (desk : Desk) (side : Side) (body : Machine) (row : Option SessionRow) → session_row (session_at side body) tick ≡ row → IsFreeRead us body → IsFreeRead us (session_did desk side row body).body
tick_free desk side body None is r = r
tick_free desk Entry body (Some row) is r = entry_tick_free desk body body.entry.session row (session_row_is body.entry.session tick row is) r
tick_free desk Exit body (Some row) is r = exit_tick_free desk body body.exit.session row (session_row_is body.exit.session tick row is) r

both_tick_free : {us : List Sensed} (desk : Desk) (body : Machine) → IsFreeRead us body → IsFreeRead us (both_tick desk body).body
both_tick_free desk body r =
    let one : Machine = (ticks desk Entry body).body in
    tick_free desk Exit one (session_row (session_at Exit one) tick) refl (tick_free desk Entry body (session_row (session_at Entry body) tick) refl r)

exit_end_free : {us : List Sensed} (desk : Desk) (body : Machine) (s : SessionEnd) (row : SessionRow) → IsSessionRow s to_shut_down row → IsFreeRead us body
    → IsFreeRead us (actions_did desk Exit row.actions (with_session Exit row.after body)).body
exit_end_free desk body _ _ (row_shuts_down {role = role} is) r = half_free desk Exit role body r

entry_end_free : {us : List Sensed} (desk : Desk) (body : Machine) (s : SessionEnd) (row : SessionRow) → IsSessionRow s to_shut_down row
    → IsFreeRead us (actions_did desk Entry row.actions (with_session Entry row.after body)).body
entry_end_free desk body _ _ (row_shuts_down {role = role} is) = shut_free desk role body (intake_row body.intake in_input.Closed)

end_free : {us : List Sensed} (desk : Desk) (side : Side) (body : Machine) (row : Option SessionRow) → session_row (session_at side body) to_shut_down ≡ row → IsFreeRead us body → IsFreeRead us (session_did desk side row body).body
end_free desk side body None is r = r
end_free desk Entry body (Some row) is r = entry_end_free desk body body.entry.session row (session_row_is body.entry.session to_shut_down row is)
end_free desk Exit body (Some row) is r = exit_end_free desk body body.exit.session row (session_row_is body.exit.session to_shut_down row is) r

both_end_free : {us : List Sensed} (desk : Desk) (body : Machine) → IsFreeRead us body → IsFreeRead us (both_shut_down desk body).body
both_end_free desk body r =
    let one : Machine = (shuts_down desk Entry body).body in
    end_free desk Exit one (session_row (session_at Exit one) to_shut_down) refl (end_free desk Entry body (session_row (session_at Entry body) to_shut_down) refl r)

-- ---- a level of the segment is set

tells_free : {us : List Sensed} (line : SegmentLine) (on : Bool) (body : Machine) → IsFreeRead us body → IsFreeRead us (tells_level line on body).body
tells_free Ready on body r = wills_free Entry on body r
tells_free Available on body r = wills_free Exit on body r
tells_free Failed on body r = record { read = r.read }

pub kept_free : {us : List Sensed} (test : Bool) (kept : List Record) (act : Act) (body : Machine) → IsFreeRead us body → IsFreeRead us (if_kept test (record body { kept = kept }) act body).body
kept_free true kept act body r = record { read = r.read }
kept_free false kept act body r = r

fails_free : {us : List Sensed} (found : Option ℕ) (body : Machine) → IsFreeRead us body → IsFreeRead us (fails found body).body
fails_free None body r = r
fails_free (Some id) body r = kept_free (is_kept id body.kept) (with_mark id qualities.Failed body.kept) (acts.Marks id qualities.Failed) body r

-- ---- what befalls a machine, but a change by hand and a new connection

pub read_enough : {ga : Ghost} → IsReadEnough [] ga
read_enough = record { entry = none_unread; begun = all_read.begun }

-- it is the machine behind its reading; the words are the oldest messages to their side before it
did_ahead : {afar : Afar} {above : List Record} {us : List Sensed} {ga gb : Ghost} {body : Machine} {c d : Scene} (desk : Desk) (event : Event) → IsPlain event c → ((side : Side) → unheard side d ≡ unheard side c) → IsMetInTime event us → OffersOf body → IsReadEnough us ga
    → Good afar above us ga gb body d → IsFreeRead us body → GoesAhead afar above us ga gb d (event_did desk event body)
did_ahead desk _ plain_nothing leaves in_time offers n g r = record { goes = goes_not g; read = r }
did_ahead {body = body} {c = c} {d = d} desk _ (plain_words {side = side} {words = words} oldest) leaves in_time offers n g r = words_ahead desk side words (unheard side c) body d oldest in_time (leaves side) offers (follows side n) g r
did_ahead {body = body} desk _ (plain_notice {side = side}) leaves in_time offers n g r = record { goes = notices_unread desk side (follows side n) g; read = notices_free desk side (is_open side body) body r }
did_ahead {body = body} {d = d} desk _ plain_tick leaves in_time offers n g r = record { goes = both_tick_unread body d desk n.entry (record { begun = n.begun }) g; read = both_tick_free desk body r }
did_ahead {body = body} {d = d} desk _ plain_shutdown leaves in_time offers n g r = record { goes = both_shut_down_unread body d desk n.entry (record { begun = n.begun }) g; read = both_end_free desk body r }
did_ahead {body = body} desk _ (plain_fault {side = side}) leaves in_time offers n g r = record { goes = faults_unread desk side (follows side n) g; read = faults_free desk side body r }
did_ahead {body = body} desk _ (plain_will {side = side} {on = on}) leaves in_time offers n g r = record { goes = wills_go side on g; read = wills_free side on body r }
did_ahead {body = body} desk _ (plain_level {line = line} {on = on}) leaves in_time offers n g r =
    record { goes = levels_go desk line on g; read = fails_free (failed_front desk.bridge line on (tells_level line on body).body) (tells_level line on body).body (tells_free line on body r) }
did_ahead {body = body} desk _ plain_forecast leaves in_time offers n g r = record { goes = forecasts_go desk g; read = r }
did_ahead {body = body} desk _ (plain_query {barcode = barcode}) leaves in_time offers n g r = record { goes = asks_go desk barcode g; read = r }
did_ahead {body = body} desk _ (plain_supervised {what = what}) leaves in_time offers n g r = record { goes = supervises_go desk what g; read = r }

pub plain_ahead : {afar : Afar} {above : List Record} {seen rest : List Sensed} {ga gb : Ghost} (desk : Desk) (read : List Sensed) (event : Event) (body : Machine) (c : Scene) → IsPlain event c → IsMetInTime event rest → OffersOf body → IsReadEnough rest ga
    → Reads afar above seen rest ga gb desk read body c → GoesAhead afar above rest ga gb c (machine_step desk read event body)
plain_ahead desk read event body c plain in_time offers n reads =
    step_ahead desk read event body c (did_ahead desk event plain (λ side. read_leaves side desk read body c) in_time ((all_read_keeps 0 desk read body).offers offers) n reads.after reads.free)
