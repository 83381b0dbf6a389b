-- A SIDE THAT IS OFF, whose session doesn't stand and which hears no words, says in a step nothing that either half of a handover
-- hears, and stays off.
use Rattle.std.proofs.Common.{Bool, List, None, Option, Some, [], ap, false, inl, inr, refl, subst, sym, true, ℕ, ◌++◌, ◌∙◌, ◌∷◌, ◌≡◌, ◌⊎◌, if◌then◌else◌}
use Rattle.std.specs.Prelude.{slice_get, is_some, nat_eq}
use Rattle.std.proofs.lemmas.Bool.{and_parts, false≢true}
use Rattle.line_base.specs.declared.states.Role.{Role}
use Rattle.line_base.specs.declared.states.Role.TheVariants.{Downstream, Upstream}
use Rattle.line_base.specs.declared.states.Seen.{Seen}
use Rattle.line_base.specs.declared.states.Seen.TheVariants as seen
use Rattle.line_base.specs.declared.states.SensorEvent.{SensorEvent}
use Rattle.line_base.specs.declared.states.SensorEvent.TheVariants as sensor
use Rattle.line_base.specs.declared.states.Side.{Side}
use Rattle.line_base.specs.declared.states.Side.TheVariants.{Entry, Exit}
use Rattle.board_record.specs.declared.record.Record.{Record}
use Rattle.board_record.specs.declared.sensed.Sensed.{Sensed}
use Rattle.hermes_horizontal.specs.Parts.{kind_of}
use Rattle.hermes_horizontal.specs.declared.message.Horizontal.{Horizontal}
use Rattle.hermes_horizontal.specs.declared.message.Message.{Message}
use Rattle.line_base.specs.declared.states.Severity.TheVariants as severity
use Rattle.hermes_horizontal.specs.declared.message.Features.{Features}
use Rattle.hermes_horizontal.specs.declared.message.Horizontal.TheVariants as message
use Rattle.hermes_horizontal.specs.declared.message.Ping.{Ping}
use Rattle.hermes_horizontal.specs.declared.message.Ping.TheVariants as ping
use Rattle.session_core.specs.Handling.{handling_of}
use Rattle.session_core.specs.declared.handling.Handling.{Handling}
use Rattle.session_core.specs.declared.handling.Handling.TheVariants as handlings
use Rattle.session_core.specs.Acts.{nothing, one, two}
use Rattle.session_core.specs.Breach.{unexpected}
use Rattle.session_core.specs.End.{SessionEnd, at_rest, grown, in_state, is_given_up, is_standing_state, raised, taken as heard_from}
use Rattle.session_core.specs.Input.{heard, opened, second, shutdown, tick}
use Rattle.session_core.specs.Row.{SessionRow, actions_at, alive_actions, connected_row, counted, described_row, heard_row, opened_row, opening_actions, second_row, service_row, session_row, taken_row, ticked, traffic_row}
use Rattle.session_core.specs.declared.actions.Action.{Action}
use Rattle.session_core.specs.declared.actions.Action.TheVariants.{Close, Pass, Ping as Pings, Pong, SendService, Stand, Tell}
use Rattle.session_core.specs.declared.actions.Actions.{Actions}
use Rattle.session_core.specs.declared.actions.Tell.{Tell as Tells}
use Rattle.session_core.specs.declared.actions.Tell.TheVariants as told
use Rattle.session_core.specs.declared.state.SessionState.{SessionState}
use Rattle.session_core.specs.declared.state.SessionState.TheVariants.{Handshake, NotConnected, Standing}
use Rattle.handover_out.specs.Links.{is_unlinked_phase as out_unlinked}
use Rattle.handover_out.specs.Row.{OutRow, outlet_row}
use Rattle.handover_out.specs.State.{OutState, held, would_open}
use Rattle.handover_out.specs.declared.input.OutInput.TheVariants as out_input
use Rattle.handover_out.specs.declared.phase.Phase.{Phase as Out}
use Rattle.handover_out.specs.declared.phase.Phase.TheVariants as out
use Rattle.handover_in.specs.Links.{is_unlinked_phase as in_unlinked}
use Rattle.handover_in.specs.Row.{InRow, intake_row, waiting_row}
use Rattle.handover_in.specs.State.{InState, may_connect}
use Rattle.handover_in.specs.declared.input.InInput.TheVariants as in_input
use Rattle.handover_in.specs.declared.phase.Phase.{Phase as In}
use Rattle.handover_in.specs.declared.phase.Phase.TheVariants as inn
use Rattle.node_core.specs.Announces.{announces, offer, offer_by, offers_now, ready, ready_by, readies_now, revoke, revoke_by, revokes_now, start, start_by, starts_now, unready, unready_by, unreadies_now}
use Rattle.node_core.specs.Boards.{if_kept, is_kept, takes_sub}
use Rattle.node_core.specs.Bridge.{failed_front, fails, tells_level, with_level_will}
use Rattle.node_core.specs.Connect.{if_open, opens, shuts_down, ticks}
use Rattle.node_core.specs.Desk.{Desk}
use Rattle.node_core.specs.Done.{Done, and_then, behind, done}
use Rattle.node_core.specs.Event.{Accepted, Connect, Event, Fault, Forecast, Gets, Gives, Insert, Level, Mark, Sub, Nothing, Notice, Query, Remove, Replace, Second, Shutdown, Supervised, Tick, Will, Words, event_did}
use Rattle.node_core.specs.Halves.{behind_opening, ended, half_closed, intake_row_did, opening_board, outlet_row_did}
use Rattle.node_core.specs.Hears.{entry_took, entry_word, exit_took, exit_word, hears, intake_took, outlet_took, passed, rowed, side_took, taken}
use Rattle.node_core.specs.Information.{forecasts}
use Rattle.node_core.specs.Reads.{all_read, reads, saw}
use Rattle.node_core.specs.Session.{actions_did, breaches, maybe_did, session_did}
use Rattle.node_core.specs.Sides.{is_open, session_at, with_session, with_will}
use Rattle.node_core.specs.Step.{machine_step, plain_step}
use Rattle.node_core.specs.Supervising.{Answer, Ask, Supervise, Supervision, supervises, watch_of}
use Rattle.node_core.specs.Words.{all_heard, word_did}
use Rattle.node_core.specs.declared.act.Act.{Act}
use Rattle.node_core.specs.declared.act.Act.TheVariants as acts
use Rattle.node_core.specs.declared.lane.Body.{Body as Machine}
use Rattle.node_core.specs.declared.word.EntryWord.{EntryWord}
use Rattle.node_core.specs.declared.word.EntryWord.TheVariants as entries
use Rattle.node_core.specs.declared.word.ExitWord.{ExitWord}
use Rattle.node_core.specs.declared.word.ExitWord.TheVariants as exits
use Rattle.node_core.specs.declared.word.Word.{Word}
use Rattle.node_core.specs.declared.word.Word.TheVariants as words
use Rattle.smema_bridge.specs.declared.line.SegmentLine.{SegmentLine}
use Rattle.smema_bridge.specs.declared.line.SegmentLine.TheVariants as segment
use Rattle.line_base.specs.declared.states.Quality.TheVariants as qualities
use Rattle.node_core.specs.Told.{in_sends, notification, out_sends, sends}
use Rattle.handover_in.specs.declared.act.InSend.{InSend}
use Rattle.handover_out.specs.declared.act.OutSend.{OutSend}
use Rattle.law_machine_custody.proofs.Quiet.{AllActs, IsPlain, acts_more, acts_none, all_append, all_tells, intake_all, intake_says, outlet_all, outlet_says}
use Rattle.law_machine_custody.proofs.Connecting.{calling}
use Rattle.law_running_line.specs.Off.{AreMute, IsInOff, IsMute, IsOutOff, Mutes, Off, StaysOff, StillMay, more_mute, none_mute}

abbrev role_at : Side → Role
role_at Entry = Downstream
role_at Exit = Upstream

pub record Muted (side : Side) (before : Machine) (d : Done) : Type 0 where
  pub mute : AllActs (IsMute side) d.acts
  pub off : Off side d.body
  pub may : StillMay side before d.body

mute_plain : (side : Side) → IsPlain (IsMute side)
mute_plain Entry = record { reads = λ side event. tt; deeds = λ deed. tt; drives = λ side on. tt }
mute_plain Exit = record { reads = λ side event. tt; deeds = λ deed. tt; drives = λ side on. tt }

same_may : (side : Side) (before after : Machine) → after.intake ≡ before.intake → StillMay side before after
same_may Entry before after same = λ may. ap (λ (i : InState). may_connect i.phase) same ∙ may
same_may Exit before after same = tt

then_may : (side : Side) (a b c : Machine) → StillMay side a b → StillMay side b c → StillMay side a c
then_may Entry a b c one two = λ may. two (one may)
then_may Exit a b c one two = tt

mutes_not : {side : Side} {body : Machine} → Off side body → Muted side body (done body [])
mutes_not {side} {body} off = record { mute = acts_none; off = off; may = same_may side body body refl }

mutes_then : {side : Side} {body : Machine} (d : Done) (next : Machine → Done) → Muted side body d → (Off side d.body → Muted side d.body (next d.body)) → Muted side body (and_then d next)
mutes_then {side} {body} d next m later =
    let t = later m.off in
    record { mute = all_append m.mute t.mute; off = t.off; may = then_may side body d.body (next d.body).body m.may t.may }

mutes_behind : {side : Side} {body : Machine} (first : List Act) (d : Done) → AllActs (IsMute side) first → Muted side body d → Muted side body (behind first d)
mutes_behind first d mute m = record { mute = all_append mute m.mute; off = m.off; may = m.may }

-- the body before may be another with this intake
mutes_from : {side : Side} {before body : Machine} {d : Done} → body.intake ≡ before.intake → Muted side body d → Muted side before d
mutes_from {side} {before} {body} {d} same m = record { mute = m.mute; off = m.off; may = then_may side before body d.body (same_may side before body same) m.may }

not_said : (side : Side) (act : Act) → (IsMute Entry act) → (IsMute Exit act) → IsMute side act
not_said Entry act a b = a
not_said Exit act a b = b

-- ---- the rows of both halves

abbrev OutRowOff : Side → Option OutRow → Type 0
OutRowOff Entry found = Unit {0}
OutRowOff Exit None = Unit {0}
OutRowOff Exit (Some row) = (row.act.send ≡ None) × IsOutOff row.after

abbrev InRowOff : Side → In → Option InRow → Type 0
InRowOff Exit phase found = Unit {0}
InRowOff Entry phase None = Unit {0}
InRowOff Entry phase (Some row) = (row.act.send ≡ None) × IsInOff row.after × (may_connect phase ≡ true → may_connect row.after.phase ≡ true)

silent_out : {P : Act → Type 0} (desk : Desk) (kept : List Record) (send : Option OutSend) → send ≡ None → AllActs P (out_sends desk kept send)
silent_out {P} desk kept send none = subst (λ s. AllActs P (out_sends desk kept s)) (sym none) acts_none

silent_in : {P : Act → Type 0} (desk : Desk) (send : Option InSend) → send ≡ None → AllActs P (in_sends desk send)
silent_in {P} desk send none = subst (λ s. AllActs P (in_sends desk s)) (sym none) acts_none

outlet_mutes : (side : Side) (desk : Desk) (body : Machine) (found : Option OutRow) → OutRowOff side found → Off side body → Muted side body (outlet_row_did desk body found)
outlet_mutes side desk body None row off = mutes_not off
outlet_mutes Entry desk body (Some row) is off = record {
  mute = outlet_all (mute_plain Entry) desk body (Some row) (λ r found. outlet_says desk body.kept r.act.send (λ what plain. acts_more tt acts_none));
  off = record { state = off.state; entry_role = off.entry_role; exit_role = off.exit_role; half = off.half };
  may = λ may. may;
}
outlet_mutes Exit desk body (Some row) is off = record {
  mute = outlet_all (mute_plain Exit) desk body (Some row) (λ r found. silent_out desk body.kept r.act.send (ap (λ (o : OutRow). o.act.send) (some_row found) ∙ is.0));
  off = record { state = off.state; entry_role = off.entry_role; exit_role = off.exit_role; half = is.1 };
  may = tt;
}
  where
    some_row : {a b : OutRow} → Some b ≡ Some a → a ≡ b
    some_row is = cc

intake_mutes : (side : Side) (desk : Desk) (body : Machine) (found : Option InRow) → InRowOff side body.intake.phase found → Off side body → Muted side body (intake_row_did desk body found)
intake_mutes side desk body None row off = mutes_not off
intake_mutes Exit desk body (Some row) is off = record {
  mute = intake_all (mute_plain Exit) desk body (Some row) (λ r found. intake_says desk r.act.send (λ what. acts_more tt acts_none));
  off = record { state = off.state; entry_role = off.entry_role; exit_role = off.exit_role; half = off.half };
  may = tt;
}
intake_mutes Entry desk body (Some row) is off = record {
  mute = intake_all (mute_plain Entry) desk body (Some row) (λ r found. silent_in desk r.act.send (ap (λ (o : InRow). o.act.send) (some_row found) ∙ is.0));
  off = record { state = off.state; entry_role = off.entry_role; exit_role = off.exit_role; half = is.1 };
  may = is.2;
}
  where
    some_row : {a b : InRow} → Some b ≡ Some a → a ≡ b
    some_row is = cc

-- ---- an outlet that is off, when it meets what comes without a message

abbrev out_of : Out → Option ℕ → Option ℕ → Bool → OutState
out_of phase offered touched ready = record { phase = phase; offered = offered; touched = touched; ready = ready }

abbrev OutStep : Option OutRow → Type 0
OutStep found = OutRowOff Exit found

out_sensed : (phase : Out) (offered touched : Option ℕ) (ready : Bool) (event : SensorEvent) → out_unlinked phase ≡ true → offered ≡ None → OutStep (outlet_row (out_of phase offered touched ready) (out_input.Sensed event))
out_sensed out.Idle o t r sensor.Begun apart none = (refl, record { apart = refl; unsaid = none })
out_sensed out.Idle o t r sensor.Left apart none = (refl, record { apart = refl; unsaid = none })
out_sensed out.Idle o t r sensor.Full apart none = (refl, record { apart = refl; unsaid = none })
out_sensed out.Idle o t r sensor.Back apart none = (refl, record { apart = refl; unsaid = none })
out_sensed out.Idle o t r sensor.Taken apart none = (refl, record { apart = refl; unsaid = none })
out_sensed (out.Stuck board false stopped) o t r sensor.Begun apart none = (refl, record { apart = refl; unsaid = none })
out_sensed (out.Stuck board false stopped) o t r sensor.Left apart none = (refl, record { apart = refl; unsaid = none })
out_sensed (out.Stuck board false stopped) o t r sensor.Full apart none = (refl, record { apart = refl; unsaid = none })
out_sensed (out.Stuck board false stopped) o t r sensor.Back apart none = (refl, record { apart = refl; unsaid = none })
out_sensed (out.Stuck board false stopped) o t r sensor.Taken apart none = (refl, record { apart = refl; unsaid = none })
out_sensed (out.Stuck board true stopped) o t r event apart none = absurd (false≢true apart)
out_sensed (out.Moving board begun) o t r event apart none = absurd (false≢true apart)
out_sensed (out.Ended id) o t r event apart none = absurd (false≢true apart)

out_faults : (phase : Out) (offered touched : Option ℕ) (ready : Bool) → out_unlinked phase ≡ true → offered ≡ None → OutStep (outlet_row (out_of phase offered touched ready) out_input.Fault)
out_faults out.Idle o t r apart none = (refl, record { apart = refl; unsaid = none })
out_faults (out.Stuck board false stopped) o t r apart none = (refl, record { apart = refl; unsaid = none })
out_faults (out.Stuck board true stopped) o t r apart none = absurd (false≢true apart)
out_faults (out.Moving board begun) o t r apart none = absurd (false≢true apart)
out_faults (out.Ended id) o t r apart none = absurd (false≢true apart)

out_closes : (phase : Out) (offered touched : Option ℕ) (ready : Bool) → out_unlinked phase ≡ true → OutStep (outlet_row (out_of phase offered touched ready) out_input.Closed)
out_closes out.Idle o t r apart = (refl, record { apart = refl; unsaid = refl })
out_closes (out.Stuck board linked stopped) o t r apart = (refl, record { apart = refl; unsaid = refl })
out_closes (out.Moving board begun) o t r apart = absurd (false≢true apart)
out_closes (out.Ended id) o t r apart = absurd (false≢true apart)

-- ---- and an intake

abbrev in_of : In → Option Record → Bool → InState
in_of phase offer ready = record { phase = phase; offer = offer; ready = ready }

waits_on : (s : InState) (board : Record) (own : Seen) (known : Bool) → s.ready ≡ false → (phase : In) → (may_connect phase ≡ true → own ≡ seen.Incomplete → ⊥) → InRowOff Entry phase (waiting_row s board own known)
waits_on s board seen.Complete true unsaid phase may = (refl, record { apart = refl; unsaid = unsaid }, λ is. refl)
waits_on s board seen.Complete false unsaid phase may = (refl, record { apart = refl; unsaid = unsaid }, λ is. refl)
waits_on s board seen.Incomplete known unsaid phase may = (refl, record { apart = refl; unsaid = unsaid }, λ is. absurd (may is refl))
waits_on s board seen.NotStarted known unsaid phase may = (refl, record { apart = refl; unsaid = unsaid }, λ is. refl)
waits_on s board seen.Taken known unsaid phase may = (refl, record { apart = refl; unsaid = unsaid }, λ is. refl)

never_incomplete : seen.Complete ≡ seen.Incomplete → ⊥
never_incomplete is = cc

not_started_incomplete : seen.NotStarted ≡ seen.Incomplete → ⊥
not_started_incomplete is = cc

in_sensed : (phase : In) (offer : Option Record) (ready : Bool) (event : SensorEvent) → in_unlinked phase ≡ true → ready ≡ false → InRowOff Entry phase (intake_row (in_of phase offer ready) (in_input.Sensed event))
in_sensed inn.Idle o r sensor.Begun apart none = (refl, record { apart = refl; unsaid = none }, λ is. refl)
in_sensed inn.Idle o r sensor.Left apart none = (refl, record { apart = refl; unsaid = none }, λ is. refl)
in_sensed inn.Idle o r sensor.Full apart none = (refl, record { apart = refl; unsaid = none }, λ is. refl)
in_sensed inn.Idle o r sensor.Back apart none = (refl, record { apart = refl; unsaid = none }, λ is. refl)
in_sensed inn.Idle o r sensor.Taken apart none = (refl, record { apart = refl; unsaid = none }, λ is. refl)
in_sensed (inn.Waiting board own known) o r sensor.Left apart none = (refl, record { apart = refl; unsaid = none }, λ is. is)
in_sensed (inn.Waiting board seen.Complete known) o r sensor.Begun apart none = waits_on (in_of (inn.Waiting board seen.Complete known) o r) board seen.Complete known none (inn.Waiting board seen.Complete known) (λ is. never_incomplete)
in_sensed (inn.Waiting board seen.Complete known) o r sensor.Full apart none = waits_on (in_of (inn.Waiting board seen.Complete known) o r) board seen.Complete known none (inn.Waiting board seen.Complete known) (λ is. never_incomplete)
in_sensed (inn.Waiting board seen.Complete known) o r sensor.Back apart none = waits_on (in_of (inn.Waiting board seen.Complete known) o r) board seen.NotStarted known none (inn.Waiting board seen.Complete known) (λ is. not_started_incomplete)
in_sensed (inn.Waiting board seen.Complete known) o r sensor.Taken apart none = waits_on (in_of (inn.Waiting board seen.Complete known) o r) board seen.Complete known none (inn.Waiting board seen.Complete known) (λ is. never_incomplete)
in_sensed (inn.Waiting board seen.Incomplete known) o r sensor.Begun apart none = waits_on (in_of (inn.Waiting board seen.Incomplete known) o r) board seen.Incomplete known none (inn.Waiting board seen.Incomplete known) (λ is. absurd (false≢true is))
in_sensed (inn.Waiting board seen.Incomplete known) o r sensor.Full apart none = waits_on (in_of (inn.Waiting board seen.Incomplete known) o r) board seen.Complete known none (inn.Waiting board seen.Incomplete known) (λ is. absurd (false≢true is))
in_sensed (inn.Waiting board seen.Incomplete known) o r sensor.Back apart none = waits_on (in_of (inn.Waiting board seen.Incomplete known) o r) board seen.NotStarted known none (inn.Waiting board seen.Incomplete known) (λ is. absurd (false≢true is))
in_sensed (inn.Waiting board seen.Incomplete known) o r sensor.Taken apart none = waits_on (in_of (inn.Waiting board seen.Incomplete known) o r) board seen.Taken known none (inn.Waiting board seen.Incomplete known) (λ is. absurd (false≢true is))
in_sensed (inn.Waiting board seen.NotStarted known) o r sensor.Begun apart none = waits_on (in_of (inn.Waiting board seen.NotStarted known) o r) board seen.Incomplete known none (inn.Waiting board seen.NotStarted known) (λ is. absurd (false≢true is))
in_sensed (inn.Waiting board seen.NotStarted known) o r sensor.Full apart none = waits_on (in_of (inn.Waiting board seen.NotStarted known) o r) board seen.Complete known none (inn.Waiting board seen.NotStarted known) (λ is. absurd (false≢true is))
in_sensed (inn.Waiting board seen.NotStarted known) o r sensor.Back apart none = waits_on (in_of (inn.Waiting board seen.NotStarted known) o r) board seen.NotStarted known none (inn.Waiting board seen.NotStarted known) (λ is. absurd (false≢true is))
in_sensed (inn.Waiting board seen.NotStarted known) o r sensor.Taken apart none = waits_on (in_of (inn.Waiting board seen.NotStarted known) o r) board seen.NotStarted known none (inn.Waiting board seen.NotStarted known) (λ is. absurd (false≢true is))
in_sensed (inn.Waiting board seen.Taken known) o r sensor.Begun apart none = waits_on (in_of (inn.Waiting board seen.Taken known) o r) board seen.Taken known none (inn.Waiting board seen.Taken known) (λ is. absurd (false≢true is))
in_sensed (inn.Waiting board seen.Taken known) o r sensor.Full apart none = waits_on (in_of (inn.Waiting board seen.Taken known) o r) board seen.Complete known none (inn.Waiting board seen.Taken known) (λ is. absurd (false≢true is))
in_sensed (inn.Waiting board seen.Taken known) o r sensor.Back apart none = waits_on (in_of (inn.Waiting board seen.Taken known) o r) board seen.NotStarted known none (inn.Waiting board seen.Taken known) (λ is. absurd (false≢true is))
in_sensed (inn.Waiting board seen.Taken known) o r sensor.Taken apart none = waits_on (in_of (inn.Waiting board seen.Taken known) o r) board seen.Taken known none (inn.Waiting board seen.Taken known) (λ is. absurd (false≢true is))
in_sensed (inn.Taking board own known) o r event apart none = absurd (false≢true apart)
in_sensed (inn.Stopped board own known) o r event apart none = absurd (false≢true apart)

in_faults : (phase : In) (offer : Option Record) (ready : Bool) → in_unlinked phase ≡ true → ready ≡ false → InRowOff Entry phase (intake_row (in_of phase offer ready) in_input.Fault)
in_faults inn.Idle o r apart none = (refl, record { apart = refl; unsaid = none }, λ is. is)
in_faults (inn.Waiting board own known) o r apart none = (refl, record { apart = refl; unsaid = none }, λ is. is)
in_faults (inn.Taking board own known) o r apart none = absurd (false≢true apart)
in_faults (inn.Stopped board own known) o r apart none = absurd (false≢true apart)

in_closes : (phase : In) (offer : Option Record) (ready : Bool) → in_unlinked phase ≡ true → InRowOff Entry phase (intake_row (in_of phase offer ready) in_input.Closed)
in_closes inn.Idle o r apart = (refl, record { apart = refl; unsaid = refl }, λ is. is)
in_closes (inn.Waiting board own known) o r apart = (refl, record { apart = refl; unsaid = refl }, λ is. is)
in_closes (inn.Taking board own known) o r apart = absurd (false≢true apart)
in_closes (inn.Stopped board own known) o r apart = absurd (false≢true apart)

-- ---- at any side

saw_mutes : (side : Side) (desk : Desk) (at : Side) (event : SensorEvent) (body : Machine) → Off side body → Muted side body (saw desk at event body)
saw_mutes Entry desk Entry event body off =
    intake_mutes Entry desk body (intake_row body.intake (in_input.Sensed event)) (in_sensed body.intake.phase body.intake.offer body.intake.ready event off.half.apart off.half.unsaid) off
saw_mutes Exit desk Entry event body off = intake_mutes Exit desk body (intake_row body.intake (in_input.Sensed event)) tt off
saw_mutes Entry desk Exit event body off = outlet_mutes Entry desk body (outlet_row body.outlet (out_input.Sensed event)) tt off
saw_mutes Exit desk Exit event body off =
    outlet_mutes Exit desk body (outlet_row body.outlet (out_input.Sensed event)) (out_sensed body.outlet.phase body.outlet.offered body.outlet.touched body.outlet.ready event off.half.apart off.half.unsaid) off

pub read_mutes : (side : Side) (desk : Desk) (unread : List Sensed) (body : Machine) → Off side body → Muted side body (all_read desk unread body)
read_mutes side desk [] body off = mutes_not off
read_mutes side desk (sensed ∷ others) body off =
    mutes_then (reads desk sensed body) (all_read desk others)
    (mutes_behind (acts.Reads sensed.side sensed.event ∷ []) (saw desk sensed.side sensed.event body) (acts_more (not_said side (acts.Reads sensed.side sensed.event) tt tt) acts_none) (saw_mutes side desk sensed.side sensed.event body off))
    (λ now. read_mutes side desk others (reads desk sensed body).body now)

faults_mute : (side : Side) (desk : Desk) (at : Side) (body : Machine) → Off side body → Muted side body (event_did desk (Fault at) body)
faults_mute Entry desk Entry body off = intake_mutes Entry desk body (intake_row body.intake in_input.Fault) (in_faults body.intake.phase body.intake.offer body.intake.ready off.half.apart off.half.unsaid) off
faults_mute Exit desk Entry body off = intake_mutes Exit desk body (intake_row body.intake in_input.Fault) tt off
faults_mute Entry desk Exit body off = outlet_mutes Entry desk body (outlet_row body.outlet out_input.Fault) tt off
faults_mute Exit desk Exit body off =
    outlet_mutes Exit desk body (outlet_row body.outlet out_input.Fault) (out_faults body.outlet.phase body.outlet.offered body.outlet.touched body.outlet.ready off.half.apart off.half.unsaid) off

half_mutes : (side : Side) (desk : Desk) (at : Side) (body : Machine) → Off side body → Muted side body (half_closed desk at body)
half_mutes Entry desk Entry body off = intake_mutes Entry desk body (intake_row body.intake in_input.Closed) (in_closes body.intake.phase body.intake.offer body.intake.ready off.half.apart) off
half_mutes Exit desk Entry body off = intake_mutes Exit desk body (intake_row body.intake in_input.Closed) tt off
half_mutes Entry desk Exit body off = outlet_mutes Entry desk body (outlet_row body.outlet out_input.Closed) tt off
half_mutes Exit desk Exit body off =
    outlet_mutes Exit desk body (outlet_row body.outlet out_input.Closed) (out_closes body.outlet.phase body.outlet.offered body.outlet.touched body.outlet.ready off.half.apart) off

-- ---- sessions

-- the session of this or of the other side: its role, and that this side's doesn't stand
abbrev StateOff : Side → Side → SessionEnd → Type 0
StateOff Entry Entry s = s.state ≡ Standing → ⊥
StateOff Exit Exit s = s.state ≡ Standing → ⊥
StateOff Entry Exit s = Unit {0}
StateOff Exit Entry s = Unit {0}

record SessionOff (side at : Side) (s : SessionEnd) : Type 0 where
  role : s.role ≡ role_at at
  state : StateOff side at s

session_off : (side at : Side) (body : Machine) (s : SessionEnd) → SessionOff side at s → Off side body → Off side (with_session at s body)
session_off Entry Entry body s is off = record { state = is.state; entry_role = is.role; exit_role = off.exit_role; half = off.half }
session_off Exit Exit body s is off = record { state = is.state; entry_role = off.entry_role; exit_role = is.role; half = off.half }
session_off Entry Exit body s is off = record { state = off.state; entry_role = off.entry_role; exit_role = is.role; half = off.half }
session_off Exit Entry body s is off = record { state = off.state; entry_role = is.role; exit_role = off.exit_role; half = off.half }

session_is : (side at : Side) (body : Machine) → Off side body → SessionOff side at (session_at at body)
session_is Entry Entry body off = record { role = off.entry_role; state = off.state }
session_is Exit Exit body off = record { role = off.exit_role; state = off.state }
session_is Entry Exit body off = record { role = off.exit_role; state = tt }
session_is Exit Entry body off = record { role = off.entry_role; state = tt }

session_may : (at : Side) (body : Machine) (s : SessionEnd) → (with_session at s body).intake ≡ body.intake
session_may Entry body s = refl
session_may Exit body s = refl

none_stands : NotConnected ≡ Standing → ⊥
none_stands is = cc

shaking_stands : Handshake ≡ Standing → ⊥
shaking_stands is = cc

-- another state of it, or all but its state
with_state : (side at : Side) (s after : SessionEnd) → after.role ≡ s.role → (after.state ≡ Standing → ⊥) → SessionOff side at s → SessionOff side at after
with_state Entry Entry s after role off is = record { role = role ∙ is.role; state = off }
with_state Exit Exit s after role off is = record { role = role ∙ is.role; state = off }
with_state Entry Exit s after role off is = record { role = role ∙ is.role; state = tt }
with_state Exit Entry s after role off is = record { role = role ∙ is.role; state = tt }

same_state : (side at : Side) (s after : SessionEnd) → after.role ≡ s.role → after.state ≡ s.state → SessionOff side at s → SessionOff side at after
same_state Entry Entry s after role same is = record { role = role ∙ is.role; state = λ stands. is.state (sym same ∙ stands) }
same_state Exit Exit s after role same is = record { role = role ∙ is.role; state = λ stands. is.state (sym same ∙ stands) }
same_state Entry Exit s after role same is = record { role = role ∙ is.role; state = tt }
same_state Exit Entry s after role same is = record { role = role ∙ is.role; state = tt }

at_rest_off : (side at : Side) (s : SessionEnd) → SessionOff side at s → SessionOff side at (at_rest s.role)
at_rest_off side at s is = with_state side at s (at_rest s.role) refl none_stands is

ended_mutes : (side : Side) (desk : Desk) (at : Side) (body : Machine) → Off side body → Muted side body (ended desk at body)
ended_mutes side desk at body off =
    let s : SessionEnd = at_rest (session_at at body).role in
    mutes_from (session_may at body s) (half_mutes side desk at (with_session at s body) (session_off side at body s (at_rest_off side at (session_at at body) (session_is side at body off)) off))

-- what a session has done: at a side that is off nothing is said that a half hears, and no exit has its machine stand
abbrev ActionOff : Side → Side → Option Action → Type 0
ActionOff Entry Entry (Some SendService) = ⊥
ActionOff Exit Exit (Some SendService) = ⊥
ActionOff Entry Entry (Some Stand) = ⊥
ActionOff Entry Exit (Some Stand) = ⊥
ActionOff Exit Exit (Some Stand) = ⊥
ActionOff side at action = Unit {0}

action_mutes : (side : Side) (desk : Desk) (at : Side) (action : Option Action) (body : Machine) → ActionOff side at action → Off side body → Muted side body (maybe_did desk at action body)
action_mutes side desk at None body is off = mutes_not off
action_mutes Entry desk Entry (Some SendService) body is off = absurd is
action_mutes Exit desk Exit (Some SendService) body is off = absurd is
action_mutes Entry desk Exit (Some SendService) body is off = record { mute = acts_more tt acts_none; off = off; may = λ may. may }
action_mutes Exit desk Entry (Some SendService) body is off = record { mute = acts_more tt acts_none; off = off; may = tt }
action_mutes Entry desk Entry (Some (Pong id)) body is off = record { mute = acts_more refl acts_none; off = off; may = λ may. may }
action_mutes Entry desk Exit (Some (Pong id)) body is off = record { mute = acts_more tt acts_none; off = off; may = λ may. may }
action_mutes Exit desk Entry (Some (Pong id)) body is off = record { mute = acts_more tt acts_none; off = off; may = tt }
action_mutes Exit desk Exit (Some (Pong id)) body is off = record { mute = acts_more refl acts_none; off = off; may = tt }
action_mutes Entry desk Entry (Some (Pings n)) body is off = record { mute = acts_more refl acts_none; off = off; may = λ may. may }
action_mutes Entry desk Exit (Some (Pings n)) body is off = record { mute = acts_more tt acts_none; off = off; may = λ may. may }
action_mutes Exit desk Entry (Some (Pings n)) body is off = record { mute = acts_more tt acts_none; off = off; may = tt }
action_mutes Exit desk Exit (Some (Pings n)) body is off = record { mute = acts_more refl acts_none; off = off; may = tt }
action_mutes Entry desk Entry (Some (Tell what)) body is off = record { mute = acts_more refl acts_none; off = off; may = λ may. may }
action_mutes Entry desk Exit (Some (Tell what)) body is off = record { mute = acts_more tt acts_none; off = off; may = λ may. may }
action_mutes Exit desk Entry (Some (Tell what)) body is off = record { mute = acts_more tt acts_none; off = off; may = tt }
action_mutes Exit desk Exit (Some (Tell what)) body is off = record { mute = acts_more refl acts_none; off = off; may = tt }
action_mutes side desk at (Some Close) body is off = mutes_behind (acts.Closes at ∷ []) (half_closed desk at body) (acts_more (not_said side (acts.Closes at) tt tt) acts_none) (half_mutes side desk at body off)
action_mutes Entry desk Entry (Some Stand) body is off = absurd is
action_mutes Exit desk Exit (Some Stand) body is off = absurd is
action_mutes Entry desk Exit (Some Stand) body is off = absurd is
action_mutes Exit desk Entry (Some Stand) body is off = intake_mutes Exit desk body (intake_row body.intake in_input.Stand) tt off
action_mutes side desk at (Some (Pass what)) body is off = mutes_not off

record ActionsOff (side at : Side) (actions : Actions) : Type 0 where
  first : ActionOff side at actions.first
  second : ActionOff side at actions.second
  third : ActionOff side at actions.third

actions_mute : (side : Side) (desk : Desk) (at : Side) (actions : Actions) (body : Machine) → ActionsOff side at actions → Off side body → Muted side body (actions_did desk at actions body)
actions_mute side desk at actions body is off =
    mutes_then (maybe_did desk at actions.first body) (λ (b : Machine). and_then (maybe_did desk at actions.second b) (maybe_did desk at actions.third)) (action_mutes side desk at actions.first body is.first off)
    (λ off1. let b1 : Machine = (maybe_did desk at actions.first body).body in
    mutes_then (maybe_did desk at actions.second b1) (maybe_did desk at actions.third) (action_mutes side desk at actions.second b1 is.second off1)
    (λ off2. action_mutes side desk at actions.third (maybe_did desk at actions.second b1).body is.third off2))

-- ---- rows of a session

record RowIs (side at : Side) (row : SessionRow) : Type 0 where
  after : SessionOff side at row.after
  actions : ActionsOff side at row.actions

abbrev RowOff : Side → Side → Option SessionRow → Type 0
RowOff side at None = Unit {0}
RowOff side at (Some row) = RowIs side at row

session_mutes : (side : Side) (desk : Desk) (at : Side) (body : Machine) (found : Option SessionRow) → RowOff side at found → Off side body → Muted side body (session_did desk at found body)
session_mutes side desk at body None row off = mutes_not off
session_mutes side desk at body (Some row) is off =
    mutes_from (session_may at body row.after) (actions_mute side desk at row.actions (with_session at row.after body) is.actions (session_off side at body row.after is.after off))

connected_off : (side at : Side) (state : SessionState) (after : SessionEnd) (actions : Actions) → SessionOff side at after → ActionsOff side at actions → RowOff side at (connected_row state after actions)
connected_off side at NotConnected after actions is done = tt
connected_off side at Handshake after actions is done = record { after = is; actions = done }
connected_off side at Standing after actions is done = record { after = is; actions = done }

no_actions : (side at : Side) → ActionsOff side at nothing
no_actions Entry Entry = record { first = tt; second = tt; third = tt }
no_actions Entry Exit = record { first = tt; second = tt; third = tt }
no_actions Exit Entry = record { first = tt; second = tt; third = tt }
no_actions Exit Exit = record { first = tt; second = tt; third = tt }

closes_only : (side at : Side) → ActionsOff side at (one Close)
closes_only Entry Entry = record { first = tt; second = tt; third = tt }
closes_only Entry Exit = record { first = tt; second = tt; third = tt }
closes_only Exit Entry = record { first = tt; second = tt; third = tt }
closes_only Exit Exit = record { first = tt; second = tt; third = tt }

pings_only : (side at : Side) (n : ℕ) → ActionsOff side at (one (Pings n))
pings_only Entry Entry n = record { first = tt; second = tt; third = tt }
pings_only Entry Exit n = record { first = tt; second = tt; third = tt }
pings_only Exit Entry n = record { first = tt; second = tt; third = tt }
pings_only Exit Exit n = record { first = tt; second = tt; third = tt }

tells_only : (side at : Side) (what : Tells) → ActionsOff side at (one (Tell what))
tells_only Entry Entry what = record { first = tt; second = tt; third = tt }
tells_only Entry Exit what = record { first = tt; second = tt; third = tt }
tells_only Exit Entry what = record { first = tt; second = tt; third = tt }
tells_only Exit Exit what = record { first = tt; second = tt; third = tt }

tells_and_closes : (side at : Side) (what : Tells) → ActionsOff side at (two (Tell what) Close)
tells_and_closes Entry Entry what = record { first = tt; second = tt; third = tt }
tells_and_closes Entry Exit what = record { first = tt; second = tt; third = tt }
tells_and_closes Exit Entry what = record { first = tt; second = tt; third = tt }
tells_and_closes Exit Exit what = record { first = tt; second = tt; third = tt }

ticked_off : (side at : Side) (s : SessionEnd) (silent : ℕ) (given asks : Bool) → SessionOff side at s
    → RowIs side at (if given then record { after = at_rest s.role; actions = one Close } else (if asks then counted s silent (grown s.pings) (one (Pings (grown s.pings))) else counted s silent s.pings nothing))
ticked_off side at s silent true asks is = record { after = at_rest_off side at s is; actions = closes_only side at }
ticked_off side at s silent false true is = record { after = same_state side at s _ refl refl is; actions = pings_only side at (grown s.pings) }
ticked_off side at s silent false false is = record { after = same_state side at s _ refl refl is; actions = no_actions side at }

tick_off : (side at : Side) (s : SessionEnd) → SessionOff side at s → RowOff side at (session_row s tick)
tick_off side at s is =
    let row : RowIs side at (ticked s (raised s.silent)) = ticked_off side at s (raised s.silent) (is_given_up s.state (raised s.silent) s.peer) (nat_eq (raised s.silent) 2) is in
    connected_off side at s.state (ticked s (raised s.silent)).after (ticked s (raised s.silent)).actions row.after row.actions

shutdown_off : (side at : Side) (s : SessionEnd) → SessionOff side at s → RowOff side at (session_row s shutdown)
shutdown_off side at s is = connected_off side at s.state (at_rest s.role) (two (Tell told.Shutdown) Close) (at_rest_off side at s is) (tells_and_closes side at told.Shutdown)

second_off : (side at : Side) (role : Role) (s : SessionEnd) → SessionOff side at s → RowOff side at (second_row role s)
second_off side at Upstream s is = connected_off side at s.state s (one (Tell told.AlreadyConnected)) is (tells_only side at told.AlreadyConnected)
second_off side at Downstream s is = tt

ticks_mute : (side : Side) (desk : Desk) (at : Side) (body : Machine) → Off side body → Muted side body (ticks desk at body)
ticks_mute side desk at body off = session_mutes side desk at body (session_row (session_at at body) tick) (tick_off side at (session_at at body) (session_is side at body off)) off

shuts_mute : (side : Side) (desk : Desk) (at : Side) (body : Machine) → Off side body → Muted side body (shuts_down desk at body)
shuts_mute side desk at body off = session_mutes side desk at body (session_row (session_at at body) shutdown) (shutdown_off side at (session_at at body) (session_is side at body off)) off

-- ---- the other side opens, and hears

abbrev IsOther : Side → Side → Type 0
IsOther Entry Exit = Unit {0}
IsOther Exit Entry = Unit {0}
IsOther Entry Entry = ⊥
IsOther Exit Exit = ⊥

-- at the other side the state of a session is free
other_session : (side at : Side) (s : SessionEnd) → IsOther side at → s.role ≡ role_at at → SessionOff side at s
other_session Entry Exit s other role = record { role = role; state = tt }
other_session Exit Entry s other role = record { role = role; state = tt }
other_session Entry Entry s other role = absurd other
other_session Exit Exit s other role = absurd other

-- and so are its actions, but that no exit has its machine stand: the rows of a session that hears at the other side
other_acts : (side at : Side) (actions : Actions) → IsOther side at → (at ≡ Exit → actions.first ≡ Some Stand → ⊥) → actions.second ≡ None ⊎ (actions.second ≡ Some Close) → actions.third ≡ None → ActionsOff side at actions
other_acts Entry Exit actions other none later last = record { first = by actions.first (none refl); second = closing actions.second later; third = ending actions.third last }
  where
    by : (action : Option Action) → (action ≡ Some Stand → ⊥) → ActionOff Entry Exit action
    by None not = tt
    by (Some SendService) not = tt
    by (Some (Pong id)) not = tt
    by (Some (Pings n)) not = tt
    by (Some (Tell what)) not = tt
    by (Some Close) not = tt
    by (Some Stand) not = not refl
    by (Some (Pass what)) not = tt

    closing : (action : Option Action) → (action ≡ None) ⊎ (action ≡ Some Close) → ActionOff Entry Exit action
    closing action (inl is) = subst (λ (x : Option Action). ActionOff Entry Exit x) (sym is) tt
    closing action (inr is) = subst (λ (x : Option Action). ActionOff Entry Exit x) (sym is) tt

    ending : (action : Option Action) → action ≡ None → ActionOff Entry Exit action
    ending action is = subst (λ (x : Option Action). ActionOff Entry Exit x) (sym is) tt
other_acts Exit Entry actions other none later last = record { first = by actions.first; second = by actions.second; third = by actions.third }
  where
    by : (action : Option Action) → ActionOff Exit Entry action
    by None = tt
    by (Some SendService) = tt
    by (Some (Pong id)) = tt
    by (Some (Pings n)) = tt
    by (Some (Tell what)) = tt
    by (Some Close) = tt
    by (Some Stand) = tt
    by (Some (Pass what)) = tt
other_acts Entry Entry actions other none later last = absurd other
other_acts Exit Exit actions other none later last = absurd other

-- what a session hears, by its role: at an entry nothing is asked of the row, at an exit that it doesn't stand
abbrev HeardOff : Role → SessionEnd → Option SessionRow → Type 0
HeardOff role s None = Unit {0}
HeardOff Downstream s (Some row) = row.after.role ≡ s.role
HeardOff Upstream s (Some row) = (row.after.role ≡ s.role) × (row.actions.first ≡ Some Stand → ⊥) × ((row.actions.second ≡ None) ⊎ (row.actions.second ≡ Some Close)) × (row.actions.third ≡ None)

connected_hears : (role : Role) (s : SessionEnd) (state : SessionState) (after : SessionEnd) (actions : Actions) → after.role ≡ s.role → (actions.first ≡ Some Stand → ⊥) → actions.second ≡ None → actions.third ≡ None → HeardOff role s (connected_row state after actions)
connected_hears role s NotConnected after actions same none later last = tt
connected_hears Upstream s Handshake after actions same none later last = (same, none, inl later, last)
connected_hears Upstream s Standing after actions same none later last = (same, none, inl later, last)
connected_hears Downstream s Handshake after actions same none later last = same
connected_hears Downstream s Standing after actions same none later last = same

service_hears : (role : Role) (s : SessionEnd) (features : Features) (unsettled : Bool) (state : SessionState) → s.role ≡ role → HeardOff role s (service_row state s features unsettled)
service_hears role s features unsettled NotConnected is = tt
service_hears role s features unsettled Standing is = tt
service_hears Upstream s features unsettled Handshake is = subst (λ (r : Role). HeardOff Upstream s (described_row r s features unsettled)) (sym is) (by unsettled)
  where
    by : (unsettled : Bool) → HeardOff Upstream s (described_row Upstream s features unsettled)
    by false = (refl, (λ never. cc), inl refl, refl)
    by true = (refl, (λ never. cc), inr refl, refl)
service_hears Downstream s features unsettled Handshake is = subst (λ (r : Role). HeardOff Downstream s (described_row r s features unsettled)) (sym is) refl

traffic_hears : (role : Role) (s : SessionEnd) (what : Horizontal) (state : SessionState) → HeardOff role s (traffic_row state s what)
traffic_hears role s what NotConnected = tt
traffic_hears role s what Handshake = tt
traffic_hears role s what Standing = by role (handling_of (kind_of what) s.role)
  where
    by : (role : Role) (how : Handling) → HeardOff role s (taken_row s (actions_at how what))
    by Upstream handlings.Pass = (refl, (λ never. cc), inl refl, refl)
    by Downstream handlings.Pass = refl
    by role handlings.Refuse = tt

alive_first : (ping : Option Ping) (id : Option (List ℕ)) → (alive_actions ping id).first ≡ Some Stand → ⊥
alive_first None id is = cc
alive_first (Some ping.Ask) id is = cc
alive_first (Some ping.Answer) id is = cc

alive_second : (ping : Option Ping) (id : Option (List ℕ)) → (alive_actions ping id).second ≡ None
alive_second None id = refl
alive_second (Some ping.Ask) id = refl
alive_second (Some ping.Answer) id = refl

alive_third : (ping : Option Ping) (id : Option (List ℕ)) → (alive_actions ping id).third ≡ None
alive_third None id = refl
alive_third (Some ping.Ask) id = refl
alive_third (Some ping.Answer) id = refl

heard_off : (role : Role) (s : SessionEnd) (what : Horizontal) (unsettled : Bool) → s.role ≡ role → HeardOff role s (heard_row s what unsettled)
heard_off role s (message.CheckAlive ping id) unsettled is = connected_hears role s s.state (heard_from s) (alive_actions ping id) refl (alive_first ping id) (alive_second ping id) (alive_third ping id)
heard_off role s (message.ServiceDescription service) unsettled is = service_hears role s service.features unsettled s.state is
heard_off role s (message.Notification code severity text) unsettled is = connected_hears role s s.state (heard_from s) nothing refl (λ never. cc) refl refl
heard_off role s (message.Other name) unsettled is = connected_hears role s s.state (heard_from s) nothing refl (λ never. cc) refl refl
heard_off role s (message.BoardAvailable board) unsettled is = traffic_hears role s (message.BoardAvailable board) s.state
heard_off role s message.RevokeBoardAvailable unsettled is = traffic_hears role s message.RevokeBoardAvailable s.state
heard_off role s (message.TransportFinished state id) unsettled is = traffic_hears role s (message.TransportFinished state id) s.state
heard_off role s (message.MachineReady quality) unsettled is = traffic_hears role s (message.MachineReady quality) s.state
heard_off role s message.RevokeMachineReady unsettled is = traffic_hears role s message.RevokeMachineReady s.state
heard_off role s (message.StartTransport id) unsettled is = traffic_hears role s (message.StartTransport id) s.state
heard_off role s (message.StopTransport state id) unsettled is = traffic_hears role s (message.StopTransport state id) s.state
heard_off role s (message.BoardForecast info) unsettled is = traffic_hears role s (message.BoardForecast info) s.state
heard_off role s (message.QueryBoardInfo top bottom) unsettled is = traffic_hears role s (message.QueryBoardInfo top bottom) s.state
heard_off role s (message.SendBoardInfo info) unsettled is = traffic_hears role s (message.SendBoardInfo info) s.state

heard_row_off : (side at : Side) (s : SessionEnd) (found : Option SessionRow) → IsOther side at → s.role ≡ role_at at → HeardOff (role_at at) s found → RowOff side at found
heard_row_off side at s None other role is = tt
heard_row_off Entry Exit s (Some row) other role is = record { after = other_session Entry Exit row.after other (is.0 ∙ role); actions = other_acts Entry Exit row.actions other (λ at_exit. is.1) is.2 is.3 }
heard_row_off Exit Entry s (Some row) other role is = record { after = other_session Exit Entry row.after other (is ∙ role); actions = any_acts row.actions }
  where
    any_act : (action : Option Action) → ActionOff Exit Entry action
    any_act None = tt
    any_act (Some SendService) = tt
    any_act (Some (Pong id)) = tt
    any_act (Some (Pings n)) = tt
    any_act (Some (Tell what)) = tt
    any_act (Some Close) = tt
    any_act (Some Stand) = tt
    any_act (Some (Pass what)) = tt

    any_acts : (actions : Actions) → ActionsOff Exit Entry actions
    any_acts actions = record { first = any_act actions.first; second = any_act actions.second; third = any_act actions.third }
heard_row_off Entry Entry s (Some row) other role is = absurd other
heard_row_off Exit Exit s (Some row) other role is = absurd other

-- what the half of the other side makes of a message
abbrev Leads : Side → Machine → Option Done → Type 0
Leads side body None = Unit {0}
Leads side body (Some did) = Muted side body did

-- whatever an outlet does beside an entry that is off, and an intake beside an exit
out_leads : (desk : Desk) (before body : Machine) (found : Option OutRow) → body.intake ≡ before.intake → Off Entry body → Leads Entry before (outlet_took desk body found)
out_leads desk before body None same off = tt
out_leads desk before body (Some row) same off = mutes_from same (outlet_mutes Entry desk body (Some row) tt off)

in_leads : (desk : Desk) (body : Machine) (found : Option InRow) → Off Exit body → Leads Exit body (intake_took desk body found)
in_leads desk body None off = tt
in_leads desk body (Some row) off = intake_mutes Exit desk body (Some row) tt off

kept_off : (side : Side) (kept : List Record) (body : Machine) → Off side body → Off side (record body { kept = kept })
kept_off Entry kept body off = record { state = off.state; entry_role = off.entry_role; exit_role = off.exit_role; half = off.half }
kept_off Exit kept body off = record { state = off.state; entry_role = off.entry_role; exit_role = off.exit_role; half = off.half }

said_beside : (desk : Desk) (what : Horizontal) (body : Machine) → Off Entry body → Muted Entry body (done body (sends desk Exit what))
said_beside desk what body off =
    let mute : AllActs (IsMute Entry) (sends desk Exit what) = acts_more tt acts_none in
    record { mute = mute; off = off; may = λ may. may }

exit_leads : (desk : Desk) (word : ExitWord) (body : Machine) → Off Entry body → Leads Entry body (exit_took desk word body)
exit_leads desk exits.Ready body off = out_leads desk body body (outlet_row body.outlet out_input.MachineReady) refl off
exit_leads desk exits.Unready body off = out_leads desk body body (outlet_row body.outlet out_input.RevokeMachineReady) refl off
exit_leads desk (exits.Start id) body off =
    let opens_it : Bool = would_open body.outlet id in
    out_leads desk body (record body { kept = behind_opening opens_it body.kept }) (outlet_row body.outlet (out_input.Start id (opening_board opens_it body.kept))) refl (kept_off Entry (behind_opening opens_it body.kept) body off)
exit_leads desk (exits.Stop state id) body off = out_leads desk body body (outlet_row body.outlet (out_input.Stop state id)) refl off
exit_leads desk (exits.Query top bottom) body off = said_beside desk _ body off
exit_leads desk exits.Nothing body off = mutes_not off

entry_leads : (desk : Desk) (word : EntryWord) (body : Machine) → Off Exit body → Leads Exit body (entry_took desk word body)
entry_leads desk (entries.Available board) body off = in_leads desk body (intake_row body.intake (in_input.BoardAvailable board)) off
entry_leads desk entries.Revoked body off = in_leads desk body (intake_row body.intake in_input.RevokeBoardAvailable) off
entry_leads desk (entries.Finished state id) body off = in_leads desk body (intake_row body.intake (in_input.Finished state id)) off
entry_leads desk entries.Nothing body off = mutes_not off

side_leads : (side : Side) (desk : Desk) (at : Side) (what : Horizontal) (body : Machine) → IsOther side at → Off side body → Leads side body (side_took desk at what body)
side_leads Entry desk Exit what body other off = exit_leads desk (exit_word what) body off
side_leads Exit desk Entry what body other off = entry_leads desk (entry_word what) body off
side_leads Entry desk Entry what body other off = absurd other
side_leads Exit desk Exit what body other off = absurd other

-- acts that name the other side
notified : (side at : Side) (desk : Desk) (text : List ℕ) → IsOther side at → AllActs (IsMute side) (acts.Breaches at text ∷ (sends desk at (notification 1 severity.Fatal text) ++ acts.Closes at ∷ []))
notified Entry Exit desk text other = acts_more tt (acts_more tt (acts_more tt acts_none))
notified Exit Entry desk text other = acts_more tt (acts_more tt (acts_more tt acts_none))
notified Entry Entry desk text other = absurd other
notified Exit Exit desk text other = absurd other

breaches_mute : (side : Side) (desk : Desk) (at : Side) (text : List ℕ) (body : Machine) → IsOther side at → Off side body → Muted side body (breaches desk at text body)
breaches_mute side desk at text body other off = mutes_behind _ (ended desk at body) (notified side at desk text other) (ended_mutes side desk at body off)

passed_mutes : (side : Side) (desk : Desk) (at : Side) (m : Message) (body : Machine) (found : Option Done) → IsOther side at → Off side body → Leads side body found → Muted side body (passed desk at m body found)
passed_mutes side desk at m body None other off leads = breaches_mute side desk at (unexpected (kind_of m.body)) body other off
passed_mutes side desk at m body (Some did) other off leads = mutes_behind (acts.Hears at m ∷ []) did (acts_more (not_said side (acts.Hears at m) (entry_hears at m) (exit_hears at m)) acts_none) leads
  where
    entry_hears : (at : Side) (m : Message) → IsMute Entry (acts.Hears at m)
    entry_hears at m = tt

    exit_hears : (at : Side) (m : Message) → IsMute Exit (acts.Hears at m)
    exit_hears at m = tt

heard_mutes : (side : Side) (desk : Desk) (at : Side) (m : Message) (actions : Actions) (body : Machine) → ActionsOff side at actions → Off side body → Muted side body (behind (acts.Hears at m ∷ []) (actions_did desk at actions body))
heard_mutes side desk at m actions body is off = mutes_behind (acts.Hears at m ∷ []) (actions_did desk at actions body) (acts_more (not_said side (acts.Hears at m) tt tt) acts_none) (actions_mute side desk at actions body is off)

taken_mutes : (side : Side) (desk : Desk) (at : Side) (m : Message) (first : Option Action) (actions : Actions) (body : Machine) → IsOther side at → ActionsOff side at actions → Off side body → Muted side body (taken desk at m first actions body)
taken_mutes side desk at m None actions body other is off = heard_mutes side desk at m actions body is off
taken_mutes side desk at m (Some SendService) actions body other is off = heard_mutes side desk at m actions body is off
taken_mutes side desk at m (Some (Pong id)) actions body other is off = heard_mutes side desk at m actions body is off
taken_mutes side desk at m (Some (Pings n)) actions body other is off = heard_mutes side desk at m actions body is off
taken_mutes side desk at m (Some (Tell what)) actions body other is off = heard_mutes side desk at m actions body is off
taken_mutes side desk at m (Some Close) actions body other is off = heard_mutes side desk at m actions body is off
taken_mutes side desk at m (Some Stand) actions body other is off = heard_mutes side desk at m actions body is off
taken_mutes side desk at m (Some (Pass what)) actions body other is off = passed_mutes side desk at m body (side_took desk at what body) other off (side_leads side desk at what body other off)

rowed_mutes : (side : Side) (desk : Desk) (at : Side) (m : Message) (body : Machine) (found : Option SessionRow) → IsOther side at → RowOff side at found → Off side body → Muted side body (rowed desk at m body found)
rowed_mutes side desk at m body None other row off = breaches_mute side desk at (unexpected (kind_of m.body)) body other off
rowed_mutes side desk at m body (Some row) other is off =
    mutes_from (session_may at body row.after) (taken_mutes side desk at m row.actions.first row.actions (with_session at row.after body) other is.actions (session_off side at body row.after is.after off))

role_of : (side at : Side) (body : Machine) → Off side body → (session_at at body).role ≡ role_at at
role_of side Entry body off = off.entry_role
role_of side Exit body off = off.exit_role

hears_mute : (side : Side) (desk : Desk) (at : Side) (m : Message) (body : Machine) → IsOther side at → Off side body → Muted side body (hears desk at m body)
hears_mute side desk at m body other off =
    let s : SessionEnd = session_at at body in
    let unsettled : Bool = is_some (held body.outlet) in
    rowed_mutes side desk at m body (session_row s (heard m.body unsettled)) other
    (heard_row_off side at s (session_row s (heard m.body unsettled)) other (role_of side at body off) (heard_off (role_at at) s m.body unsettled (role_of side at body off))) off

word_mutes : (side : Side) (desk : Desk) (at : Side) (word : Word) (body : Machine) → IsOther side at → Off side body → Muted side body (word_did desk at word body)
word_mutes side desk at (words.Says m) body other off = hears_mute side desk at m body other off
word_mutes side desk at (words.Wrong text) body other off = breaches_mute side desk at text body other off

if_mutes : {side : Side} (test : Bool) (d : Done) (body : Machine) → Off side body → Muted side body d → Muted side body (if_open test d body)
if_mutes true d body off m = m
if_mutes false d body off m = mutes_not off

words_mute : (side : Side) (desk : Desk) (at : Side) (spoken : List Word) (body : Machine) → IsOther side at → Off side body → Muted side body (all_heard desk at spoken body)
words_mute side desk at [] body other off = mutes_not off
words_mute side desk at (word ∷ others) body other off =
    if_mutes (is_open at body) (and_then (word_did desk at word body) (all_heard desk at others)) body off
    (mutes_then (word_did desk at word body) (all_heard desk at others) (word_mutes side desk at word body other off) (λ now. words_mute side desk at others (word_did desk at word body).body other now))

-- ---- the announcements

revoke_mutes : (side : Side) (desk : Desk) (test : Bool) (body : Machine) → revokes_now body ≡ test → Off side body → Muted side body (revoke_by desk test body)
revoke_mutes Entry desk true body is off = outlet_mutes Entry desk body (outlet_row body.outlet out_input.Revoke) tt off
revoke_mutes Exit desk true body is off = absurd (false≢true (ap is_some (sym off.half.unsaid) ∙ (and_parts _ _ (and_parts _ _ is).0).1))
revoke_mutes side desk false body is off = mutes_not off

unready_mutes : (side : Side) (desk : Desk) (test : Bool) (body : Machine) → unreadies_now desk body ≡ test → Off side body → Muted side body (unready_by desk test body)
unready_mutes Exit desk true body is off = intake_mutes Exit desk body (intake_row body.intake in_input.Unready) tt off
unready_mutes Entry desk true body is off = absurd (false≢true (sym off.half.unsaid ∙ (and_parts _ _ (and_parts _ _ is).0).1))
unready_mutes side desk false body is off = mutes_not off

standing_of : (state : SessionState) → is_standing_state state ≡ true → state ≡ Standing
standing_of NotConnected is = absurd (false≢true is)
standing_of Handshake is = absurd (false≢true is)
standing_of Standing is = refl

offer_mutes : (side : Side) (desk : Desk) (test : Bool) (front : Option Record) (body : Machine) → offers_now body ≡ test → Off side body → Muted side body (offer_by desk test front body)
offer_mutes Entry desk true (Some front) body is off = outlet_mutes Entry desk body (outlet_row body.outlet (out_input.Offer front.id)) tt off
offer_mutes Exit desk true (Some front) body is off = absurd (off.state (standing_of body.exit.session.state (and_parts _ _ (and_parts _ _ (and_parts _ _ is).0).0).0))
offer_mutes side desk true None body is off = mutes_not off
offer_mutes side desk false front body is off = mutes_not off

ready_mutes : (side : Side) (desk : Desk) (test : Bool) (body : Machine) → readies_now desk body ≡ test → Off side body → Muted side body (ready_by desk test body)
ready_mutes Exit desk true body is off = intake_mutes Exit desk body (intake_row body.intake in_input.Ready) tt off
ready_mutes Entry desk true body is off = absurd (off.state (standing_of body.entry.session.state (and_parts _ _ (and_parts _ _ (and_parts _ _ (and_parts _ _ is).0).0).0).0))
ready_mutes side desk false body is off = mutes_not off

start_mutes : (side : Side) (desk : Desk) (test : Bool) (body : Machine) → starts_now body ≡ test → Off side body → Muted side body (start_by desk test body)
start_mutes Exit desk true body is off = intake_mutes Exit desk body (intake_row body.intake in_input.Start) tt off
start_mutes Entry desk true body is off = absurd (off.state (standing_of body.entry.session.state (and_parts _ _ (and_parts _ _ (and_parts _ _ is).0).0).0))
start_mutes side desk false body is off = mutes_not off

pub announces_mute : (side : Side) (desk : Desk) (body : Machine) → Off side body → Muted side body (announces desk body)
announces_mute side desk body off =
    mutes_then (revoke desk body) (λ one. and_then (unready desk one) (λ two. and_then (offer desk two) (λ three. and_then (ready desk three) (start desk)))) (revoke_mutes side desk (revokes_now body) body refl off)
    (λ off1. let one : Machine = (revoke desk body).body in
    mutes_then (unready desk one) (λ two. and_then (offer desk two) (λ three. and_then (ready desk three) (start desk))) (unready_mutes side desk (unreadies_now desk one) one refl off1)
    (λ off2. let two : Machine = (unready desk one).body in
    mutes_then (offer desk two) (λ three. and_then (ready desk three) (start desk)) (offer_mutes side desk (offers_now two) (slice_get two.kept 0) two refl off2)
    (λ off3. let three : Machine = (offer desk two).body in
    mutes_then (ready desk three) (start desk) (ready_mutes side desk (readies_now desk three) three refl off3)
    (λ off4. let four : Machine = (ready desk three).body in
    start_mutes side desk (starts_now four) four refl off4))))

if_kept_mutes : (side : Side) (test : Bool) (kept : List Record) (body : Machine) (act : Act) → IsMute Entry act → IsMute Exit act → Off side body → Muted side body (if_kept test (record body { kept = kept }) act body)
if_kept_mutes side true kept body act a b off = record { mute = acts_more (not_said side act a b) acts_none; off = kept_off side kept body off; may = same_may side body (record body { kept = kept }) refl }
if_kept_mutes side false kept body act a b off = mutes_not off

will_off : (side at : Side) (on : Bool) (body : Machine) → Off side body → Off side (with_will at on body)
will_off Entry Entry on body off = record { state = off.state; entry_role = off.entry_role; exit_role = off.exit_role; half = off.half }
will_off Entry Exit on body off = record { state = off.state; entry_role = off.entry_role; exit_role = off.exit_role; half = off.half }
will_off Exit Entry on body off = record { state = off.state; entry_role = off.entry_role; exit_role = off.exit_role; half = off.half }
will_off Exit Exit on body off = record { state = off.state; entry_role = off.entry_role; exit_role = off.exit_role; half = off.half }

will_may : (at : Side) (on : Bool) (body : Machine) → (with_will at on body).intake ≡ body.intake
will_may Entry on body = refl
will_may Exit on body = refl

level_off : (side : Side) (line : SegmentLine) (on : Bool) (body : Machine) → Off side body → Off side (with_level_will line on body)
level_off side segment.Ready on body off = will_off side Entry on body off
level_off side segment.Available on body off = will_off side Exit on body off
level_off side segment.Failed on body off = off

level_may : (line : SegmentLine) (on : Bool) (body : Machine) → (with_level_will line on body).intake ≡ body.intake
level_may segment.Ready on body = will_may Entry on body
level_may segment.Available on body = will_may Exit on body
level_may segment.Failed on body = refl

fails_mute : (side : Side) (found : Option ℕ) (body : Machine) → Off side body → Muted side body (fails found body)
fails_mute side None body off = mutes_not off
fails_mute side (Some id) body off = if_kept_mutes side (is_kept id body.kept) _ body (acts.Marks id qualities.Failed) tt tt off

forecast_mutes : (side : Side) (desk : Desk) (front : Option Record) → AllActs (IsMute side) (forecasts desk front)
forecast_mutes side desk None = acts_none
forecast_mutes Entry desk (Some board) = acts_more tt acts_none
forecast_mutes Exit desk (Some board) = acts_more refl acts_none

query_mutes : (side : Side) (desk : Desk) (barcode : List ℕ) → AllActs (IsMute side) (sends desk Entry (message.QueryBoardInfo (Some barcode) None))
query_mutes Entry desk barcode = acts_more refl acts_none
query_mutes Exit desk barcode = acts_more tt acts_none

supervision_mutes : (side : Side) (desk : Desk) (what : Supervision) (body : Machine) → AllActs (IsMute side) (supervises desk what body).acts
supervision_mutes Entry desk (Supervise on) body = acts_more tt acts_none
supervision_mutes Exit desk (Supervise on) body = acts_more tt acts_none
supervision_mutes Entry desk (Ask question) body = acts_more tt acts_none
supervision_mutes Exit desk (Ask question) body = acts_more tt acts_none
supervision_mutes Entry desk (Answer query order) body = acts_more tt acts_none
supervision_mutes Exit desk (Answer query order) body = acts_more tt acts_none

-- the entry of a machine finds its connection made, and its exit takes one
entry_opens : (s : SessionEnd) → s.role ≡ Downstream → RowOff Exit Entry (session_row s opened)
entry_opens s role = by s.state
  where
    by : (state : SessionState) → RowOff Exit Entry (opened_row state s)
    by NotConnected = record { after = record { role = role; state = tt }; actions = acts_of s.role }
      where
        acts_of : (r : Role) → ActionsOff Exit Entry (opening_actions r)
        acts_of Downstream = record { first = tt; second = tt; third = tt }
        acts_of Upstream = record { first = tt; second = tt; third = tt }
    by Handshake = tt
    by Standing = tt

exit_opens : (side : Side) (s : SessionEnd) → s.role ≡ Upstream → RowOff side Exit (session_row s opened)
exit_opens side s role = by s.state
  where
    acts_of : (r : Role) → r ≡ Upstream → ActionsOff side Exit (opening_actions r)
    acts_of Upstream is = no_actions side Exit
    acts_of Downstream is = absurd (never is)
      where
        never : Downstream ≡ Upstream → ⊥
        never is = cc

    after_of : (side : Side) → SessionOff side Exit (in_state (at_rest s.role) Handshake)
    after_of Entry = record { role = role; state = tt }
    after_of Exit = record { role = role; state = shaking_stands }

    by : (state : SessionState) → RowOff side Exit (opened_row state s)
    by NotConnected = record { after = after_of side; actions = acts_of s.role role }
    by Handshake = tt
    by Standing = tt

event_mutes : (side : Side) (desk : Desk) (event : Event) (body : Machine) → StaysOff side event → Off side body → Muted side body (event_did desk event body)
event_mutes side desk Nothing body stays off = mutes_not off
event_mutes Entry desk Connect body stays off = absurd stays
event_mutes Exit desk Connect body stays off =
    mutes_behind (acts.Connects ∷ []) (opens desk Entry body) (acts_more tt acts_none) (session_mutes Exit desk Entry body (session_row (session_at Entry body) opened) (entry_opens (session_at Entry body) off.entry_role) off)
event_mutes side desk Accepted body stays off = session_mutes side desk Exit body (session_row (session_at Exit body) opened) (exit_opens side (session_at Exit body) off.exit_role) off
event_mutes side desk Second body stays off = session_mutes side desk Exit body (session_row (session_at Exit body) second) (second_off side Exit (session_at Exit body).role (session_at Exit body) (session_is side Exit body off)) off
event_mutes Entry desk (Words Entry spoken) body stays off = absurd stays
event_mutes Exit desk (Words Exit spoken) body stays off = absurd stays
event_mutes Entry desk (Words Exit spoken) body stays off = words_mute Entry desk Exit spoken body tt off
event_mutes Exit desk (Words Entry spoken) body stays off = words_mute Exit desk Entry spoken body tt off
event_mutes side desk (Notice at) body stays off =
    if_mutes (is_open at body) (behind (acts.Notices at ∷ []) (ended desk at body)) body off (mutes_behind (acts.Notices at ∷ []) (ended desk at body) (acts_more (not_said side (acts.Notices at) tt tt) acts_none) (ended_mutes side desk at body off))
event_mutes side desk Tick body stays off = mutes_then (ticks desk Entry body) (ticks desk Exit) (ticks_mute side desk Entry body off) (λ now. ticks_mute side desk Exit (ticks desk Entry body).body now)
event_mutes side desk Shutdown body stays off = mutes_then (shuts_down desk Entry body) (shuts_down desk Exit) (shuts_mute side desk Entry body off) (λ now. shuts_mute side desk Exit (shuts_down desk Entry body).body now)
event_mutes side desk (Fault at) body stays off = faults_mute side desk at body off
event_mutes side desk (Will at on) body stays off = record { mute = acts_more (not_said side _ tt tt) acts_none; off = will_off side at on body off; may = same_may side body (with_will at on body) (will_may at on body) }
event_mutes side desk (Level line on) body stays off =
    mutes_then (tells_level line on body) (λ one. fails (failed_front desk.bridge line on one) one)
    (record { mute = acts_more (not_said side _ tt tt) acts_none; off = level_off side line on body off; may = same_may side body (with_level_will line on body) (level_may line on body) })
    (λ now. let b : Machine = (tells_level line on body).body in fails_mute side (failed_front desk.bridge line on b) b now)
event_mutes side desk (Insert id barcode) body stays off = record { mute = acts_more (not_said side (acts.Inserts id) tt tt) acts_none; off = kept_off side _ body off; may = same_may side body _ refl }
event_mutes side desk (Remove id) body stays off = if_kept_mutes side (is_kept id body.kept) _ body (acts.Removes id) tt tt off
event_mutes side desk (Replace old new) body stays off = if_kept_mutes side (is_kept old body.kept) _ body (acts.Replaces old new) tt tt off
event_mutes side desk (Mark id quality) body stays off = if_kept_mutes side (is_kept id body.kept) _ body (acts.Marks id quality) tt tt off
event_mutes side desk (Sub id sub) body stays off = if_kept_mutes side (takes_sub id sub body.kept) _ body (acts.Subs id sub.pos) tt tt off
event_mutes side desk (Gives id to) body stays off = if_kept_mutes side (is_kept id body.kept) _ body (acts.Gives id to) tt tt off
event_mutes side desk (Gets board) body stays off = record { mute = acts_more (not_said side (acts.Gets board.id) tt tt) acts_none; off = kept_off side _ body off; may = same_may side body _ refl }
event_mutes side desk Forecast body stays off = record { mute = forecast_mutes side desk (slice_get body.kept 0); off = off; may = same_may side body body refl }
event_mutes side desk (Query barcode) body stays off = record { mute = query_mutes side desk barcode; off = off; may = same_may side body body refl }
event_mutes side desk (Supervised what) body stays off = record { mute = supervision_mutes side desk what body; off = off; may = same_may side body body refl }

-- THE STEP, of a side that is off
pub all_mute : {side : Side} {told : List Act} → AllActs (IsMute side) told → AreMute side told
all_mute acts_none = none_mute
all_mute (acts_more mute more) = more_mute mute (all_mute more)

pub step_mutes : (side : Side) (desk : Desk) (unread : List Sensed) (event : Event) (body : Machine) → StaysOff side event → Off side body → Mutes side body (machine_step desk unread event body)
step_mutes side desk unread event body stays off =
    let m : Muted side body (plain_step desk unread event body) =
    mutes_then (all_read desk unread body) (λ one. and_then (event_did desk event one) (announces desk)) (read_mutes side desk unread body off)
    (λ off1. let one : Machine = (all_read desk unread body).body in
    mutes_then (event_did desk event one) (announces desk) (event_mutes side desk event one stays off1) (λ off2. announces_mute side desk (event_did desk event one).body off2)) in
    record { mute = all_mute (all_tells desk (watch_of desk body) (λ message. not_said side (acts.Tells message) tt tt) m.mute); off = m.off; may = m.may }

-- an entry that shakes hands from now on
pub calling_off : (body : Machine) → Off Entry body → Off Entry (with_session Entry calling body)
calling_off body off = session_off Entry Entry body calling (record { role = refl; state = shaking_stands }) off
