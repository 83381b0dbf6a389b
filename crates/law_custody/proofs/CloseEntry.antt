-- The connection of the entry is closed: by a notice of it, a breach, a tick or a shutdown. Its machine has read that its board has begun, where it went across.
use Rattle.std.proofs.Common.{Bool, List, None, Option, Some, [], false, is_some, refl, true, unwrap_or, ℕ, ◌≡◌}
use Rattle.line_base.specs.declared.states.Seen.{Seen}
use Rattle.line_base.specs.declared.states.SensorEvent.{SensorEvent}
use Rattle.board_record.specs.declared.record.Record.{Record}
use Rattle.session_core.specs.declared.state.SessionState.{SessionState}
use Rattle.session_core.specs.declared.state.SessionState.TheVariants.{NotConnected}
use Rattle.handover_out.specs.declared.phase.Phase.{Phase as Out}
use Rattle.handover_in.specs.Row.{InRow, intake_row}
use Rattle.handover_in.specs.State.{InState, board_of_phase as held_in}
use Rattle.handover_in.specs.declared.input.InInput.TheVariants as in_input
use Rattle.handover_in.specs.declared.phase.Phase.{Phase as In}
use Rattle.handover_in.specs.declared.phase.Phase.TheVariants as inn
use Rattle.law_custody.specs.Apart.{Entry, Exit, away_none, entry_described, entry_described_waiting, entry_finish_heard, entry_finish_sent, entry_idle, entry_inside_awaited, entry_none, entry_shaking, entry_shaking_waiting, entry_stopped, entry_stopped_finish_sent, entry_transporting, entry_waits, entry_waits_heard, entry_waits_in, exit_described, exit_described_stuck, exit_finished, exit_finished_stop_sent, exit_idle, exit_stop_sent, exit_stuck, exit_stuck_stop_sent, exit_transporting}
use Rattle.law_custody.specs.Contents.{Contents, open_none}
use Rattle.law_custody.specs.Facts.{has_first}
use Rattle.law_custody.specs.Flight.{fits_across, fits_inside, readies_none}
use Rattle.law_custody.specs.Floor.{EntryFloor, in_free, in_stopped, in_taken_in, in_taking, in_waiting, in_waiting_on, is_gone, is_in, is_stolen, no_full_back, no_full_begun, no_full_none, no_full_taken, on_across, on_back, on_begun, on_full, on_gone, on_stolen, sees_across, sees_back, sees_begun, sees_fresh, sees_full, sees_gone, sees_home, sees_stolen}
use Rattle.law_custody.specs.LookBack.{Asked, Recalls, Since, asked_after, dropped_after, since_after}
use Rattle.law_custody.specs.Pair.{listed_last}
use Rattle.law_custody.specs.Place.{Place, not_across_fresh, not_across_home, not_across_in_gap, not_across_lost, not_across_stolen}
use Rattle.law_custody.specs.Shape.{finish_and_stop_sent, finish_heard, finish_sent, inside_awaited, inside_awaited_stop_sent, intake_done, no_handover, start_and_stop_sent, start_sent, stop_heard, stop_sent, stuck_stop_heard, stuck_stop_sent, stuck_transporting, transporting}
use Rattle.law_custody.specs.Steps.{EntryClosed, intake}
use Rattle.law_custody.specs.Talks.{Talks, apart, apart_start, apart_start_stop, described, described_waiting, live, shaking_idle, shaking_stuck, shaking_stuck_waiting, shaking_waiting}
use Rattle.law_custody.specs.Words.{DownWord, UpWord, starts_in}
use Rattle.law_custody.proofs.Asked.{drops_asked}
use Rattle.law_custody.proofs.Contents.{none_open, not_standing}
use Rattle.law_custody.proofs.Recalls.{shut_recalls}
use Rattle.law_custody.proofs.Unread.{ReadFirst}

-- what a close leaves of an entry, beside an outlet that holds a board or not
pub record Rests (s : InState) (un : List SensorEvent) (ed : Bool) (p : Place) (r : Record) (b : Bool) : Type 0 where
  pub row : InRow
  pub is : intake_row s in_input.Closed ≡ Some row
  pub silent : row.act.send ≡ None
  pub settles_not : row.act.keep ≡ None
  pub offerless : row.after.offer ≡ None
  pub «in» : EntryFloor row.after.phase un (unwrap_or row.act.drive ed) p r
  pub entry : Entry b NotConnected row.after.phase row.after.offer row.after.ready p []
  pub body : (ks : List Record) → listed_last s.phase p ks ≡ listed_last row.after.phase p ks
  pub recalls : (s2 : Since) → Recalls s.phase s2 → Recalls row.after.phase (since_after in_input.Closed s2)
  pub asked : (ids : List ℕ) (l : Option ℕ) (d : Bool) → Asked ids l d (is_some (held_in s.phase)) → Asked ids (asked_after row.act.deed l) (dropped_after row.act.deed d) (is_some (held_in row.after.phase))

gone_taking : {r : Record} {own : Seen} {ed : Bool} {un : List SensorEvent} {p : Place} {q : Record} (b : Bool) → ReadFirst un p → EntryFloor (inn.Taking r own false) un ed p q
    → Rests (intake (inn.Taking r own false) None false) un ed p q b
gone_taking b n (in_taking sees_fresh) =
    record { row = _; is = refl; «in» = in_free no_full_none not_across_fresh; entry = entry_none; silent = refl; settles_not = refl; offerless = refl; body = λ ks. refl; recalls = λ s k. shut_recalls s k.0; asked = λ ids l d a. drops_asked a }
gone_taking b n (in_taking sees_home) =
    record { row = _; is = refl; «in» = in_free no_full_none not_across_home; entry = entry_none; silent = refl; settles_not = refl; offerless = refl; body = λ ks. refl; recalls = λ s k. shut_recalls s k.0; asked = λ ids l d a. drops_asked a }
gone_taking b n (in_taking on_begun) =
    record { row = _; is = refl; «in» = in_waiting on_begun; entry = entry_waits; silent = refl; settles_not = refl; offerless = refl; body = λ ks. refl; recalls = λ s k. shut_recalls s k.0; asked = λ ids l d a. a }
gone_taking b n (in_taking on_across) =
    record { row = _; is = refl; «in» = in_waiting on_across; entry = entry_waits; silent = refl; settles_not = refl; offerless = refl; body = λ ks. refl; recalls = λ s k. shut_recalls s k.0; asked = λ ids l d a. a }
gone_taking b n (in_taking sees_begun) =
    record { row = _; is = refl; «in» = in_free (no_full_begun no_full_none) not_across_in_gap; entry = entry_none; silent = refl; settles_not = refl; offerless = refl; body = λ ks. refl; recalls = λ s k. shut_recalls s k.0; asked = λ ids l d a. drops_asked a }
gone_taking b n (in_taking sees_back) =
    record { row = _; is = refl; «in» = in_free (no_full_begun (no_full_back no_full_none)) not_across_home; entry = entry_none; silent = refl; settles_not = refl; offerless = refl; body = λ ks. refl; recalls = λ s k. shut_recalls s k.0; asked = λ ids l d a. drops_asked a }
gone_taking b n (in_taking sees_gone) =
    record { row = _; is = refl; «in» = in_free (no_full_begun (no_full_taken no_full_none)) not_across_lost; entry = entry_none; silent = refl; settles_not = refl; offerless = refl; body = λ ks. refl; recalls = λ s k. shut_recalls s k.0; asked = λ ids l d a. drops_asked a }
gone_taking b n (in_taking sees_across) = elim (n has_first) [ ]
gone_taking b n (in_taking on_back) =
    record { row = _; is = refl; «in» = in_waiting on_back; entry = entry_waits; silent = refl; settles_not = refl; offerless = refl; body = λ ks. refl; recalls = λ s k. shut_recalls s k.0; asked = λ ids l d a. a }
gone_taking b n (in_taking on_gone) =
    record { row = _; is = refl; «in» = in_waiting on_gone; entry = entry_waits; silent = refl; settles_not = refl; offerless = refl; body = λ ks. refl; recalls = λ s k. shut_recalls s k.0; asked = λ ids l d a. a }
gone_taking b n (in_taken_in on_full) =
    record { row = _; is = refl; «in» = in_waiting on_full; entry = entry_waits; silent = refl; settles_not = refl; offerless = refl; body = λ ks. refl; recalls = λ s k. shut_recalls s k.0; asked = λ ids l d a. a }
gone_taking b n (in_taken_in sees_full) = elim (n has_first) [ ]

gone_stopped : {r : Record} {own : Seen} {ed : Bool} {un : List SensorEvent} {p : Place} {q : Record} (b : Bool) → ReadFirst un p → EntryFloor (inn.Stopped r own None) un ed p q
    → Rests (intake (inn.Stopped r own None) None false) un ed p q b
gone_stopped b n (in_stopped sees_fresh) =
    record { row = _; is = refl; «in» = in_free no_full_none not_across_fresh; entry = entry_none; silent = refl; settles_not = refl; offerless = refl; body = λ ks. refl; recalls = λ s k. shut_recalls s k.0; asked = λ ids l d a. drops_asked a }
gone_stopped b n (in_stopped sees_home) =
    record { row = _; is = refl; «in» = in_free no_full_none not_across_home; entry = entry_none; silent = refl; settles_not = refl; offerless = refl; body = λ ks. refl; recalls = λ s k. shut_recalls s k.0; asked = λ ids l d a. drops_asked a }
gone_stopped b n (in_stopped on_begun) =
    record { row = _; is = refl; «in» = in_waiting on_begun; entry = entry_waits; silent = refl; settles_not = refl; offerless = refl; body = λ ks. refl; recalls = λ s k. shut_recalls s k.0; asked = λ ids l d a. a }
gone_stopped b n (in_stopped on_across) =
    record { row = _; is = refl; «in» = in_waiting on_across; entry = entry_waits; silent = refl; settles_not = refl; offerless = refl; body = λ ks. refl; recalls = λ s k. shut_recalls s k.0; asked = λ ids l d a. a }
gone_stopped b n (in_stopped is_in) =
    record { row = _; is = refl; «in» = in_waiting is_in; entry = entry_waits_in; silent = refl; settles_not = refl; offerless = refl; body = λ ks. refl; recalls = λ s k. shut_recalls s k.0; asked = λ ids l d a. a }
gone_stopped b n (in_stopped is_gone) =
    record { row = _; is = refl; «in» = in_free no_full_none not_across_lost; entry = entry_none; silent = refl; settles_not = refl; offerless = refl; body = λ ks. refl; recalls = λ s k. shut_recalls s k.0; asked = λ ids l d a. drops_asked a }
gone_stopped b n (in_stopped is_stolen) =
    record { row = _; is = refl; «in» = in_free no_full_none not_across_stolen; entry = entry_none; silent = refl; settles_not = refl; offerless = refl; body = λ ks. refl; recalls = λ s k. shut_recalls s k.0; asked = λ ids l d a. drops_asked a }
gone_stopped b n (in_stopped sees_begun) =
    record { row = _; is = refl; «in» = in_free (no_full_begun no_full_none) not_across_in_gap; entry = entry_none; silent = refl; settles_not = refl; offerless = refl; body = λ ks. refl; recalls = λ s k. shut_recalls s k.0; asked = λ ids l d a. drops_asked a }
gone_stopped b n (in_stopped sees_back) =
    record { row = _; is = refl; «in» = in_free (no_full_begun (no_full_back no_full_none)) not_across_home; entry = entry_none; silent = refl; settles_not = refl; offerless = refl; body = λ ks. refl; recalls = λ s k. shut_recalls s k.0; asked = λ ids l d a. drops_asked a }
gone_stopped b n (in_stopped sees_gone) =
    record { row = _; is = refl; «in» = in_free (no_full_begun (no_full_taken no_full_none)) not_across_lost; entry = entry_none; silent = refl; settles_not = refl; offerless = refl; body = λ ks. refl; recalls = λ s k. shut_recalls s k.0; asked = λ ids l d a. drops_asked a }
gone_stopped b n (in_stopped sees_across) = elim (n has_first) [ ]
gone_stopped b n (in_stopped sees_full) = elim (n has_first) [ ]
gone_stopped b n (in_stopped sees_stolen) = elim (n has_first) [ ]
gone_stopped b n (in_stopped on_back) =
    record { row = _; is = refl; «in» = in_waiting on_back; entry = entry_waits; silent = refl; settles_not = refl; offerless = refl; body = λ ks. refl; recalls = λ s k. shut_recalls s k.0; asked = λ ids l d a. a }
gone_stopped b n (in_stopped on_full) =
    record { row = _; is = refl; «in» = in_waiting on_full; entry = entry_waits; silent = refl; settles_not = refl; offerless = refl; body = λ ks. refl; recalls = λ s k. shut_recalls s k.0; asked = λ ids l d a. a }
gone_stopped b n (in_stopped on_gone) =
    record { row = _; is = refl; «in» = in_waiting on_gone; entry = entry_waits; silent = refl; settles_not = refl; offerless = refl; body = λ ks. refl; recalls = λ s k. shut_recalls s k.0; asked = λ ids l d a. a }
gone_stopped b n (in_stopped on_stolen) =
    record { row = _; is = refl; «in» = in_waiting on_stolen; entry = entry_waits; silent = refl; settles_not = refl; offerless = refl; body = λ ks. refl; recalls = λ s k. shut_recalls s k.0; asked = λ ids l d a. a }

parted : {s : InState} {un : List SensorEvent} {ed : Bool} {x : SessionState} {o : Out} {of : Option ℕ} {rd b : Bool} {p : Place} {r : Record} {up : List UpWord}
    → Rests s un ed p r b → Exit b x o of rd up → EntryClosed s un ed x o of rd p r up
parted {up = up} g e =
    record { row = g.row; is = g.is; silent = g.silent; settles_not = g.settles_not; offerless = g.offerless; «in» = g.in; talk = apart e g.entry; body = g.body; recalls = g.recalls; asked = g.asked (starts_in up) }

pub close_entry : {b : Bool} {x y : SessionState} {o : Out} {of : Option ℕ} {rd : Bool} {i : In} {f : Option Record} {ri : Bool} {p : Place} {r : Record} {up : List UpWord} {down : List DownWord} {un : List SensorEvent} {ed : Bool}
    → Talks b x o of rd y i f ri p up down → ReadFirst un p → EntryFloor i un ed p r → EntryClosed (intake i f ri) un ed x o of rd p r up
close_entry (live (no_handover a c)) n h =
    record { row = _; is = refl; «in» = h; talk = apart (exit_idle a) entry_none; silent = refl; settles_not = refl; offerless = refl; body = λ ks. refl; recalls = λ s k. shut_recalls s k.0; asked = λ l d a. a }
close_entry (live (start_sent a c)) n (in_taking sees_fresh) =
    record { row = _; is = refl; «in» = in_free no_full_none not_across_fresh; talk = apart_start a away_none; silent = refl; settles_not = refl; offerless = refl; body = λ ks. refl; recalls = λ s k. shut_recalls s k.0; asked = λ l d a. drops_asked a }
close_entry (live (start_sent a c)) n (in_taken_in s) = elim s [ ]
close_entry (live (start_and_stop_sent a c)) n (in_stopped sees_fresh) =
    record { row = _; is = refl; «in» = in_free no_full_none not_across_fresh; talk = apart_start_stop a away_none; silent = refl; settles_not = refl; offerless = refl; body = λ ks. refl; recalls = λ s k. shut_recalls s k.0; asked = λ l d a. drops_asked a }
close_entry (live (transporting c)) n h = parted (gone_taking false n h) exit_transporting
close_entry (live (stop_sent c)) n h = parted (gone_stopped false n h) exit_stop_sent
close_entry (live (stuck_transporting c)) n h = parted (gone_taking false n h) exit_stuck
close_entry (live (stuck_stop_sent c)) n h = parted (gone_stopped false n h) exit_stuck_stop_sent
close_entry (live (stuck_stop_heard c)) n h = parted (gone_stopped false n h) exit_stuck
close_entry (live (finish_sent c)) n h = parted (gone_taking true n h) exit_finished
close_entry (live (finish_and_stop_sent c)) n h = parted (gone_stopped true n h) (exit_finished_stop_sent readies_none)
close_entry (live (stop_heard c d)) n h = parted (gone_stopped true n h) (exit_idle readies_none)
close_entry (live (finish_heard fits_across)) n (in_taking on_across) =
    record { row = _; is = refl; «in» = in_waiting_on; talk = apart exit_finished (entry_waits_heard fits_across); silent = refl; settles_not = refl; offerless = refl; body = λ ks. refl; recalls = λ s k. shut_recalls s k.0; asked = λ l d a. a }
close_entry (live (finish_heard fits_across)) n (in_taking sees_across) = elim (n has_first) [ ]
close_entry (live (finish_heard fits_across)) n (in_taken_in s) = elim s [ ]
close_entry (live (finish_heard fits_inside)) n (in_taking s) = elim s [ ]
close_entry (live (finish_heard fits_inside)) n (in_taken_in on_full) =
    record { row = _; is = refl; «in» = in_waiting on_full; talk = apart exit_finished (entry_waits_heard fits_inside); silent = refl; settles_not = refl; offerless = refl; body = λ ks. refl; recalls = λ s k. shut_recalls s k.0; asked = λ l d a. a }
close_entry (live (finish_heard fits_inside)) n (in_taken_in sees_full) = elim (n has_first) [ ]
close_entry (live (intake_done a)) n h =
    record { row = _; is = refl; «in» = h; talk = apart (exit_finished_stop_sent a) entry_none; silent = refl; settles_not = refl; offerless = refl; body = λ ks. refl; recalls = λ s k. shut_recalls s k.0; asked = λ l d a. a }
close_entry (live (inside_awaited_stop_sent c)) n (in_stopped s) =
    record { row = _; is = refl; «in» = in_waiting s; talk = apart (exit_finished_stop_sent readies_none) (entry_waits_heard c); silent = refl; settles_not = refl; offerless = refl; body = λ ks. refl; recalls = λ s k. shut_recalls s k.0; asked = λ l d a. a }
close_entry (live (inside_awaited c d)) n (in_stopped s) =
    record { row = _; is = refl; «in» = in_waiting s; talk = apart (exit_idle readies_none) (entry_waits_heard c); silent = refl; settles_not = refl; offerless = refl; body = λ ks. refl; recalls = λ s k. shut_recalls s k.0; asked = λ l d a. a }
close_entry shaking_idle n h =
    record { row = _; is = refl; «in» = h; talk = apart exit_described entry_none; silent = refl; settles_not = refl; offerless = refl; body = λ ks. refl; recalls = λ s k. shut_recalls s k.0; asked = λ l d a. a }
close_entry shaking_waiting n h =
    record { row = _; is = refl; «in» = h; talk = apart exit_described entry_waits_in; silent = refl; settles_not = refl; offerless = refl; body = λ ks. refl; recalls = λ s k. shut_recalls s k.0; asked = λ l d a. a }
close_entry shaking_stuck n h =
    record { row = _; is = refl; «in» = h; talk = apart exit_described_stuck entry_none; silent = refl; settles_not = refl; offerless = refl; body = λ ks. refl; recalls = λ s k. shut_recalls s k.0; asked = λ l d a. a }
close_entry shaking_stuck_waiting n h =
    record { row = _; is = refl; «in» = h; talk = apart exit_described_stuck entry_waits_in; silent = refl; settles_not = refl; offerless = refl; body = λ ks. refl; recalls = λ s k. shut_recalls s k.0; asked = λ l d a. a }
close_entry (described c) n h =
    record { row = _; is = refl; «in» = h; talk = apart (exit_idle readies_none) entry_none; silent = refl; settles_not = refl; offerless = refl; body = λ ks. refl; recalls = λ s k. shut_recalls s k.0; asked = λ l d a. a }
close_entry (described_waiting c) n h =
    record { row = _; is = refl; «in» = h; talk = apart (exit_idle readies_none) entry_waits_in; silent = refl; settles_not = refl; offerless = refl; body = λ ks. refl; recalls = λ s k. shut_recalls s k.0; asked = λ l d a. a }
close_entry (apart_start a c) n h =
    record { row = _; is = refl; «in» = h; talk = apart_start a away_none; silent = refl; settles_not = refl; offerless = refl; body = λ ks. refl; recalls = λ s k. shut_recalls s k.0; asked = λ l d a. a }
close_entry (apart_start_stop a c) n h =
    record { row = _; is = refl; «in» = h; talk = apart_start_stop a away_none; silent = refl; settles_not = refl; offerless = refl; body = λ ks. refl; recalls = λ s k. shut_recalls s k.0; asked = λ l d a. a }
close_entry (apart a entry_none) n h =
    record { row = _; is = refl; «in» = h; talk = apart a entry_none; silent = refl; settles_not = refl; offerless = refl; body = λ ks. refl; recalls = λ s k. shut_recalls s k.0; asked = λ l d a. a }
close_entry (apart a entry_waits) n h =
    record { row = _; is = refl; «in» = h; talk = apart a entry_waits; silent = refl; settles_not = refl; offerless = refl; body = λ ks. refl; recalls = λ s k. shut_recalls s k.0; asked = λ l d a. a }
close_entry (apart a entry_waits_in) n h =
    record { row = _; is = refl; «in» = h; talk = apart a entry_waits_in; silent = refl; settles_not = refl; offerless = refl; body = λ ks. refl; recalls = λ s k. shut_recalls s k.0; asked = λ l d a. a }
close_entry (apart a (entry_waits_heard c)) n h =
    record { row = _; is = refl; «in» = h; talk = apart a (entry_waits_heard c); silent = refl; settles_not = refl; offerless = refl; body = λ ks. refl; recalls = λ s k. shut_recalls s k.0; asked = λ l d a. a }
close_entry (apart a entry_shaking) n h =
    record { row = _; is = refl; «in» = h; talk = apart a entry_none; silent = refl; settles_not = refl; offerless = refl; body = λ ks. refl; recalls = λ s k. shut_recalls s k.0; asked = λ l d a. a }
close_entry (apart a entry_shaking_waiting) n h =
    record { row = _; is = refl; «in» = h; talk = apart a entry_waits_in; silent = refl; settles_not = refl; offerless = refl; body = λ ks. refl; recalls = λ s k. shut_recalls s k.0; asked = λ l d a. a }
close_entry (apart a (entry_described c)) n h =
    record { row = _; is = refl; «in» = h; talk = apart a entry_none; silent = refl; settles_not = refl; offerless = refl; body = λ ks. refl; recalls = λ s k. shut_recalls s k.0; asked = λ l d a. a }
close_entry (apart a (entry_described_waiting c)) n h =
    record { row = _; is = refl; «in» = h; talk = apart a entry_waits_in; silent = refl; settles_not = refl; offerless = refl; body = λ ks. refl; recalls = λ s k. shut_recalls s k.0; asked = λ l d a. a }
close_entry (apart a (entry_idle c)) n h =
    record { row = _; is = refl; «in» = h; talk = apart a entry_none; silent = refl; settles_not = refl; offerless = refl; body = λ ks. refl; recalls = λ s k. shut_recalls s k.0; asked = λ l d a. a }
close_entry (apart a (entry_transporting c)) n h = parted (gone_taking _ n h) a
close_entry (apart a (entry_finish_sent c)) n h = parted (gone_taking _ n h) a
close_entry (apart a (entry_finish_heard fits_across)) n (in_taking on_across) =
    record { row = _; is = refl; «in» = in_waiting_on; talk = apart a (entry_waits_heard fits_across); silent = refl; settles_not = refl; offerless = refl; body = λ ks. refl; recalls = λ s k. shut_recalls s k.0; asked = λ l d a. a }
close_entry (apart a (entry_finish_heard fits_across)) n (in_taking sees_across) = elim (n has_first) [ ]
close_entry (apart a (entry_finish_heard fits_across)) n (in_taken_in s) = elim s [ ]
close_entry (apart a (entry_finish_heard fits_inside)) n (in_taking s) = elim s [ ]
close_entry (apart a (entry_finish_heard fits_inside)) n (in_taken_in on_full) =
    record { row = _; is = refl; «in» = in_waiting on_full; talk = apart a (entry_waits_heard fits_inside); silent = refl; settles_not = refl; offerless = refl; body = λ ks. refl; recalls = λ s k. shut_recalls s k.0; asked = λ l d a. a }
close_entry (apart a (entry_finish_heard fits_inside)) n (in_taken_in sees_full) = elim (n has_first) [ ]
close_entry (apart a (entry_stopped c)) n h = parted (gone_stopped _ n h) a
close_entry (apart a (entry_stopped_finish_sent c d)) n h = parted (gone_stopped _ n h) a
close_entry (apart a (entry_inside_awaited c d)) n (in_stopped s) =
    record { row = _; is = refl; «in» = in_waiting s; talk = apart a (entry_waits_heard c); silent = refl; settles_not = refl; offerless = refl; body = λ ks. refl; recalls = λ s k. shut_recalls s k.0; asked = λ l d a. a }

-- and what was offered: on a closed entry nothing is, and the outlet that goes on by itself may keep anything
pub contents_left : {Gone : ℕ → Type 0} {ks : List Record} {t last : Option ℕ} {i : In} {f : Option Record} {up : List UpWord} → f ≡ None → Contents Gone false ks t last i f up []
contents_left e = record { offers = open_none; offer = none_open e; start = λ r s _ _. absurd (not_standing s) }
