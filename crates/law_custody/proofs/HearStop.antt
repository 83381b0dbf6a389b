-- The exit hears StopTransport, however the link stands.
use Rattle.std.proofs.Common.{Bool, List, None, Option, Some, refl, true, ℕ, ◌∷◌}
use Rattle.line_base.specs.declared.states.SensorEvent.{SensorEvent}
use Rattle.line_base.specs.declared.states.Transfer.{Transfer}
use Rattle.board_record.specs.declared.record.Record.{Record}
use Rattle.session_core.specs.declared.state.SessionState.{SessionState}
use Rattle.handover_out.specs.declared.input.OutInput.TheVariants as out_input
use Rattle.handover_out.specs.declared.phase.Phase.{Phase as Out}
use Rattle.handover_in.specs.declared.phase.Phase.{Phase as In}
use Rattle.law_custody.specs.Apart.{exit_finished_stop_sent, exit_idle, exit_stop_sent, exit_stuck, exit_stuck_stop_sent}
use Rattle.law_custody.specs.Facts.{has_first}
use Rattle.law_custody.specs.Flight.{fits_fresh, offers_none, readies_none}
use Rattle.law_custody.specs.Floor.{ExitFloor, at_start, begun_read, begun_unread, both_gone, both_unread, left_gone, left_unread, none_taken, out_ended, out_idle, stuck_back, stuck_begun, stuck_gone, stuck_left, stuck_left_gone}
use Rattle.law_custody.specs.LookBack.{is_not_beyond, lets_not, not_beyond_fresh, still_stuck}
use Rattle.law_custody.specs.Place.{Place, not_begun_fresh}
use Rattle.law_custody.specs.Shape.{finish_and_stop_sent, inside_awaited, inside_awaited_stop_sent, intake_done, no_handover, start_and_stop_sent, start_sent, stop_heard, stop_sent, stuck_stop_heard, stuck_stop_sent}
use Rattle.law_custody.specs.Steps.{ExitDid, outlet}
use Rattle.law_custody.specs.Talks.{Talks, apart, apart_start, apart_start_stop, live}
use Rattle.law_custody.specs.Words.{DownWord, StopTransport, UpWord}
use Rattle.law_custody.proofs.Contents.{contents_shut, contents_free}
use Rattle.law_custody.proofs.Flight.{stale_end}
use Rattle.law_custody.proofs.Lets.{lets_ended}
use Rattle.law_custody.proofs.Open.{entry_open, finishes_open, nothing_at_all, nothing_open_after, nothing_stopped}
use Rattle.law_custody.proofs.Rows.{out_same}
use Rattle.law_custody.proofs.Sides.{released}
use Rattle.law_custody.proofs.Starts.{readies_start_nothing}
use Rattle.law_custody.proofs.Unread.{HasRead}

pub hear_stop : {Gone : ℕ → Type 0} {b : Bool} {x y : SessionState} {o : Out} {of : Option ℕ} {rd : Bool} {i : In} {f : Option Record} {ri : Bool} {p : Place} {r : Record} {up : List UpWord} {down : List DownWord} {ue : List SensorEvent} {xd : Bool} {z : ℕ}
    → Talks b x o of rd y i f ri p (StopTransport z ∷ up) down → HasRead ue → ExitFloor o ue xd p r → (t : Option ℕ) (s : Transfer)
    → ExitDid Gone (out_input.Stop s z) (outlet o of t rd) ue xd b x y i f ri p r (StopTransport z ∷ up) up down
hear_stop (live (stop_sent c)) h at_start t s =
    record { row = _; is = out_same _ _ _; out = out_idle none_taken not_begun_fresh; talk = live (stop_heard (stale_end _ c fits_fresh) offers_none); body = λ ks. refl; contents = λ ks last _. contents_free (nothing_open_after true _ _ (nothing_stopped c)) refl; lets = λ l _. is_not_beyond not_beyond_fresh; starts = refl; answers = λ l. refl }
hear_stop (live (stop_sent c)) h begun_read t s =
    record { row = _; is = out_same _ _ _; out = stuck_begun; talk = live (stuck_stop_heard c); body = λ ks. refl; contents = λ ks last _. contents_free (nothing_stopped c) refl; lets = λ l _. lets_not still_stuck; starts = refl; answers = λ l. refl }
hear_stop (live (stuck_stop_sent c)) h stuck_begun t s =
    record { row = _; is = out_same _ _ _; out = stuck_begun; talk = live (stuck_stop_heard c); body = λ ks. refl; contents = λ ks last _. contents_free (nothing_stopped c) refl; lets = λ l _. lets_not still_stuck; starts = refl; answers = λ l. refl }
hear_stop (live (stuck_stop_sent c)) h stuck_back t s =
    record { row = _; is = out_same _ _ _; out = stuck_back; talk = live (stuck_stop_heard c); body = λ ks. refl; contents = λ ks last _. contents_free (nothing_stopped c) refl; lets = λ l _. lets_not still_stuck; starts = refl; answers = λ l. refl }
hear_stop (live (stuck_stop_sent c)) h stuck_gone t s =
    record { row = _; is = out_same _ _ _; out = stuck_gone; talk = live (stuck_stop_heard c); body = λ ks. refl; contents = λ ks last _. contents_free (nothing_stopped c) refl; lets = λ l _. lets_not still_stuck; starts = refl; answers = λ l. refl }
hear_stop (live (finish_and_stop_sent c)) h (out_ended a n) t s =
    record { row = _; is = out_same _ _ _; out = out_idle a n; talk = live (stop_heard c offers_none); body = λ ks. refl; contents = λ ks last _. contents_free (record { offers = finishes_open c; offer = refl }) refl; lets = λ l n. lets_ended n; starts = refl; answers = λ l. refl }
hear_stop (live (intake_done c)) h (out_ended a n) t s =
    record { row = _; is = out_same _ _ _; out = out_idle a n; talk = live (no_handover c offers_none); body = λ ks. refl; contents = λ ks last _. contents_free nothing_at_all (readies_start_nothing c); lets = λ l n. lets_ended n; starts = refl; answers = λ l. refl }
hear_stop (live (inside_awaited_stop_sent c)) h (out_ended a n) t s =
    record { row = _; is = out_same _ _ _; out = out_idle a n; talk = live (inside_awaited c offers_none); body = λ ks. refl; contents = λ ks last _. contents_free nothing_at_all refl; lets = λ l n. lets_ended n; starts = refl; answers = λ l. refl }
hear_stop (apart exit_stop_sent c) h at_start t s =
    record { row = _; is = out_same _ _ _; out = out_idle none_taken not_begun_fresh; talk = apart (exit_idle readies_none) (released c); body = λ ks. refl; contents = λ ks last _. contents_free (entry_open c) refl; lets = λ l _. is_not_beyond not_beyond_fresh; starts = refl; answers = λ l. refl }
hear_stop (apart exit_stop_sent c) h begun_read t s =
    record { row = _; is = out_same _ _ _; out = stuck_begun; talk = apart exit_stuck c; body = λ ks. refl; contents = λ ks last k. contents_shut k; lets = λ l _. lets_not still_stuck; starts = refl; answers = λ l. refl }
hear_stop (apart exit_stuck_stop_sent c) h stuck_begun t s =
    record { row = _; is = out_same _ _ _; out = stuck_begun; talk = apart exit_stuck c; body = λ ks. refl; contents = λ ks last k. contents_shut k; lets = λ l _. lets_not still_stuck; starts = refl; answers = λ l. refl }
hear_stop (apart exit_stuck_stop_sent c) h stuck_back t s =
    record { row = _; is = out_same _ _ _; out = stuck_back; talk = apart exit_stuck c; body = λ ks. refl; contents = λ ks last k. contents_shut k; lets = λ l _. lets_not still_stuck; starts = refl; answers = λ l. refl }
hear_stop (apart exit_stuck_stop_sent c) h stuck_gone t s =
    record { row = _; is = out_same _ _ _; out = stuck_gone; talk = apart exit_stuck c; body = λ ks. refl; contents = λ ks last k. contents_shut k; lets = λ l _. lets_not still_stuck; starts = refl; answers = λ l. refl }
hear_stop (apart (exit_finished_stop_sent c) d) h (out_ended a n) t s =
    record { row = _; is = out_same _ _ _; out = out_idle a n; talk = apart (exit_idle c) d; body = λ ks. refl; contents = λ ks last k. contents_shut k; lets = λ l n. lets_ended n; starts = refl; answers = λ l. refl }
hear_stop (live (no_handover a _)) _ _ t s = elim a [ ]
hear_stop (live (start_sent a _)) _ _ t s = elim a [ ]
hear_stop (live (start_and_stop_sent a _)) _ _ t s = elim a [ ]
hear_stop (apart_start a _) _ _ t s = elim a [ ]
hear_stop (apart_start_stop a _) _ _ t s = elim a [ ]
hear_stop (apart (exit_idle a) _) _ _ t s = elim a [ ]
hear_stop (live (stop_sent _)) h begun_unread t s = absurd (h.begun has_first)
hear_stop (live (stop_sent _)) h (both_unread _) t s = absurd (h.begun has_first)
hear_stop (live (stop_sent _)) h both_gone t s = absurd (h.begun has_first)
hear_stop (live (stop_sent c)) h (left_unread n) t s =
    record { row = _; is = out_same _ _ _; out = stuck_left n; talk = live (stuck_stop_heard c); body = λ ks. refl; contents = λ ks last _. contents_free (nothing_stopped c) refl; lets = λ l _. lets_not still_stuck; starts = refl; answers = λ l. refl }
hear_stop (live (stop_sent c)) h left_gone t s =
    record { row = _; is = out_same _ _ _; out = stuck_left_gone; talk = live (stuck_stop_heard c); body = λ ks. refl; contents = λ ks last _. contents_free (nothing_stopped c) refl; lets = λ l _. lets_not still_stuck; starts = refl; answers = λ l. refl }
hear_stop (apart exit_stop_sent _) h begun_unread t s = absurd (h.begun has_first)
hear_stop (apart exit_stop_sent _) h (both_unread _) t s = absurd (h.begun has_first)
hear_stop (apart exit_stop_sent _) h both_gone t s = absurd (h.begun has_first)
hear_stop (apart exit_stop_sent c) h (left_unread n) t s =
    record { row = _; is = out_same _ _ _; out = stuck_left n; talk = apart exit_stuck c; body = λ ks. refl; contents = λ ks last k. contents_shut k; lets = λ l _. lets_not still_stuck; starts = refl; answers = λ l. refl }
hear_stop (apart exit_stop_sent c) h left_gone t s =
    record { row = _; is = out_same _ _ _; out = stuck_left_gone; talk = apart exit_stuck c; body = λ ks. refl; contents = λ ks last k. contents_shut k; lets = λ l _. lets_not still_stuck; starts = refl; answers = λ l. refl }
hear_stop (live (stuck_stop_sent c)) h (stuck_left n) t s =
    record { row = _; is = out_same _ _ _; out = stuck_left n; talk = live (stuck_stop_heard c); body = λ ks. refl; contents = λ ks last _. contents_free (nothing_stopped c) refl; lets = λ l _. lets_not still_stuck; starts = refl; answers = λ l. refl }
hear_stop (live (stuck_stop_sent c)) h stuck_left_gone t s =
    record { row = _; is = out_same _ _ _; out = stuck_left_gone; talk = live (stuck_stop_heard c); body = λ ks. refl; contents = λ ks last _. contents_free (nothing_stopped c) refl; lets = λ l _. lets_not still_stuck; starts = refl; answers = λ l. refl }
hear_stop (apart exit_stuck_stop_sent c) h (stuck_left n) t s =
    record { row = _; is = out_same _ _ _; out = stuck_left n; talk = apart exit_stuck c; body = λ ks. refl; contents = λ ks last k. contents_shut k; lets = λ l _. lets_not still_stuck; starts = refl; answers = λ l. refl }
hear_stop (apart exit_stuck_stop_sent c) h stuck_left_gone t s =
    record { row = _; is = out_same _ _ _; out = stuck_left_gone; talk = apart exit_stuck c; body = λ ks. refl; contents = λ ks last k. contents_shut k; lets = λ l _. lets_not still_stuck; starts = refl; answers = λ l. refl }
