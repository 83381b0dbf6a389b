-- The exit reads a sensor event, and its drive fails, however the link stands.
use Rattle.std.proofs.Common.{Bool, List, Option, refl, ℕ, ◌∷◌}
use Rattle.line_base.specs.declared.states.SensorEvent.{SensorEvent}
use Rattle.board_record.specs.declared.record.Record.{Record}
use Rattle.session_core.specs.declared.state.SessionState.{SessionState}
use Rattle.handover_out.specs.declared.input.OutInput.TheVariants as out_input
use Rattle.handover_out.specs.declared.phase.Phase.{Phase as Out}
use Rattle.handover_in.specs.declared.phase.Phase.{Phase as In}
use Rattle.law_custody.specs.Facts.{has_first}
use Rattle.law_custody.specs.Flight.{fits_fresh, fits_home, fits_lost}
use Rattle.law_custody.specs.Floor.{EntryFloor, ExitFloor, at_start, begun_read, begun_unread, both_gone, both_unread, left_gone, left_unread, more_taken, none_taken, out_ended, out_idle, stuck_back, stuck_begun, stuck_gone, stuck_left, stuck_left_gone}
use Rattle.law_custody.specs.LookBack.{is_not_beyond, let_go, lets_not, not_beyond_fresh, not_beyond_home, not_beyond_lost, still_moving, still_stuck}
use Rattle.law_custody.specs.Place.{Place, not_begun_fresh, not_begun_home, not_begun_lost, not_begun_stolen}
use Rattle.law_custody.specs.Steps.{ExitDid, outlet}
use Rattle.law_custody.specs.Talks.{Talks}
use Rattle.law_custody.specs.Words.{DownWord, UpWord}
use Rattle.law_custody.proofs.Contents.{contents_free}
use Rattle.law_custody.proofs.Open.{moving_open, moving_starts, nothing_open_after, stuck_open, stuck_starts}
use Rattle.law_custody.proofs.Turns.{begins_moving, beyond_begun, beyond_body, beyond_fits, ends_moving, ends_stolen, ends_stuck, ends_stuck_stolen, home_body, lost_body, nothing_open_told, out_over, stolen_body, stuck_body, stuck_moving}
use Rattle.law_custody.proofs.Unread.{HasRead}

pub read_exit : {Gone : ℕ → Type 0} {b : Bool} {x y : SessionState} {o : Out} {of : Option ℕ} {rd : Bool} {i : In} {f : Option Record} {ri : Bool} {p : Place} {r : Record} {up : List UpWord} {down : List DownWord} {xd : Bool} {e : SensorEvent} {ue : List SensorEvent} {un : List SensorEvent} {ed : Bool}
    → ExitFloor o (e ∷ ue) xd p r → EntryFloor i un ed p r → Talks b x o of rd y i f ri p up down → (t : Option ℕ)
    → ExitDid Gone (out_input.Sensed e) (outlet o of t rd) ue xd b x y i f ri p r up up down
read_exit (out_idle (more_taken a) n) _ k t = record { row = _; is = refl; out = out_idle a n; talk = k; body = λ ks. refl; contents = λ ks last c. c; lets = λ l n. n; starts = refl; answers = λ l. refl }
read_exit (out_ended (more_taken a) n) _ k t = record { row = _; is = refl; out = out_ended a n; talk = k; body = λ ks. refl; contents = λ ks last c. c; lets = λ l n. n; starts = refl; answers = λ l. refl }
read_exit begun_unread _ k t = record { row = _; is = refl; out = begun_read; talk = begins_moving k; body = λ ks. refl; contents = λ ks last c. c; lets = λ l _. lets_not still_moving; starts = refl; answers = λ l. refl }
read_exit (both_unread n) _ k t = record { row = _; is = refl; out = left_unread n; talk = begins_moving k; body = λ ks. refl; contents = λ ks last c. c; lets = λ l _. lets_not still_moving; starts = refl; answers = λ l. refl }
read_exit both_gone _ k t = record { row = _; is = refl; out = left_gone; talk = begins_moving k; body = λ ks. refl; contents = λ ks last c. c; lets = λ l _. lets_not still_moving; starts = refl; answers = λ l. refl }
read_exit (left_unread {r = q} n) _ k t =
    record { row = _; is = refl; out = out_ended none_taken (beyond_begun n); talk = ends_moving (beyond_fits n) k; body = beyond_body q n; contents = λ ks last _. contents_free (nothing_open_after _ _ _ (moving_open k)) (moving_starts k); lets = λ l _. let_go; starts = refl; answers = λ l. refl }
read_exit left_gone m k t =
    record { row = _; is = refl; out = out_ended (more_taken none_taken) not_begun_stolen; talk = ends_stolen k m; body = λ ks. refl; contents = λ ks last _. contents_free (nothing_open_after _ _ _ (moving_open k)) (moving_starts k); lets = λ l _. let_go; starts = refl; answers = λ l. refl }
read_exit (stuck_back {r = q} {l = l} {s = s}) _ k t =
    record { row = _; is = refl; out = out_over q _ _ _ l s none_taken not_begun_home; talk = ends_stuck t (λ _. fits_home) k; body = home_body q _ _ _ l s; contents = λ ks last _. contents_free (nothing_open_told l _ _ _ (stuck_open k)) (stuck_starts k); lets = λ _ _. is_not_beyond not_beyond_home; starts = refl; answers = λ l. refl }
read_exit (stuck_gone {r = q} {l = l} {s = s}) _ k t =
    record { row = _; is = refl; out = out_over q _ _ _ l s none_taken not_begun_lost; talk = ends_stuck t (λ _. fits_lost) k; body = lost_body q _ _ _ l s; contents = λ ks last _. contents_free (nothing_open_told l _ _ _ (stuck_open k)) (stuck_starts k); lets = λ _ _. is_not_beyond not_beyond_lost; starts = refl; answers = λ l. refl }
read_exit (stuck_left {r = q} {l = l} {s = s} n) _ k t =
    record { row = _; is = refl; out = out_over q _ _ _ l s none_taken (beyond_begun n); talk = ends_stuck t (beyond_fits n) k; body = stuck_body n q _ _ _ l s; contents = λ ks last _. contents_free (nothing_open_told l _ _ _ (stuck_open k)) (stuck_starts k); lets = λ _ _. let_go; starts = refl; answers = λ l. refl }
read_exit (stuck_left_gone {r = q} {l = l} {s = s}) m k t =
    record { row = _; is = refl; out = out_over q _ _ _ l s (more_taken none_taken) not_begun_stolen; talk = ends_stuck_stolen t k m; body = stolen_body q _ _ _ l s; contents = λ ks last _. contents_free (nothing_open_told l _ _ _ (stuck_open k)) (stuck_starts k); lets = λ _ _. let_go; starts = refl; answers = λ l. refl }

-- a fault of the exit's drive
pub fault_exit : {Gone : ℕ → Type 0} {b : Bool} {x y : SessionState} {o : Out} {of : Option ℕ} {rd : Bool} {i : In} {f : Option Record} {ri : Bool} {p : Place} {r : Record} {up : List UpWord} {down : List DownWord} {ue : List SensorEvent} {xd : Bool}
    → HasRead ue → ExitFloor o ue xd p r → Talks b x o of rd y i f ri p up down → (t : Option ℕ)
    → ExitDid Gone out_input.Fault (outlet o of t rd) ue xd b x y i f ri p r up up down
fault_exit h (out_idle a n) k t = record { row = _; is = refl; out = out_idle a n; talk = k; body = λ ks. refl; contents = λ ks last c. c; lets = λ l n. n; starts = refl; answers = λ l. refl }
fault_exit h (out_ended a n) k t = record { row = _; is = refl; out = out_ended a n; talk = k; body = λ ks. refl; contents = λ ks last c. c; lets = λ l n. n; starts = refl; answers = λ l. refl }
fault_exit h at_start k t =
    record { row = _; is = refl; out = out_ended none_taken not_begun_fresh; talk = ends_moving (λ _. fits_fresh) k; body = λ ks. refl; contents = λ ks last _. contents_free (nothing_open_after _ _ _ (moving_open k)) (moving_starts k); lets = λ l _. is_not_beyond not_beyond_fresh; starts = refl; answers = λ l. refl }
fault_exit h begun_read k t = record { row = _; is = refl; out = stuck_begun; talk = stuck_moving k; body = λ ks. refl; contents = λ ks last c. c; lets = λ l _. lets_not still_stuck; starts = refl; answers = λ l. refl }
fault_exit h stuck_begun k t = record { row = _; is = refl; out = stuck_begun; talk = k; body = λ ks. refl; contents = λ ks last c. c; lets = λ l n. n; starts = refl; answers = λ l. refl }
fault_exit h stuck_back k t = record { row = _; is = refl; out = stuck_back; talk = k; body = λ ks. refl; contents = λ ks last c. c; lets = λ l n. n; starts = refl; answers = λ l. refl }
fault_exit h stuck_gone k t = record { row = _; is = refl; out = stuck_gone; talk = k; body = λ ks. refl; contents = λ ks last c. c; lets = λ l n. n; starts = refl; answers = λ l. refl }
fault_exit h begun_unread k t = absurd (h.begun has_first)
fault_exit h (both_unread _) k t = absurd (h.begun has_first)
fault_exit h both_gone k t = absurd (h.begun has_first)
fault_exit h (left_unread n) k t = record { row = _; is = refl; out = stuck_left n; talk = stuck_moving k; body = λ ks. refl; contents = λ ks last c. c; lets = λ l _. lets_not still_stuck; starts = refl; answers = λ l. refl }
fault_exit h left_gone k t = record { row = _; is = refl; out = stuck_left_gone; talk = stuck_moving k; body = λ ks. refl; contents = λ ks last c. c; lets = λ l _. lets_not still_stuck; starts = refl; answers = λ l. refl }
fault_exit h (stuck_left m) k t = record { row = _; is = refl; out = stuck_left m; talk = k; body = λ ks. refl; contents = λ ks last c. c; lets = λ l n. n; starts = refl; answers = λ l. refl }
fault_exit h stuck_left_gone k t = record { row = _; is = refl; out = stuck_left_gone; talk = k; body = λ ks. refl; contents = λ ks last c. c; lets = λ l n. n; starts = refl; answers = λ l. refl }
