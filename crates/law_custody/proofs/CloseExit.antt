-- The connection of the exit is closed: by a notice of it, a breach, a tick, a shutdown, or a board that is held. Its machine has read that its board has begun and left, where it did.
use Rattle.std.proofs.Common.{Bool, List, None, Option, Some, [], refl, ℕ}
use Rattle.line_base.specs.declared.states.SensorEvent.{SensorEvent}
use Rattle.board_record.specs.declared.record.Record.{Record}
use Rattle.session_core.specs.declared.state.SessionState.{SessionState}
use Rattle.handover_out.specs.declared.phase.Phase.{Phase as Out}
use Rattle.handover_in.specs.declared.phase.Phase.{Phase as In}
use Rattle.law_custody.specs.Apart.{Entry, Exit, exit_none, exit_none_stuck}
use Rattle.law_custody.specs.Facts.{has_first}
use Rattle.law_custody.specs.Floor.{ExitFloor, at_start, begun_read, begun_unread, both_gone, both_unread, left_gone, left_unread, none_taken, out_ended, out_idle, stuck_back, stuck_begun, stuck_gone, stuck_left, stuck_left_gone}
use Rattle.law_custody.specs.LookBack.{is_not_beyond, lets_not, not_beyond_fresh, still_stuck}
use Rattle.law_custody.specs.Place.{Place, not_begun_fresh}
use Rattle.law_custody.specs.Steps.{ExitClosed, outlet}
use Rattle.law_custody.specs.Talks.{Talks, apart}
use Rattle.law_custody.specs.Words.{DownWord, UpWord}
use Rattle.law_custody.proofs.Contents.{contents_free, contents_shut}
use Rattle.law_custody.proofs.Lets.{lets_ended}
use Rattle.law_custody.proofs.Open.{beside_moving}
use Rattle.law_custody.proofs.Sides.{anywhere, anywhere_ended, anywhere_moving, held_moving, held_stuck}
use Rattle.law_custody.proofs.Split.{split}
use Rattle.law_custody.proofs.Unread.{HasRead}

closed_exit : {Gone : ℕ → Type 0} {s : Bool} {x : SessionState} {o : Out} {of : Option ℕ} {rd : Bool} {y : SessionState} {i : In} {f : Option Record} {ri : Bool} {p : Place} {r : Record} {before : List UpWord} {down : List DownWord} {ue : List SensorEvent} {xd b : Bool} (t : Option ℕ)
    → HasRead ue → ExitFloor o ue xd p r → Exit b x o of rd [] → Entry b y i f ri p down → ExitClosed Gone (outlet o of t rd) ue xd s y i f ri p r before down
closed_exit t h (out_idle a n) e c = record { row = _; is = refl; out = out_idle a n; talk = apart exit_none (anywhere e c); silent = refl; body = λ ks. refl; contents = λ ks last c. contents_shut c; lets = λ l n. n }
closed_exit t h (out_ended a n) e c =
    record { row = _; is = refl; out = out_idle a n; talk = apart exit_none (anywhere_ended e c); silent = refl; body = λ ks. refl; contents = λ ks last c. contents_shut c; lets = λ l n. lets_ended n }
closed_exit t h at_start e c =
    record { row = _; is = refl; out = out_idle none_taken not_begun_fresh; talk = apart exit_none (anywhere_moving e c); silent = refl; body = λ ks. refl; contents = λ ks last _. contents_free (beside_moving e c) refl; lets = λ l _. is_not_beyond not_beyond_fresh }
closed_exit t h begun_read e c =
    record { row = _; is = refl; out = stuck_begun; talk = apart exit_none_stuck (held_moving e c); silent = refl; body = λ ks. refl; contents = λ ks last c. contents_shut c; lets = λ l _. lets_not still_stuck }
closed_exit t h stuck_begun e c =
    record { row = _; is = refl; out = stuck_begun; talk = apart exit_none_stuck (held_stuck e c); silent = refl; body = λ ks. refl; contents = λ ks last c. contents_shut c; lets = λ l _. lets_not still_stuck }
closed_exit t h stuck_back e c =
    record { row = _; is = refl; out = stuck_back; talk = apart exit_none_stuck (held_stuck e c); silent = refl; body = λ ks. refl; contents = λ ks last c. contents_shut c; lets = λ l _. lets_not still_stuck }
closed_exit t h stuck_gone e c =
    record { row = _; is = refl; out = stuck_gone; talk = apart exit_none_stuck (held_stuck e c); silent = refl; body = λ ks. refl; contents = λ ks last c. contents_shut c; lets = λ l _. lets_not still_stuck }
closed_exit t h begun_unread e c = absurd (h.begun has_first)
closed_exit t h (both_unread _) e c = absurd (h.begun has_first)
closed_exit t h both_gone e c = absurd (h.begun has_first)
closed_exit t h (left_unread n) e c =
    record { row = _; is = refl; out = stuck_left n; talk = apart exit_none_stuck (held_moving e c); silent = refl; body = λ ks. refl; contents = λ ks last c. contents_shut c; lets = λ l _. lets_not still_stuck }
closed_exit t h left_gone e c =
    record { row = _; is = refl; out = stuck_left_gone; talk = apart exit_none_stuck (held_moving e c); silent = refl; body = λ ks. refl; contents = λ ks last c. contents_shut c; lets = λ l _. lets_not still_stuck }
closed_exit t h (stuck_left n) e c =
    record { row = _; is = refl; out = stuck_left n; talk = apart exit_none_stuck (held_stuck e c); silent = refl; body = λ ks. refl; contents = λ ks last c. contents_shut c; lets = λ l _. lets_not still_stuck }
closed_exit t h stuck_left_gone e c =
    record { row = _; is = refl; out = stuck_left_gone; talk = apart exit_none_stuck (held_stuck e c); silent = refl; body = λ ks. refl; contents = λ ks last c. contents_shut c; lets = λ l _. lets_not still_stuck }

pub close_exit : {Gone : ℕ → Type 0} {b : Bool} {x y : SessionState} {o : Out} {of : Option ℕ} {rd : Bool} {i : In} {f : Option Record} {ri : Bool} {p : Place} {r : Record} {up : List UpWord} {down : List DownWord} {ue : List SensorEvent} {xd : Bool}
    → Talks b x o of rd y i f ri p up down → HasRead ue → ExitFloor o ue xd p r → (t : Option ℕ) → ExitClosed Gone (outlet o of t rd) ue xd b y i f ri p r up down
close_exit t n h touched = let s = split t in closed_exit touched n h s.exit s.entry
