-- A board that lies across comes inside, by the entry's drive or by hand.
use Rattle.std.proofs.Common.{Bool, List, Option, [], false, true, ℕ, ◌++◌, ◌∷◌}
use Rattle.line_base.specs.declared.states.SensorEvent.{SensorEvent}
use Rattle.line_base.specs.declared.states.SensorEvent.TheVariants as event
use Rattle.line_base.specs.declared.states.Transfer.{Transfer}
use Rattle.board_record.specs.declared.record.Record.{Record}
use Rattle.session_core.specs.declared.state.SessionState.{SessionState}
use Rattle.line_world.specs.declared.board.Board.{Board}
use Rattle.line_world.specs.declared.gap.Gap.TheVariants as gaps
use Rattle.handover_out.specs.declared.phase.Phase.{Phase as Out}
use Rattle.handover_in.specs.declared.phase.Phase.{Phase as In}
use Rattle.law_custody.specs.Apart.{entry_described, entry_described_waiting, entry_finish_heard, entry_finish_sent, entry_idle, entry_inside_awaited, entry_none, entry_shaking, entry_shaking_waiting, entry_stopped, entry_stopped_finish_sent, entry_transporting, entry_waits, entry_waits_heard, entry_waits_in}
use Rattle.law_custody.specs.Flight.{Fits, fits_across, fits_inside}
use Rattle.law_custody.specs.Floor.{EntryFloor, ExitFloor, GapAt, both_unread, gap_inside, gap_left, in_free, in_stopped, in_taken_in, in_taking, in_waiting, in_waiting_on, left_unread, on_across, on_full, out_ended, out_idle, sees_across, sees_full, stuck_left}
use Rattle.law_custody.specs.Place.{Across, Inside, Place, beyond_inside, not_begun_inside}
use Rattle.law_custody.specs.Shape.{finish_and_stop_sent, finish_heard, finish_sent, inside_awaited, inside_awaited_stop_sent, intake_done, no_handover, stop_heard, stop_sent, stuck_stop_heard, stuck_stop_sent, stuck_transporting, transporting}
use Rattle.law_custody.specs.Talks.{Talks, apart, apart_start, apart_start_stop, described, described_waiting, live, shaking_idle, shaking_stuck, shaking_stuck_waiting, shaking_waiting}
use Rattle.law_custody.specs.Words.{DownWord, UpWord}
use Rattle.law_custody.proofs.Flight.{finishes_moved}
use Rattle.law_custody.proofs.MoveOut.{Moved}

-- a board that lies across comes in: what says that it has left still fits
pub to_inside : {e : Transfer} {t : Bool} → Fits e Across t → Fits e Inside t
to_inside fits_across = fits_inside

pub inside : {b : Bool} {x y : SessionState} {o : Out} {of : Option ℕ} {rd : Bool} {i : In} {f : Option Record} {ri : Bool} {up : List UpWord} {down : List DownWord}
    → Talks b x o of rd y i f ri Across up down → Talks b x o of rd y i f ri Inside up down
inside (live (no_handover a c)) = live (no_handover a c)
inside (live (transporting c)) = live (transporting c)
inside (live (stop_sent c)) = live (stop_sent c)
inside (live (stuck_transporting c)) = live (stuck_transporting c)
inside (live (stuck_stop_sent c)) = live (stuck_stop_sent c)
inside (live (stuck_stop_heard c)) = live (stuck_stop_heard c)
inside (live (finish_sent c)) = live (finish_sent (finishes_moved (λ _. to_inside) c))
inside (live (finish_and_stop_sent c)) = live (finish_and_stop_sent (finishes_moved (λ _. to_inside) c))
inside (live (stop_heard c d)) = live (stop_heard (finishes_moved (λ _. to_inside) c) d)
inside (live (finish_heard c)) = live (finish_heard (to_inside c))
inside (live (intake_done c)) = live (intake_done c)
inside (live (inside_awaited_stop_sent c)) = live (inside_awaited_stop_sent (to_inside c))
inside (live (inside_awaited c d)) = live (inside_awaited (to_inside c) d)
inside shaking_idle = shaking_idle
inside shaking_waiting = shaking_waiting
inside shaking_stuck = shaking_stuck
inside shaking_stuck_waiting = shaking_stuck_waiting
inside (described c) = described c
inside (described_waiting c) = described_waiting c
inside (apart_start a c) = apart_start a c
inside (apart_start_stop a c) = apart_start_stop a c
inside (apart a entry_none) = apart a entry_none
inside (apart a entry_waits) = apart a entry_waits
inside (apart a entry_waits_in) = apart a entry_waits_in
inside (apart a (entry_waits_heard c)) = apart a (entry_waits_heard (to_inside c))
inside (apart a entry_shaking) = apart a entry_shaking
inside (apart a entry_shaking_waiting) = apart a entry_shaking_waiting
inside (apart a (entry_described c)) = apart a (entry_described c)
inside (apart a (entry_described_waiting c)) = apart a (entry_described_waiting c)
inside (apart a (entry_idle c)) = apart a (entry_idle c)
inside (apart a (entry_transporting c)) = apart a (entry_transporting c)
inside (apart a (entry_finish_sent c)) = apart a (entry_finish_sent (finishes_moved (λ _. to_inside) c))
inside (apart a (entry_finish_heard c)) = apart a (entry_finish_heard (to_inside c))
inside (apart a (entry_stopped c)) = apart a (entry_stopped c)
inside (apart a (entry_stopped_finish_sent c d)) = apart a (entry_stopped_finish_sent (finishes_moved (λ _. to_inside) c) d)
inside (apart a (entry_inside_awaited c d)) = apart a (entry_inside_awaited (to_inside c) d)

pub out_inside : {o : Out} {ue : List SensorEvent} {xd : Bool} {r : Record} → ExitFloor o ue xd Across r → ExitFloor o ue xd Inside r
out_inside (out_idle a n) = out_idle a not_begun_inside
out_inside (out_ended a n) = out_ended a not_begun_inside
out_inside (both_unread n) = both_unread beyond_inside
out_inside (left_unread n) = left_unread beyond_inside
out_inside (stuck_left n) = stuck_left beyond_inside

pub in_enters : {i : In} {un : List SensorEvent} {r : Record} → EntryFloor i un true Across r → EntryFloor i (un ++ (event.Full ∷ [])) false Inside r
in_enters (in_taking sees_across) = in_taken_in sees_full
in_enters (in_taking on_across) = in_taken_in on_full
in_enters in_waiting_on = in_waiting on_full

pub in_handed : {i : In} {un : List SensorEvent} {r : Record} → EntryFloor i un false Across r → EntryFloor i (un ++ (event.Full ∷ [])) false Inside r
in_handed (in_free a n) = elim n [ ]
in_handed (in_taken_in s) = elim s [ ]
in_handed (in_stopped sees_across) = in_stopped sees_full
in_handed (in_stopped on_across) = in_stopped on_full
in_handed (in_waiting sees_across) = in_waiting sees_full
in_handed (in_waiting on_across) = in_waiting on_full

-- by its own drive or by hand
pub move_in : {b : Bool} {x y : SessionState} {o : Out} {of : Option ℕ} {rd : Bool} {i : In} {f : Option Record} {ri : Bool} {p : Place} {r : Record} {up : List UpWord} {down : List DownWord} {ue un : List SensorEvent} {xd : Bool} {a : Board} (ed : Bool)
    → ExitFloor o ue xd p r → EntryFloor i un ed p r → GapAt (gaps.Left a) p r → Talks b x o of rd y i f ri p up down
    → Moved b x o of rd y i f ri r up down ue (un ++ (event.Full ∷ [])) xd false gaps.Free Inside
move_in true h n gap_left k = record { out = out_inside h; «in» = in_enters n; gap = gap_inside; talk = inside k }
move_in false h n gap_left k = record { out = out_inside h; «in» = in_handed n; gap = gap_inside; talk = inside k }
