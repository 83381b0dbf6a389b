-- A board is taken out while it lies across.
use Rattle.std.proofs.Common.{Bool, List, Option, [], false, ℕ, ◌++◌, ◌∷◌}
use Rattle.line_base.specs.declared.states.Seen.{Seen}
use Rattle.line_base.specs.declared.states.SensorEvent.{SensorEvent}
use Rattle.line_base.specs.declared.states.SensorEvent.TheVariants as event
use Rattle.line_base.specs.declared.states.Transfer.{Transfer}
use Rattle.board_record.specs.declared.record.Record.{Record}
use Rattle.session_core.specs.declared.state.SessionState.{SessionState}
use Rattle.line_world.specs.declared.board.Board.{Board}
use Rattle.line_world.specs.declared.gap.Gap.TheVariants as gaps
use Rattle.handover_out.specs.declared.phase.Phase.{Phase as Out}
use Rattle.handover_in.specs.declared.phase.Phase.{Phase as In}
use Rattle.handover_in.specs.declared.phase.Phase.TheVariants as inn
use Rattle.law_custody.specs.Apart.{entry_described_waiting, entry_inside_awaited, entry_shaking_waiting, entry_stopped, entry_stopped_finish_sent, entry_waits, entry_waits_heard, entry_waits_in}
use Rattle.law_custody.specs.Flight.{Finishes, Fits, fits_across, fits_stolen}
use Rattle.law_custody.specs.Floor.{EntryFloor, ExitFloor, GapAt, both_gone, both_unread, gap_left, gap_stolen, in_free, in_stopped, in_taken_in, in_waiting, left_gone, left_unread, on_across, on_stolen, out_ended, out_idle, sees_across, sees_stolen, stuck_left, stuck_left_gone}
use Rattle.law_custody.specs.Place.{Across, Place, Stolen, not_begun_stolen}
use Rattle.law_custody.specs.Shape.{finish_and_stop_sent, inside_awaited, inside_awaited_stop_sent, stop_heard, stop_sent, stuck_stop_heard, stuck_stop_sent}
use Rattle.law_custody.specs.Talks.{Talks, apart, described_waiting, live, shaking_stuck_waiting, shaking_waiting}
use Rattle.law_custody.specs.Words.{DownWord, UpWord}
use Rattle.law_custody.proofs.Flight.{finishes_moved}
use Rattle.law_custody.proofs.MoveOut.{Moved, all_taken_more}

pub out_stolen : {o : Out} {ue : List SensorEvent} {xd : Bool} {r : Record} → ExitFloor o ue xd Across r → ExitFloor o (ue ++ (event.Taken ∷ [])) xd Stolen r
out_stolen (out_idle a n) = out_idle (all_taken_more a) not_begun_stolen
out_stolen (out_ended a n) = out_ended (all_taken_more a) not_begun_stolen
out_stolen (both_unread n) = both_gone
out_stolen (left_unread n) = left_gone
out_stolen (stuck_left n) = stuck_left_gone

pub in_stolen : {i : In} {un : List SensorEvent} {r : Record} → EntryFloor i un false Across r → EntryFloor i (un ++ (event.Taken ∷ [])) false Stolen r
in_stolen (in_free a n) = elim n [ ]
in_stolen (in_taken_in s) = elim s [ ]
in_stolen (in_stopped sees_across) = in_stopped sees_stolen
in_stolen (in_stopped on_across) = in_stopped on_stolen
in_stolen (in_waiting sees_across) = in_waiting sees_stolen
in_stolen (in_waiting on_across) = in_waiting on_stolen

-- an intake whose transport doesn't run
pub data Resting : In → Type 0 where
  resting_stopped : {r : Record} {own : Seen} {h : Option Transfer} → Resting (inn.Stopped r own h)
  resting_waiting : {r : Record} {own : Seen} {h : Bool} → Resting (inn.Waiting r own h)

pub rests : {i : In} {un : List SensorEvent} {r : Record} → EntryFloor i un false Across r → Resting i
rests (in_free a n) = elim n [ ]
rests (in_taken_in s) = elim s [ ]
rests (in_stopped s) = resting_stopped
rests (in_waiting s) = resting_waiting

pub to_stolen : {e : Transfer} → Fits e Across false → Fits e Stolen false
to_stolen fits_across = fits_stolen

pub ended_stolen : {ws : List DownWord} {z : ℕ} {rest : List DownWord} → Finishes ws z Across false rest → Finishes ws z Stolen false rest
ended_stolen = finishes_moved (λ _. to_stolen)

pub stolen : {b : Bool} {x y : SessionState} {o : Out} {of : Option ℕ} {rd : Bool} {i : In} {f : Option Record} {ri : Bool} {up : List UpWord} {down : List DownWord}
    → Resting i → Talks b x o of rd y i f ri Across up down → Talks b x o of rd y i f ri Stolen up down
stolen resting_stopped (live (stop_sent c)) = live (stop_sent c)
stolen resting_stopped (live (stuck_stop_sent c)) = live (stuck_stop_sent c)
stolen resting_stopped (live (stuck_stop_heard c)) = live (stuck_stop_heard c)
stolen resting_stopped (live (finish_and_stop_sent c)) = live (finish_and_stop_sent (ended_stolen c))
stolen resting_stopped (live (stop_heard c d)) = live (stop_heard (ended_stolen c) d)
stolen resting_stopped (live (inside_awaited_stop_sent c)) = live (inside_awaited_stop_sent (to_stolen c))
stolen resting_stopped (live (inside_awaited c d)) = live (inside_awaited (to_stolen c) d)
stolen resting_stopped (apart a (entry_stopped c)) = apart a (entry_stopped c)
stolen resting_stopped (apart a (entry_stopped_finish_sent c d)) = apart a (entry_stopped_finish_sent (ended_stolen c) d)
stolen resting_stopped (apart a (entry_inside_awaited c d)) = apart a (entry_inside_awaited (to_stolen c) d)
stolen resting_waiting (live s) = elim s [ ]
stolen resting_waiting shaking_waiting = shaking_waiting
stolen resting_waiting shaking_stuck_waiting = shaking_stuck_waiting
stolen resting_waiting (described_waiting c) = described_waiting c
stolen resting_waiting (apart a entry_waits) = apart a entry_waits
stolen resting_waiting (apart a entry_waits_in) = apart a entry_waits_in
stolen resting_waiting (apart a (entry_waits_heard c)) = apart a (entry_waits_heard (to_stolen c))
stolen resting_waiting (apart a entry_shaking_waiting) = apart a entry_shaking_waiting
stolen resting_waiting (apart a (entry_described_waiting c)) = apart a (entry_described_waiting c)

pub move_take_left : {b : Bool} {x y : SessionState} {o : Out} {of : Option ℕ} {rd : Bool} {i : In} {f : Option Record} {ri : Bool} {p : Place} {r : Record} {up : List UpWord} {down : List DownWord} {ue un : List SensorEvent} {xd : Bool} {a : Board}
    → GapAt (gaps.Left a) p r → ExitFloor o ue xd p r → EntryFloor i un false p r → Talks b x o of rd y i f ri p up down
    → Moved b x o of rd y i f ri r up down (ue ++ (event.Taken ∷ [])) (un ++ (event.Taken ∷ [])) xd false gaps.Free Stolen
move_take_left gap_left h n k = record { out = out_stolen h; «in» = in_stolen n; gap = gap_stolen; talk = stolen (rests n) k }
