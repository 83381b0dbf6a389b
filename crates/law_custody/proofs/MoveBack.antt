-- A board is pushed back, or taken out while it is begun.
use Rattle.std.proofs.Common.{Bool, List, Option, [], false, ℕ, ◌++◌, ◌∷◌}
use Rattle.line_base.specs.declared.states.SensorEvent.{SensorEvent}
use Rattle.line_base.specs.declared.states.SensorEvent.TheVariants as event
use Rattle.board_record.specs.declared.record.Record.{Record}
use Rattle.session_core.specs.declared.state.SessionState.{SessionState}
use Rattle.line_world.specs.declared.board.Board.{Board}
use Rattle.line_world.specs.declared.gap.Gap.TheVariants as gaps
use Rattle.handover_out.specs.declared.phase.Phase.{Phase as Out}
use Rattle.handover_in.specs.declared.phase.Phase.{Phase as In}
use Rattle.law_custody.specs.Floor.{EntryFloor, ExitFloor, GapAt, both_unread, gap_begun, gap_home, gap_lost, in_free, in_stopped, in_taken_in, in_taking, in_waiting, left_unread, on_back, on_begun, on_gone, out_ended, out_idle, sees_back, sees_begun, sees_gone, stuck_back, stuck_begun, stuck_gone, stuck_left}
use Rattle.law_custody.specs.Place.{Home, InGap, Lost, Place, not_across_home, not_across_lost}
use Rattle.law_custody.specs.Talks.{Talks}
use Rattle.law_custody.specs.Words.{DownWord, UpWord}
use Rattle.law_custody.proofs.MoveOut.{Moved, not_full_back, not_full_taken, stuck_place}

pub in_back : {i : In} {un : List SensorEvent} {ed : Bool} {r : Record} → EntryFloor i un ed InGap r → EntryFloor i (un ++ (event.Back ∷ [])) ed Home r
in_back (in_free a n) = in_free (not_full_back a) not_across_home
in_back (in_taking sees_begun) = in_taking sees_back
in_back (in_taking on_begun) = in_taking on_back
in_back (in_taken_in s) = elim s [ ]
in_back (in_stopped sees_begun) = in_stopped sees_back
in_back (in_stopped on_begun) = in_stopped on_back
in_back (in_waiting sees_begun) = in_waiting sees_back
in_back (in_waiting on_begun) = in_waiting on_back

pub in_lost : {i : In} {un : List SensorEvent} {ed : Bool} {r : Record} → EntryFloor i un ed InGap r → EntryFloor i (un ++ (event.Taken ∷ [])) ed Lost r
in_lost (in_free a n) = in_free (not_full_taken a) not_across_lost
in_lost (in_taking sees_begun) = in_taking sees_gone
in_lost (in_taking on_begun) = in_taking on_gone
in_lost (in_taken_in s) = elim s [ ]
in_lost (in_stopped sees_begun) = in_stopped sees_gone
in_lost (in_stopped on_begun) = in_stopped on_gone
in_lost (in_waiting sees_begun) = in_waiting sees_gone
in_lost (in_waiting on_begun) = in_waiting on_gone

pub move_back : {b : Bool} {x y : SessionState} {o : Out} {of : Option ℕ} {rd : Bool} {i : In} {f : Option Record} {ri : Bool} {p : Place} {r : Record} {up : List UpWord} {down : List DownWord} {ue un : List SensorEvent} {ed : Bool} {a : Board}
    → GapAt (gaps.Begun a) p r → ExitFloor o ue false p r → EntryFloor i un ed p r → Talks b x o of rd y i f ri p up down
    → Moved b x o of rd y i f ri r up down (ue ++ (event.Back ∷ [])) (un ++ (event.Back ∷ [])) false ed gaps.Free Home
move_back gap_begun (out_idle _ n) _ k = elim n [ ]
move_back gap_begun (out_ended _ n) _ k = elim n [ ]
move_back gap_begun (both_unread n) _ k = elim n [ ]
move_back gap_begun (left_unread n) _ k = elim n [ ]
move_back gap_begun (stuck_left n) _ k = elim n [ ]
move_back gap_begun stuck_begun n k = record { out = stuck_back; «in» = in_back n; gap = gap_home; talk = stuck_place k }

pub move_take_begun : {b : Bool} {x y : SessionState} {o : Out} {of : Option ℕ} {rd : Bool} {i : In} {f : Option Record} {ri : Bool} {p : Place} {r : Record} {up : List UpWord} {down : List DownWord} {ue un : List SensorEvent} {ed : Bool} {a : Board}
    → GapAt (gaps.Begun a) p r → ExitFloor o ue false p r → EntryFloor i un ed p r → Talks b x o of rd y i f ri p up down
    → Moved b x o of rd y i f ri r up down (ue ++ (event.Taken ∷ [])) (un ++ (event.Taken ∷ [])) false ed gaps.Free Lost
move_take_begun gap_begun (out_idle _ n) _ k = elim n [ ]
move_take_begun gap_begun (out_ended _ n) _ k = elim n [ ]
move_take_begun gap_begun (both_unread n) _ k = elim n [ ]
move_take_begun gap_begun (left_unread n) _ k = elim n [ ]
move_take_begun gap_begun (stuck_left n) _ k = elim n [ ]
move_take_begun gap_begun stuck_begun n k = record { out = stuck_gone; «in» = in_lost n; gap = gap_lost; talk = stuck_place k }
