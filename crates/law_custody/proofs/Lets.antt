-- The record that was let go last, as an outlet comes to hold nothing.
use Rattle.std.proofs.Common.{List, None, Option, Some, refl, true, ℕ, ◌≡◌}
use Rattle.line_base.specs.declared.states.SensorEvent.{SensorEvent}
use Rattle.board_record.specs.declared.record.Record.{Record}
use Rattle.line_world.specs.declared.board.Board.{Board}
use Rattle.line_world.specs.declared.gap.Gap.TheVariants as gaps
use Rattle.handover_out.specs.State.{board_of_phase as held_out}
use Rattle.handover_out.specs.declared.phase.Phase.{Phase as Out}
use Rattle.handover_out.specs.declared.phase.Phase.TheVariants as out
use Rattle.law_custody.specs.Floor.{ExitFloor, GapAt, begun_read, begun_unread, gap_begun, gap_left}
use Rattle.law_custody.specs.LookBack.{LetGo, is_not_beyond, let_go, lets_not, still_moving, still_stuck}
use Rattle.law_custody.specs.Place.{Across, Beyond, Inside, Place, beyond_across, beyond_inside}

-- an outlet that holds nothing may turn to any phase
pub lets_idle : {p : Place} {o : Out} {r : Record} {l : Option Record} → LetGo p out.Idle r l → LetGo p o r l
lets_idle (lets_not h) = elim h [ ]
lets_idle let_go = let_go
lets_idle (is_not_beyond k) = is_not_beyond k

pub lets_ended : {p : Place} {o : Out} {x : ℕ} {r : Record} {l : Option Record} → LetGo p (out.Ended x) r l → LetGo p o r l
lets_ended (lets_not h) = elim h [ ]
lets_ended let_go = let_go
lets_ended (is_not_beyond k) = is_not_beyond k

-- the board that lies beyond an outlet that holds nothing is the one that was let go
pub settles_what_left : {p : Place} {o : Out} {r : Record} {l : Option Record} → Beyond p → held_out o ≡ None → LetGo p o r l → l ≡ Some r
settles_what_left beyond_across e (lets_not still_moving) = cc
settles_what_left beyond_across e (lets_not still_stuck) = cc
settles_what_left beyond_inside e (lets_not still_moving) = cc
settles_what_left beyond_inside e (lets_not still_stuck) = cc
settles_what_left beyond_across e let_go = refl
settles_what_left beyond_inside e let_go = refl
settles_what_left beyond_across e (is_not_beyond n) = elim n [ ]
settles_what_left beyond_inside e (is_not_beyond n) = elim n [ ]

-- a board that lies across was the outlet's until its machine reads so, and it comes in as it left
pub lets_across : {a : Board} {o : Out} {ue : List SensorEvent} {p : Place} {r : Record} {l : Option Record} → GapAt (gaps.Begun a) p r → ExitFloor o ue true p r → LetGo Across o r l
lets_across gap_begun begun_unread = lets_not still_moving
lets_across gap_begun begun_read = lets_not still_moving

pub lets_inside : {a : Board} {o : Out} {p : Place} {r : Record} {l : Option Record} → GapAt (gaps.Left a) p r → LetGo p o r l → LetGo Inside o r l
lets_inside gap_left (lets_not h) = lets_not h
lets_inside gap_left let_go = let_go
lets_inside gap_left (is_not_beyond n) = elim n [ ]
