-- The facts about boards that are read off the relation, a match each.
use Rattle.std.proofs.Common.{Bool, List, None, Some, refl, ◌≡◌}
use Rattle.line_base.specs.declared.states.SensorEvent.{SensorEvent}
use Rattle.board_record.specs.declared.record.Record.{Record}
use Rattle.line_world.specs.declared.board.Board.{Board}
use Rattle.line_world.specs.declared.gap.Gap.TheVariants as gaps
use Rattle.handover_out.specs.State.{board_of_phase as held_out}
use Rattle.handover_out.specs.declared.phase.Phase.{Phase as Out}
use Rattle.handover_in.specs.State.{board_of_phase as held_in}
use Rattle.handover_in.specs.declared.phase.Phase.{Phase as In}
use Rattle.law_custody.specs.Facts.{Has, TellsOf, has_first, has_later, tells_across, tells_inside, tells_lost, tells_stolen}
use Rattle.law_custody.specs.Floor.{EntryFloor, ExitFloor, GapAt, at_start, begun_read, begun_unread, both_gone, both_unread, gap_begun, gap_left, in_free, in_stopped, in_taken_in, in_taking, in_waiting, in_waiting_on, left_gone, left_unread, out_ended, out_idle, stuck_back, stuck_begun, stuck_gone, stuck_left, stuck_left_gone}
use Rattle.law_custody.specs.Place.{Place, beyond_across, beyond_inside}

-- the board that lies begun is held upstream
pub begun_held_upstream : {a : Board} {p : Place} {r : Record} {o : Out} {ue : List SensorEvent} {xd : Bool} → GapAt (gaps.Begun a) p r → ExitFloor o ue xd p r → held_out o ≡ Some r
begun_held_upstream gap_begun (out_idle _ n) = elim n [ ]
begun_held_upstream gap_begun (out_ended _ n) = elim n [ ]
begun_held_upstream gap_begun begun_unread = refl
begun_held_upstream gap_begun begun_read = refl
begun_held_upstream gap_begun (both_unread n) = elim n [ ]
begun_held_upstream gap_begun (left_unread n) = elim n [ ]
begun_held_upstream gap_begun (stuck_left n) = elim n [ ]
begun_held_upstream gap_begun stuck_begun = refl

pub begun_id : {a : Board} {p : Place} {r : Record} → GapAt (gaps.Begun a) p r → a.id ≡ Some r.id
begun_id gap_begun = refl

-- the board that lies across is held downstream
pub left_held_downstream : {a : Board} {p : Place} {r : Record} {i : In} {un : List SensorEvent} {ed : Bool} → GapAt (gaps.Left a) p r → EntryFloor i un ed p r → held_in i ≡ Some r
left_held_downstream gap_left (in_free _ n) = elim n [ ]
left_held_downstream gap_left (in_taking _) = refl
left_held_downstream gap_left (in_taken_in _) = refl
left_held_downstream gap_left (in_stopped _) = refl
left_held_downstream gap_left (in_waiting _) = refl
left_held_downstream gap_left in_waiting_on = refl

pub left_id : {a : Board} {p : Place} {r : Record} → GapAt (gaps.Left a) p r → a.id ≡ Some r.id
left_id gap_left = refl

pub no_board : {q : Record} → None ≡ Some q → ⊥
no_board e = cc

-- an outlet that still holds a board that is gone has it unread
pub gone_is_unread : {o : Out} {ue : List SensorEvent} {xd : Bool} {p : Place} {r q : Record} {e : SensorEvent} → ExitFloor o ue xd p r → TellsOf p e → held_out o ≡ Some q → Has e ue
gone_is_unread (out_idle _ _) _ h = absurd (no_board h)
gone_is_unread (out_ended _ _) _ h = absurd (no_board h)
gone_is_unread at_start n _ = elim n [ ]
gone_is_unread begun_unread n _ = elim n [ ]
gone_is_unread begun_read n _ = elim n [ ]
gone_is_unread (both_unread beyond_across) tells_across _ = has_later has_first
gone_is_unread (both_unread beyond_inside) tells_inside _ = has_later has_first
gone_is_unread (left_unread beyond_across) tells_across _ = has_first
gone_is_unread (left_unread beyond_inside) tells_inside _ = has_first
gone_is_unread both_gone tells_stolen _ = has_later (has_later has_first)
gone_is_unread left_gone tells_stolen _ = has_later has_first
gone_is_unread stuck_begun n _ = elim n [ ]
gone_is_unread stuck_back n _ = elim n [ ]
gone_is_unread stuck_gone tells_lost _ = has_first
gone_is_unread (stuck_left beyond_across) tells_across _ = has_first
gone_is_unread (stuck_left beyond_inside) tells_inside _ = has_first
gone_is_unread stuck_left_gone tells_stolen _ = has_later has_first

-- both hold one record
pub out_holds : {o : Out} {ue : List SensorEvent} {xd : Bool} {p : Place} {r q : Record} → ExitFloor o ue xd p r → held_out o ≡ Some q → r ≡ q
out_holds (out_idle _ _) h = absurd (no_board h)
out_holds (out_ended _ _) h = absurd (no_board h)
out_holds at_start h = cc
out_holds begun_unread h = cc
out_holds begun_read h = cc
out_holds (both_unread _) h = cc
out_holds (left_unread _) h = cc
out_holds both_gone h = cc
out_holds left_gone h = cc
out_holds stuck_begun h = cc
out_holds stuck_back h = cc
out_holds stuck_gone h = cc
out_holds (stuck_left _) h = cc
out_holds stuck_left_gone h = cc

pub in_holds : {i : In} {un : List SensorEvent} {ed : Bool} {p : Place} {r q : Record} → EntryFloor i un ed p r → held_in i ≡ Some q → r ≡ q
in_holds (in_free _ _) h = absurd (no_board h)
in_holds (in_taking _) h = cc
in_holds (in_taken_in _) h = cc
in_holds (in_stopped _) h = cc
in_holds (in_waiting _) h = cc
in_holds in_waiting_on h = cc
