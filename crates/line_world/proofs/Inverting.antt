-- A move is done exactly as the family of moves has it.
use Rattle.std.proofs.Common.{◌≡◌, ◌∙◌, ◌↔◌, ◌∷◌, [], ℕ, Bool, true, false, List, refl, sym, ap, subst}
use Rattle.std.specs.Prelude.{Result, Ok, Err, IfOk}
use Rattle.board_record.specs.declared.sensed.Sensed.{Sensed}
use Rattle.line_world.specs.declared.board.Board.{Board}
use Rattle.line_world.specs.declared.gap.Gap.{Gap}
use Rattle.line_world.specs.declared.gap.Gap.TheVariants.{Free, Begun, Left}
use Rattle.line_world.specs.declared.moves.Move.{Move}
use Rattle.line_world.specs.declared.moves.Move.TheVariants as moves
use Rattle.line_world.specs.declared.moves.MoveNo.{MoveNo}
use Rattle.line_world.specs.FloorPlan.{FloorPlan}
use Rattle.line_world.specs.Moves.{Around, around_move, around_of, floor_after, floor_move, with_around}
use Rattle.line_world.specs.Moved.{IsFloorMove, IsMove, around_by, begins, leaves, enters, goes_back, is_handed_in, begun_is_taken, left_is_taken}
use Rattle.line_world.proofs.Keeping.{done_of, has_gap_of, is_gap_of}

done_by : (step : Move) (lies : Gap) (exit entry : Bool) (above below : List Board) (seen heard : List Sensed)
    → IfOk (around_move step (around_by above seen lies exit entry below heard)) (IsMove step (around_by above seen lies exit entry below heard))
done_by moves.Begin lies false entry above below seen heard = tt
done_by moves.Begin (Begun _) true entry above below seen heard = tt
done_by moves.Begin (Left _) true entry above below seen heard = tt
done_by moves.Begin Free true entry [] below seen heard = tt
done_by moves.Begin Free true entry (board ∷ above) below seen heard = begins
done_by moves.Left Free exit entry above below seen heard = tt
done_by moves.Left (Left _) exit entry above below seen heard = tt
done_by moves.Left (Begun _) false entry above below seen heard = tt
done_by moves.Left (Begun _) true false above below seen heard = tt
done_by moves.Left (Begun board) true true above below seen heard = leaves
done_by moves.Enter Free exit entry above below seen heard = tt
done_by moves.Enter (Begun _) exit entry above below seen heard = tt
done_by moves.Enter (Left _) exit false above below seen heard = tt
done_by moves.Enter (Left board) exit true above below seen heard = enters
done_by moves.Back Free exit entry above below seen heard = tt
done_by moves.Back (Left _) exit entry above below seen heard = tt
done_by moves.Back (Begun _) true entry above below seen heard = tt
done_by moves.Back (Begun board) false entry above below seen heard = goes_back
done_by moves.HandIn Free exit entry above below seen heard = tt
done_by moves.HandIn (Begun _) exit entry above below seen heard = tt
done_by moves.HandIn (Left _) exit true above below seen heard = tt
done_by moves.HandIn (Left board) exit false above below seen heard = is_handed_in
done_by moves.Take Free exit entry above below seen heard = tt
done_by moves.Take (Begun _) true entry above below seen heard = tt
done_by moves.Take (Begun board) false entry above below seen heard = begun_is_taken
done_by moves.Take (Left _) exit true above below seen heard = tt
done_by moves.Take (Left board) exit false above below seen heard = left_is_taken

found : (P : Around → Type 0) (answer : Result Around MoveNo) (after : Around) → IfOk answer P → answer ≡ Ok after → P after
found P (Ok around) after shape same = let is : around ≡ after = cc in subst P is shape
found P (Err why) after shape same = absurd (let never : ⊥ = cc in never)

pub move_is : (step : Move) (old new : Around) → around_move step old ≡ Ok new → IsMove step old new
move_is step old new same =
    found (IsMove step old) (around_move step old) new
    (done_by step old.between.lies old.between.exit_drive old.between.entry_drive old.up.boards old.down.boards old.up.unread old.down.unread) same

pub is_done : (step : Move) (old new : Around) → IsMove step old new → around_move step old ≡ Ok new
is_done _ _ _ begins = refl
is_done _ _ _ leaves = refl
is_done _ _ _ enters = refl
is_done _ _ _ goes_back = refl
is_done _ _ _ is_handed_in = refl
is_done _ _ _ begun_is_taken = refl
is_done _ _ _ left_is_taken = refl

pub moves_exactly : (step : Move) (old new : Around) → (around_move step old ≡ Ok new) ↔ IsMove step old new
moves_exactly step old new = (move_is step old new, is_done step old new)

same_floor : (a b : FloorPlan) → a ≡ b → ◌≡◌ {A = Result FloorPlan MoveNo} (Ok a) (Ok b)
same_floor a b same = cc

pub floor_move_is : (gap : ℕ) (step : Move) (old new : FloorPlan) → floor_move gap step old ≡ Ok new → IsFloorMove gap step old new
floor_move_is gap step old new same =
    let done = done_of gap step old new same in
    record {
      there = is_gap_of old gap done.there;
      around = done.around;
      done = move_is step (around_of old gap) done.around done.row;
      after = done.after;
    }

pub is_floor_move : (gap : ℕ) (step : Move) (old new : FloorPlan) → IsFloorMove gap step old new → floor_move gap step old ≡ Ok new
is_floor_move gap step old new move =
    rw (has_gap_of old gap move.there) (ap (floor_after old gap) (is_done step (around_of old gap) move.around move.done) ∙ same_floor (with_around old gap move.around) new (sym move.after))

pub floor_moves_exactly : (gap : ℕ) (step : Move) (old new : FloorPlan) → (floor_move gap step old ≡ Ok new) ↔ IsFloorMove gap step old new
floor_moves_exactly gap step old new = (floor_move_is gap step old new, is_floor_move gap step old new)
