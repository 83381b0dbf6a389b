-- Ids that differ on a floor differ after each change of it.
use Rattle.std.proofs.Common.{◌≡◌, ℕ, ◌≤◌, ◌++◌, ◌∷◌, List, Bool, true, false, length, refl, arith}
use Rattle.std.specs.Prelude.{Ok, Some, filter}
use Rattle.line_world.specs.declared.board.Board.{Board}
use Rattle.line_world.specs.declared.gap.Gap.{Gap}
use Rattle.line_world.specs.declared.moves.Move.{Move}
use Rattle.line_world.specs.declared.moves.Move.TheVariants as moves
use Rattle.line_world.specs.FloorPlan.{FloorPlan, IsWhole, gap_at, has_id}
use Rattle.line_world.specs.Moves.{floor_move}
use Rattle.line_world.specs.Boards.{ChangesId, KeepsBoards, LosesBoard, boards_on}
use Rattle.line_world.specs.Ids.{HasFreshId, IdsDiffer}
use Rattle.line_world.proofs.Keeping.{keeps_boards}
use Rattle.line_world.proofs.Placing.{boards_of_nowhere, changed_with, lost_with}

pub same_differ : (old new : FloorPlan) → boards_on new ≡ boards_on old → IdsDiffer old → IdsDiffer new
same_differ old new same differ = record { once = λ id. rw same (differ.once id) }

pub loses_differ : (old new : FloorPlan) (board : Board) → LosesBoard (boards_on old) (boards_on new) board → IdsDiffer old → IdsDiffer new
loses_differ old new board loss differ = record {
  once = λ id.
      let before = rw loss.before at (differ.once id) in
      let lost = lost_with id loss.front loss.back board (has_id id board) refl in
      rw loss.after (omega (arith, before, lost));
}

gained_once : (old new : FloorPlan) (board : Board) (id : ℕ) (has : Bool) → has_id id board ≡ has → LosesBoard (boards_on new) (boards_on old) board → HasFreshId old board → IdsDiffer old
    → length (filter (has_id id) (boards_on new)) ≤ 1
gained_once old new board id true is gain fresh differ =
    let none = rw gain.after at (boards_of_nowhere id old (fresh id is)) in
    let more = lost_with id gain.front gain.back board true is in
    rw gain.before (omega (arith, none, more))
gained_once old new board id false is gain fresh differ =
    let before = rw gain.after at (differ.once id) in
    let more = lost_with id gain.front gain.back board false is in
    rw gain.before (omega (arith, before, more))

pub gains_differ : (old new : FloorPlan) (board : Board) → LosesBoard (boards_on new) (boards_on old) board → HasFreshId old board → IdsDiffer old → IdsDiffer new
gains_differ old new board gain fresh differ = record { once = λ id. gained_once old new board id (has_id id board) refl gain fresh differ }

changed_once : (now : ℕ) (old new : FloorPlan) (front back : List Board) (board renamed : Board) (id : ℕ) (has : Bool) → has_id id renamed ≡ has
    → boards_on old ≡ front ++ board ∷ back → boards_on new ≡ front ++ renamed ∷ back
    → (has_id id renamed ≡ true → length (filter (has_id id) (boards_on old)) ≡ 0) → length (filter (has_id id) (boards_on old)) ≤ 1
    → length (filter (has_id id) (boards_on new)) ≤ 1
changed_once now old new front back board renamed id true is before after none most =
    let nothing = rw before at (none is) in
    let same = changed_with id front back board renamed (has_id id board) true refl is in
    rw after (omega (arith, nothing, same))
changed_once now old new front back board renamed id false is before after none most =
    let few = rw before at most in
    let same = changed_with id front back board renamed (has_id id board) false refl is in
    rw after (omega (arith, few, same))

pub changes_differ : (was now : ℕ) (old new : FloorPlan) → ChangesId was now (boards_on old) (boards_on new) → HasFreshId old (record { id = Some now }) → IdsDiffer old → IdsDiffer new
changes_differ was now old new change fresh differ =
    let there = change.2 in
    record {
      once = λ id.
          changed_once now old new there.front there.back change.0 (record { id = Some now }) id (has_id id (record { id = Some now })) refl there.before there.after
          (λ is. boards_of_nowhere id old (fresh id is)) (differ.once id);
    }

keeps_differ : (step : Move) (lies : Gap) (old new : FloorPlan) → KeepsBoards step lies (boards_on old) (boards_on new) → IdsDiffer old → IdsDiffer new
keeps_differ moves.Begin lies old new kept differ = same_differ old new kept differ
keeps_differ moves.Left lies old new kept differ = same_differ old new kept differ
keeps_differ moves.Enter lies old new kept differ = same_differ old new kept differ
keeps_differ moves.Back lies old new kept differ = same_differ old new kept differ
keeps_differ moves.HandIn lies old new kept differ = same_differ old new kept differ
keeps_differ moves.Take lies old new kept differ = loses_differ old new kept.0 kept.2 differ

pub moves_differ : (gap : ℕ) (step : Move) (old new : FloorPlan) → IsWhole old → floor_move gap step old ≡ Ok new → IdsDiffer old → IdsDiffer new
moves_differ gap step old new whole done differ = keeps_differ step (gap_at old gap).lies old new (keeps_boards gap step old new whole done) differ
