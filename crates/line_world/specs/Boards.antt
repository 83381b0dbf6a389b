use Rattle.std.specs.Prelude.{◌≡◌, ◌≢◌, ◌+◌, ◌++◌, ◌∷◌, [], ℕ, true, false, List, Some, filter, map}
use Rattle.line_world.specs.declared.board.Board.{Board}
use Rattle.line_world.specs.declared.gap.Gap.{Gap}
use Rattle.line_world.specs.declared.gap.Gap.TheVariants as gaps
use Rattle.line_world.specs.declared.gap.AtGap.{AtGap}
use Rattle.line_world.specs.declared.moves.Move.{Move}
use Rattle.line_world.specs.declared.moves.Move.TheVariants as moves
use Rattle.line_world.specs.FloorPlan.{AtMachine, FloorPlan, has_id}

abbrev pub boards_in : Gap → List Board
boards_in gaps.Free = []
boards_in (gaps.Begun board) = board ∷ []
boards_in (gaps.Left board) = board ∷ []

abbrev pub boards_along : List AtMachine → List AtGap → List Board
boards_along [] gaps = []
boards_along (machine ∷ machines) [] = boards_along machines [] ++ machine.boards
boards_along (machine ∷ machines) (gap ∷ gaps) =
    boards_along machines gaps ++ (boards_in gap.lies ++ machine.boards)

-- all boards of the floor in the order in which they come out of the line: from the exit of the
-- last machine back to the entry of the first
abbrev pub boards_on : FloorPlan → List Board
boards_on plan = boards_along plan.machines plan.gaps

-- these are the same boards in the same order, but for this one, which is gone
pub record LosesBoard (old new : List Board) (board : Board) : Type 0 where
  pub front : List Board
  pub back : List Board
  pub before : old ≡ front ++ board ∷ back
  pub after : new ≡ front ++ back

-- a move neither makes nor loses a board, and none overtakes another; but `take` takes the one
-- board that lies in the gap
abbrev pub KeepsBoards : Move → Gap → List Board → List Board → Type 0
KeepsBoards moves.Begin lies old new = new ≡ old
KeepsBoards moves.Left lies old new = new ≡ old
KeepsBoards moves.Enter lies old new = new ≡ old
KeepsBoards moves.Back lies old new = new ≡ old
KeepsBoards moves.HandIn lies old new = new ≡ old
KeepsBoards moves.Take lies old new =
    (board : Board) × (boards_in lies ≡ board ∷ []) × LosesBoard old new board

-- these are the same boards in the same order, but for this one, in whose stead stands another
pub record ChangesBoard (old new : List Board) (was now : Board) : Type 0 where
  pub front : List Board
  pub back : List Board
  pub before : old ≡ front ++ was ∷ back
  pub after : new ≡ front ++ now ∷ back

-- one board that has the first of these ids gets the second
abbrev pub ChangesId : ℕ → ℕ → List Board → List Board → Type 0
ChangesId was now old new =
    (board : Board) × (has_id was board ≡ true)
    × ChangesBoard old new board (record { id = Some now })

-- a place of the floor: a machine or a gap, by its number
pub data Place : Type 0 where
  machine_number : ℕ → Place
  gap_number : ℕ → Place

abbrev pub places_along : ℕ → ℕ → List AtMachine → List AtGap → List Place
places_along id number [] gaps = []
places_along id number (machine ∷ machines) [] =
    places_along id (number + 1) machines []
    ++ map (λ _. machine_number number) (filter (has_id id) machine.boards)
places_along id number (machine ∷ machines) (gap ∷ gaps) =
    places_along id (number + 1) machines gaps
    ++ (map (λ _. gap_number number) (filter (has_id id) (boards_in gap.lies))
    ++ map (λ _. machine_number number) (filter (has_id id) machine.boards))

-- where the boards with this id are: a place for each of them
abbrev pub places_of : ℕ → FloorPlan → List Place
places_of id plan = places_along id 1 plan.machines plan.gaps

abbrev pub IsInOnePlace : ℕ → FloorPlan → Type 0
IsInOnePlace id plan = (place : Place) × (places_of id plan ≡ place ∷ [])

abbrev pub IsNowhere : ℕ → FloorPlan → Type 0
IsNowhere id plan = places_of id plan ≡ []

-- after a `take`: nowhere, if this is the board that was taken, and else in one place
abbrev pub StaysUnlessTaken : ℕ → List Board → FloorPlan → Type 0
StaysUnlessTaken id [] plan = IsInOnePlace id plan
StaysUnlessTaken id (_ ∷ _) plan = IsNowhere id plan

-- a board that is in exactly one place is so after the move; but one that `take` takes is nowhere
abbrev pub KeepsPlaces : Move → Gap → FloorPlan → FloorPlan → Type 0
KeepsPlaces moves.Begin lies old new = (id : ℕ) → IsInOnePlace id old → IsInOnePlace id new
KeepsPlaces moves.Left lies old new = (id : ℕ) → IsInOnePlace id old → IsInOnePlace id new
KeepsPlaces moves.Enter lies old new = (id : ℕ) → IsInOnePlace id old → IsInOnePlace id new
KeepsPlaces moves.Back lies old new = (id : ℕ) → IsInOnePlace id old → IsInOnePlace id new
KeepsPlaces moves.HandIn lies old new = (id : ℕ) → IsInOnePlace id old → IsInOnePlace id new
KeepsPlaces moves.Take lies old new =
    (id : ℕ) → IsInOnePlace id old → StaysUnlessTaken id (filter (has_id id) (boards_in lies)) new

-- a board that was in one place is so again; the one that is taken out is nowhere
abbrev pub LosesPlace : FloorPlan → FloorPlan → Board → Type 0
LosesPlace old new board =
    (id : ℕ) → IsInOnePlace id old → StaysUnlessTaken id (filter (has_id id) (board ∷ [])) new

-- and one that comes is in one place, if there was none with its id
pub record GainsPlace (old new : FloorPlan) (board : Board) : Type 0 where
  pub own : (id : ℕ) → has_id id board ≡ true → IsNowhere id old → IsInOnePlace id new
  pub others : (id : ℕ) → has_id id board ≡ false → IsInOnePlace id old → IsInOnePlace id new

-- and so is one that gets an id that no other has
pub record ChangesPlace (was now : ℕ) (old new : FloorPlan) : Type 0 where
  pub before : was ≢ now → IsInOnePlace was old → IsNowhere was new
  pub after : was ≢ now → IsNowhere now old → IsInOnePlace now new
  pub others : (id : ℕ) → id ≢ was → id ≢ now → IsInOnePlace id old → IsInOnePlace id new
