-- The ids of the boards on the floor, in lists and gaps: which line of the script changes them,
-- and how.
use Rattle.std.specs.Prelude.{◌≡◌, ◌≢◌, ◌++◌, ℕ, true, List, [], ◌∷◌, Some, None}
use Rattle.line_base.specs.declared.states.Side.TheVariants.{Entry, Exit}
use Rattle.std.specs.List.{AllByRecursion}
use Rattle.line_world.specs.declared.board.Board.{Board}
use Rattle.line_world.specs.FloorPlan.{has_id}
use Rattle.line_world.specs.Boards.{ChangesId, LosesBoard, boards_on}
use Rattle.line_world.specs.Ids.{IdsDiffer}
use Rattle.line_world.specs.declared.moves.Move.TheVariants as moves
use Rattle.node_core.specs.declared.act.Act.TheVariants as acts
use Rattle.line_report.specs.declared.happening.Happening.{Happening}
use Rattle.line_report.specs.declared.happening.Happening.TheVariants as happenings
use Rattle.line_step.specs.State.{LineState, no_line}
use Rattle.line_step.specs.Runs.{Point, IsRun}
use Rattle.line_step.specs.Tracks.{TrackLine}

-- all boards on the floor
abbrev pub boards_of : LineState → List Board
boards_of s = boards_on s.world.floor

-- ---- IDS STAY: an insertion adds a board with its id, a removal and a done `take` take one away, a
-- replacement puts another id for one in its place; a board that goes to another lane goes from this
-- track, and one that comes from there is added with its id; a board that comes out of a bridge's
-- segment unseen has no id, one that goes into it unseen is taken away; and nothing else that happens
-- changes a board

abbrev pub ChangesBoards : Happening → List Board → List Board → Type 0
ChangesBoards (happenings.Done machine (acts.Inserts id)) old new =
    LosesBoard new old (record { id = Some id })
ChangesBoards (happenings.Done machine (acts.Removes id)) old new =
    (board : Board) × (has_id id board ≡ true) × LosesBoard old new board
ChangesBoards (happenings.Done machine (acts.Replaces was now)) old new = ChangesId was now old new
ChangesBoards (happenings.Done machine (acts.Gives id to)) old new =
    (board : Board) × (has_id id board ≡ true) × LosesBoard old new board
ChangesBoards (happenings.Done machine (acts.Gets id)) old new =
    LosesBoard new old (record { id = Some id })
ChangesBoards (happenings.Moved gap moves.Take) old new =
    (board : Board) × LosesBoard old new board
ChangesBoards (happenings.Unseen machine Entry) old new = LosesBoard new old (record { id = None })
ChangesBoards (happenings.Unseen machine Exit) old new = (board : Board) × LosesBoard old new board
ChangesBoards _ old new = new ≡ old

-- what happened one after the other
abbrev pub AllChange : List Happening → List Board → List Board → Type 0
AllChange [] old new = new ≡ old
AllChange (happening ∷ told) old new =
    (between : List Board) × ChangesBoards happening old between × AllChange told between new

-- ---- UNIQUE IDS: those that were made, by an insertion or a replacement, and those that were named
-- by hand

abbrev pub made_in : Happening → List ℕ
made_in (happenings.Done machine (acts.Inserts id)) = id ∷ []
made_in (happenings.Done machine (acts.Replaces was now)) = now ∷ []
made_in _ = []

abbrev pub made_by : List Happening → List ℕ
made_by [] = []
made_by (happening ∷ told) = made_in happening ++ made_by told

abbrev pub handled_in : Happening → List ℕ
handled_in (happenings.Done machine (acts.Inserts id)) = id ∷ []
handled_in (happenings.Done machine (acts.Removes id)) = id ∷ []
handled_in (happenings.Done machine (acts.Replaces was now)) = was ∷ now ∷ []
handled_in (happenings.Done machine (acts.Gives id to)) = id ∷ []
handled_in (happenings.Done machine (acts.Gets id)) = id ∷ []
handled_in _ = []

abbrev pub handled_by : List Happening → List ℕ
handled_by [] = []
handled_by (happening ∷ told) = handled_in happening ++ handled_by told

-- an id is none of these
abbrev pub IsNoneOf : List ℕ → ℕ → Type 0
IsNoneOf ids id = AllByRecursion (λ other. other ≢ id) ids

-- each new id is one that no board had before, on the floor or off it
abbrev pub IsFresh : List ℕ → List Point → Type 0
IsFresh seen [] = Unit {0}
IsFresh seen (point ∷ points) =
    AllByRecursion (IsNoneOf seen) (made_by point.told)
    × IsFresh (seen ++ handled_by point.told) points

-- ---- over a run

abbrev pub KeepsIds : LineState → List Point → Type 0
KeepsIds s [] = Unit {0}
KeepsIds s (point ∷ points) =
    AllChange point.told (boards_of s) (boards_of point.after) × KeepsIds point.after points

-- unique ids, and ids that stay, over the whole run of a script
pub record HasOwnIds (points : List Point) : Type 0 where
  pub differ : AllByRecursion (λ (point : Point). IdsDiffer point.after.world.floor) points
  pub fresh : IsFresh [] points
  pub stay : KeepsIds no_line points

-- THE LAW: it holds of every run
abbrev pub IdsStay : Type 0
IdsStay =
    (asked : List TrackLine) (points : List Point) → IsRun no_line asked points → HasOwnIds points
