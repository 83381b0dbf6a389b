-- ONE STANDING: each board's record stands with one machine, or in one handover between two
-- neighbours.
use Rattle.std.specs.Prelude.{Bool, List, Some, [], false, take, true, ℕ, ◌-◌, ◌∷◌, ◌≡◌, ◌≢◌, ◌≤◌, ◌⊎◌}
use Rattle.std.specs.List.{AllByRecursion}
use Rattle.line_world.specs.Boards.{boards_in}
use Rattle.line_world.specs.FloorPlan.{gap_at, machine_at}
use Rattle.line_world.specs.declared.board.Board.{Board}
use Rattle.line_script.specs.declared.line.ScriptLine.{ScriptLine}
use Rattle.standings.specs.Marks.{has_id, is_held}
use Rattle.standings.specs.Standing.{HasStanding, Place}
use Rattle.standings.specs.declared.standing.Standing.TheVariants.{Between, With}
use Rattle.line_step.specs.Homes.{IsHonest}
use Rattle.line_step.specs.Numbered.{node_at}
use Rattle.line_step.specs.Requests.{adds, gives, Request, request_of}
use Rattle.line_step.specs.Runs.{IsRun, Point, IsShort}
use Rattle.line_step.specs.State.{LineState, marks_in, no_line, owned_by}
use Rattle.line_step.specs.Tracks.{TrackLine, asked_on}
use Rattle.law_machine_custody.specs.Good.{Lies}
use Rattle.law_link_messages.specs.Fit.{IsFitInput}

-- no id lies twice in a list
pub data AreOnce : List Board → Type 0 where
  once_none : AreOnce []
  once_more : {board : Board} {boards : List Board}
      → ((id : ℕ) → board.id ≡ Some id → Lies id boards → ⊥) → AreOnce boards
      → AreOnce (board ∷ boards)

-- a board in a machine's list has an id, and stands with the machine or in a handover at one of
-- its two gaps
pub record IsListed (s : LineState) (machine : ℕ) (board : Board) : Type 0 where
  pub id : ℕ
  pub named : board.id ≡ Some id
  pub stands : HasStanding (marks_in s id) (With machine) ⊎
      (HasStanding (marks_in s id) (Between machine) ⊎ HasStanding (marks_in s id)
      (Between (machine - 1)))

-- a board in a gap has an id, and stands in the handover there
pub record IsHandedOver (s : LineState) (gap : ℕ) (board : Board) : Type 0 where
  pub id : ℕ
  pub named : board.id ≡ Some id
  pub stands : HasStanding (marks_in s id) (Between gap)

-- what a machine keeps, and what its outlet holds
abbrev pub is_kept_at : LineState → ℕ → ℕ → Bool
is_kept_at s machine id = has_id id (owned_by (node_at s machine)).kept

abbrev pub is_held_at : LineState → ℕ → ℕ → Bool
is_held_at s machine id = is_held id (owned_by (node_at s machine)).held

-- every id with a mark has a standing, and so has every board; a machine keeps the records of
-- boards that lie in its list, and none that its outlet holds; no list has an id twice; and one id
-- at most is in the handover at a gap
pub record HasOneStanding (s : LineState) : Type 0 where
  pub each : (id : ℕ) → marks_in s id ≢ [] → (standing : Place)
      × HasStanding (marks_in s id) standing
  pub listed : (machine : ℕ)
      → AllByRecursion (IsListed s machine) (machine_at s.world.floor machine).boards
  pub handed_over : (gap : ℕ)
      → AllByRecursion (IsHandedOver s gap) (boards_in (gap_at s.world.floor gap).lies)
  pub kept_here : (machine id : ℕ) → is_kept_at s machine id ≡ true
      → Lies id (machine_at s.world.floor machine).boards
  pub kept_alone : (machine id : ℕ) → is_kept_at s machine id ≡ true
      → is_held_at s machine id ≡ true → ⊥
  pub once : (machine : ℕ) → AreOnce (machine_at s.world.floor machine).boards
  pub alone : (gap id other : ℕ) → HasStanding (marks_in s id) (Between gap)
      → HasStanding (marks_in s other) (Between gap) → id ≡ other

-- an input that is asked for is fit: its barcode is a text, and a place on a panel has at most nine
-- digits
abbrev pub IsFitRequest : Request → Type 0
IsFitRequest (gives machine input) = IsFitInput input
IsFitRequest (adds lane is_bridge capacity used) = lane ≤ 4
IsFitRequest _ = Unit {0}

-- so it is of a line of a script, as of every one which is read
abbrev pub IsFitLine : ScriptLine → Type 0
IsFitLine line = IsFitRequest (request_of line)

-- and of a line on a track
abbrev pub IsFitTrack : TrackLine → Type 0
IsFitTrack line = IsFitRequest (asked_on line)

-- THE LAW: it holds after each line of every script, up to the first one that told what was not
-- so, or on whose track a board came where it was at home already. A script has at most 1,000,000 lines
abbrev pub OneStanding : Type 0
OneStanding =
    (asked : List TrackLine) (points : List Point) (n : ℕ) → AllByRecursion IsFitTrack asked
    → IsShort no_line points → IsRun no_line asked points → IsHonest asked points n
    → AllByRecursion (λ (point : Point). HasOneStanding point.after) (take n points)
