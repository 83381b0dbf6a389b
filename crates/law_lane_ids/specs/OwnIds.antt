-- IDS OF ALL LANES: no two boards of the whole line share one, and an id that is made on any lane was
-- named on none before.
use Rattle.std.specs.Prelude.{◌≡◌, ◌≤◌, ◌++◌, ℕ, List, [], ◌∷◌}
use Rattle.std.specs.List.{AllByRecursion}
use Rattle.line_script.specs.declared.line.LaneLine.{LaneLine}
use Rattle.line_world.specs.Ids.{IdsDiffer}
use Rattle.line_report.specs.declared.happening.LaneHappening.{LaneHappening}
use Rattle.line_step.specs.FloorIds.{IsNoneOf, handled_by, made_by}
use Rattle.law_lanes.specs.Along.{IsFitLaneLine, IsOnFloor, told_for}
use Rattle.law_lanes.specs.Lanes.{Lanes, no_lanes, track}
use Rattle.law_lanes.specs.Parts.{IsLaneRun, IsShort, LanePoint, all_points}

-- no two boards share an id, on one lane or on two
pub record HasOwnIds (s : Lanes) : Type 0 where
  pub differ : (lane : ℕ) → 1 ≤ lane → IdsDiffer (track lane s).world.floor
  pub apart : (id lane other : ℕ) → 1 ≤ lane → 1 ≤ other → IsOnFloor id (track lane s)
      → IsOnFloor id (track other s) → lane ≡ other

-- each id that is made on a lane, by an insertion or a replacement, is none of those that were named
-- by hand on any lane before
abbrev pub MakesNew : List LaneHappening → List LaneHappening → Type 0
MakesNew past told =
    (lane other : ℕ) → 1 ≤ lane → 1 ≤ other
    → AllByRecursion (IsNoneOf (handled_by (told_for other past))) (made_by (told_for lane told))

-- along the points of a run: `past` is all that was told before
abbrev pub AreNew : List LaneHappening → List LanePoint → Type 0
AreNew past [] = Unit {0}
AreNew past (point ∷ points) = MakesNew past point.told × AreNew (past ++ point.told) points

-- over the whole run of a script
pub record HasIdsOnLanes (points : List LanePoint) : Type 0 where
  pub differ : AllByRecursion (λ (point : LanePoint). HasOwnIds point.after) points
  pub new : AreNew [] points

-- THE LAW: it holds of every run
abbrev pub IdsOfAllLanes : Type 0
IdsOfAllLanes =
    (asked : List LaneLine) (done : List (List LanePoint)) → AllByRecursion IsFitLaneLine asked
    → IsShort no_lanes (all_points done) → IsLaneRun no_lanes asked done
    → HasIdsOnLanes (all_points done)
