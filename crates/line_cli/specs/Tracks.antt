-- EACH LANE IS A TRACK: the run of each script that is read is on each lane the run of a track, of
-- which the laws over runs speak.
use Rattle.std.specs.Prelude.{◌≡◌, ◌≤◌, ℕ, false, List, take}
use Rattle.std.specs.List.{AllByRecursion}
use Rattle.law_lanes.specs.Along.{IsHonestTrackOf, IsOnOneLane, IsTrackOf, StandsOnEach}
use Rattle.law_lanes.specs.Lanes.{no_lanes}
use Rattle.law_lanes.specs.Parts.{IsLaneRun, LanePoint, all_points}
use Rattle.law_lanes.specs.Views.{has_lie_on}
use Rattle.law_lane_ids.specs.OwnIds.{HasIdsOnLanes}
use Rattle.law_lane_script.specs.Script.{DoesLines, script_on}
use Rattle.law_lane_shifts.specs.Shifted.{ShiftsLeave}
use Rattle.line_commands.specs.Script.{script_of}

-- whatever bytes a script is read from: short on each lane, and up to the first lie on any lane fit,
-- with boards that come only where they weren't at home
abbrev pub EachLaneIsRun : Type 0
EachLaneIsRun =
    (bytes : List ℕ) (done : List (List LanePoint)) (lane : ℕ) → 1 ≤ lane
    → IsLaneRun no_lanes (script_of bytes).lines done → IsTrackOf lane (all_points done)

-- and it is the run of the script's own lines, each as it is to that lane: what is done in it is what
-- is told of the lane, and of a line of the lane alone all is, that it is refused too, but for
-- standings
abbrev pub EachLaneDoesItsScript : Type 0
EachLaneDoesItsScript =
    (bytes : List ℕ) (done : List (List LanePoint)) (lane : ℕ) → 1 ≤ lane
    → IsLaneRun no_lanes (script_of bytes).lines done
    → DoesLines lane (script_on lane (script_of bytes).lines done) (all_points done)

-- and up to there it is a run of which each law over runs speaks
abbrev pub EachFrontIsRun : Type 0
EachFrontIsRun =
    (bytes : List ℕ) (done : List (List LanePoint)) (n lane : ℕ) → 1 ≤ lane
    → IsLaneRun no_lanes (script_of bytes).lines done
    → has_lie_on (take n (all_points done)) ≡ false
    → IsHonestTrackOf lane (take n (all_points done))

-- so behind all that a line does each board on each lane has one standing there, the custody facts
-- hold on each, and no id has marks on two
abbrev pub EachRecordStandsOnLanes : Type 0
EachRecordStandsOnLanes =
    (bytes : List ℕ) (done : List (List LanePoint)) (n : ℕ)
    → IsLaneRun no_lanes (script_of bytes).lines done
    → has_lie_on (take n (all_points done)) ≡ false
    → AllByRecursion (λ (point : LanePoint). StandsOnEach point.after) (take n (all_points done))

-- and up to that line no id has marks on two lanes
abbrev pub EachRecordHasOneLane : Type 0
EachRecordHasOneLane =
    (bytes : List ℕ) (done : List (List LanePoint)) (n : ℕ)
    → IsLaneRun no_lanes (script_of bytes).lines done
    → has_lie_on (take n (all_points done)) ≡ false
    → AllByRecursion (λ (point : LanePoint). IsOnOneLane point.after) (take n (all_points done))

-- and over a shift the record of the board stays the same, word for word
abbrev pub EachShiftKeepsTheRecord : Type 0
EachShiftKeepsTheRecord =
    (bytes : List ℕ) (done : List (List LanePoint)) (n : ℕ)
    → IsLaneRun no_lanes (script_of bytes).lines done
    → has_lie_on (take n (all_points done)) ≡ false
    → ShiftsLeave no_lanes (take n (all_points done))

-- in any case ids are new on all lanes, and the boards' own
abbrev pub EachScriptHasOwnIds : Type 0
EachScriptHasOwnIds =
    (bytes : List ℕ) (done : List (List LanePoint))
    → IsLaneRun no_lanes (script_of bytes).lines done → HasIdsOnLanes (all_points done)
