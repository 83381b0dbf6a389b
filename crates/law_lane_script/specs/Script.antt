-- EACH LANE DOES ITS LINES: the run of a script over several lanes is on each of them the run of the
-- script's lines as they are to that lane.
use Rattle.std.specs.Prelude.{◌≡◌, ◌≤◌, ℕ, Bool, true, false, List, [], ◌∷◌, if◌then◌else◌, take}
use Rattle.std.specs.List.{AllByRecursion}
use Rattle.line_script.specs.declared.line.LaneLine.{LaneLine}
use Rattle.line_report.specs.declared.happening.Happening.{Happening}
use Rattle.line_report.specs.declared.happening.Happening.TheVariants as happenings
use Rattle.line_step.specs.Homes.{IsHonest}
use Rattle.line_step.specs.Requests as requests
use Rattle.line_step.specs.Runs.{IsRun, IsShort, Point}
use Rattle.line_step.specs.State.{no_line}
use Rattle.line_step.specs.Tracks.{TrackLine, other_line, own_line}
use Rattle.law_one_standing.specs.Standing.{IsFitTrack}
use Rattle.law_lanes.specs.Along.{IsFitLaneLine, all_done, told_for}
use Rattle.law_lanes.specs.Lanes.{no_lanes, track}
use Rattle.law_lanes.specs.Parts.{IsLaneRun, LanePoint, all_points}
use Rattle.law_lanes.specs.Parts as lanes
use Rattle.law_lanes.specs.Views.{has_lie_on}
use Rattle.law_lane_ids.specs.Played.{lines_done}
use Rattle.law_lane_script.specs.Lines.{lines_on}

-- ---- what is told of a lane

-- all but the standings that changed
abbrev pub is_standing : Happening → Bool
is_standing (happenings.With machine id) = true
is_standing (happenings.Between gap id) = true
is_standing (happenings.Gone id) = true
is_standing _ = false

abbrev pub beside_standings : List Happening → List Happening
beside_standings [] = []
beside_standings (happening ∷ told) =
    if is_standing happening then beside_standings told else happening ∷ beside_standings told

-- a line of this lane alone: not one that is shown, comes or stops on several
abbrev pub is_of_lane : TrackLine → Bool
is_of_lane other_line = false
is_of_lane (own_line requests.nothing) = false
is_of_lane (own_line requests.shows) = false
is_of_lane (own_line (requests.adds lane is_bridge capacity used)) = false
is_of_lane (own_line (requests.stops machine)) = false
is_of_lane (own_line request) = true

-- a point of the lane: the state is that of the lane, what is done is what is told of the lane, and
-- of a line of the lane alone all is, that it was refused too, but for standings
pub record IsPointOf (lane : ℕ) (line : TrackLine) (point : LanePoint) (own : Point)
    : Type 0 where
  pub after : own.after ≡ track lane point.after
  pub done : all_done own.told ≡ all_done (told_for lane point.told)
  pub told : is_of_lane line ≡ true
      → beside_standings own.told ≡ beside_standings (told_for lane point.told)

-- one for each line of it
pub data ArePointsOf (lane : ℕ) : List TrackLine → List LanePoint → List Point → Type 0 where
  no_points : ArePointsOf lane [] [] []
  more_points : {line : TrackLine} {lines : List TrackLine} {point : LanePoint}
      {points : List LanePoint} {own : Point} {owns : List Point}
      → IsPointOf lane line point own → ArePointsOf lane lines points owns
      → ArePointsOf lane (line ∷ lines) (point ∷ points) (own ∷ owns)

-- ---- the run

-- of these lines, short; up to the first lie on any lane fit, with boards that come only where they
-- weren't at home
pub record DoesLines (lane : ℕ) (lines : List TrackLine) (points : List LanePoint) : Type 0 where
  pub own : List Point
  pub run : IsRun no_line lines own
  pub short : IsShort no_line own
  pub beside : ArePointsOf lane lines points own
  pub honest : (n : ℕ) → has_lie_on (take n points) ≡ false
      → IsHonest lines own n × AllByRecursion IsFitTrack (take n lines)

-- the lines of a lane of a script, a stop by its parts
abbrev pub script_on : ℕ → List LaneLine → List (List LanePoint) → List TrackLine
script_on lane asked done =
    lines_on lane no_lanes (lines_done no_lanes asked done) (all_points done)

-- THE LAW
abbrev pub EachLaneDoesItsLines : Type 0
EachLaneDoesItsLines =
    (asked : List LaneLine) (done : List (List LanePoint)) (lane : ℕ) → 1 ≤ lane
    → AllByRecursion IsFitLaneLine asked → lanes.IsShort no_lanes (all_points done)
    → IsLaneRun no_lanes asked done
    → DoesLines lane (script_on lane asked done) (all_points done)
