-- TWELVE LINK STEPS OF A LANE: from a state that is announced on a lane for a gap and a board, in every
-- stretch of a script's lines that doesn't disturb it, the handover ends within twelve link steps of
-- that gap and lane; before the end one of them can be done; and what the intake holds of it, and
-- what the machine below keeps of it, is the record that stood at the front above the gap.
--
-- A link step is a line of the lane that asks for one and is told no reason against it.
use Rattle.std.specs.Prelude.{◌≡◌, ◌≤◌, ℕ, false, List, map}
use Rattle.std.specs.List.{AllByRecursion}
use Rattle.line_script.specs.declared.line.LaneLine.{LaneLine}
use Rattle.line_step.specs.Runs.{Point}
use Rattle.law_twelve_steps.specs.Announced.{IsAnnounced}
use Rattle.law_twelve_steps.specs.Twelve.{EndsWithin}
use Rattle.law_lanes.specs.Along.{IsFitLaneLine, told_for}
use Rattle.law_lanes.specs.Lanes.{no_lanes, track}
use Rattle.law_lanes.specs.Parts.{IsLaneRun, IsShort, LanePoint, all_points, state_behind}
use Rattle.law_lanes.specs.Views.{has_lie_on}
use Rattle.law_lane_ids.specs.Played.{lines_done}
use Rattle.law_lane_script.specs.Lines.{lines_on}
use Rattle.law_lane_steps.specs.Undisturbed.{IsUndisturbedOn}

-- a lane at a point of the line: what is told of it, and its state
abbrev pub point_on : ℕ → LanePoint → Point
point_on lane point = record { told = told_for lane point.told; after = track lane point.after }

abbrev pub points_on : ℕ → List LanePoint → List Point
points_on lane points = map (point_on lane) points

-- a script that led to a state on which somebody goes on with more lines of it: `earlier` and `done`
-- are its points, of which none told what was not so
pub record GoesOnFrom (asked stretch : List LaneLine) (earlier done : List (List LanePoint))
    : Type 0 where
  pub fit : AllByRecursion IsFitLaneLine asked
  pub more_fit : AllByRecursion IsFitLaneLine stretch
  pub short : IsShort no_lanes (all_points earlier)
  pub more_short : IsShort (state_behind no_lanes (all_points earlier)) (all_points done)
  pub run : IsLaneRun no_lanes asked earlier
  pub more : IsLaneRun (state_behind no_lanes (all_points earlier)) stretch done
  pub honest : has_lie_on (all_points earlier) ≡ false
  pub more_honest : has_lie_on (all_points done) ≡ false

-- THE LAW, of each such script, each lane, gap and board
abbrev pub EndsWithinTwelveOnLanes : Type 0
EndsWithinTwelveOnLanes =
    (asked stretch : List LaneLine) (earlier done : List (List LanePoint)) (lane k id : ℕ)
    → 1 ≤ lane → GoesOnFrom asked stretch earlier done
    → AllByRecursion (IsUndisturbedOn lane k) stretch
    → IsAnnounced (track lane (state_behind no_lanes (all_points earlier))) k id
    → EndsWithin 12 k id (track lane (state_behind no_lanes (all_points earlier)))
    (lines_on lane (state_behind no_lanes (all_points earlier))
    (lines_done (state_behind no_lanes (all_points earlier)) stretch done) (all_points done))
    (points_on lane (all_points done))
