-- OVER EACH LANE: what holds of a state, and of whatever a lane does next in each state of a line.
use Rattle.std.specs.Prelude.{◌≡◌, ◌++◌, ◌+◌, ◌≤◌, ℕ, List, [], ◌∷◌, Option, None, Some, length}
use Rattle.line_script.specs.declared.line.LaneLine.{LaneLine}
use Rattle.line_script.specs.declared.line.LaneLine.TheVariants as lane_lines
use Rattle.line_script.specs.declared.line.ScriptLine.TheVariants as lines
use Rattle.line_report.specs.declared.happening.Happening.{Happening}
use Rattle.line_report.specs.declared.happening.LaneHappening.{LaneHappening}
use Rattle.line_step.specs.Homes.{IsNewcomer}
use Rattle.line_step.specs.Requests.{Request}
use Rattle.line_step.specs.Runs.{IsRun, Point}
use Rattle.line_step.specs.Runs.{state_behind as state_behind_track, all_told as told_by_track}
use Rattle.line_step.specs.State.{LineState, no_line}
use Rattle.line_step.specs.Tracks.{TrackLine, TrackSteps, own_line}
use Rattle.law_one_standing.specs.Standing.{IsFitRequest}
use Rattle.law_lanes.specs.Lanes.{Lanes, track, unvouched_of}
use Rattle.law_lanes.specs.Parts.{IsLanePlay, LanePart, LanePoint, all_told, parts_of, state_behind}
use Rattle.law_lanes.specs.Steps.{LanesStep}

-- of a state, on each of its lanes
abbrev pub EachLaneNow : (LineState → Type 0) → Lanes → Type 0
EachLaneNow Holds s = (lane : ℕ) → 1 ≤ lane → Holds (track lane s)

-- nobody vouches for a lane where nobody does for the line
abbrev pub AreVouchedAlike : Lanes → Type 0
AreVouchedAlike s = (lane : ℕ) → 1 ≤ lane → (track lane s).unvouched ≡ unvouched_of s

-- ---- of whatever a track does next

-- a board that comes isn't at home on the track, by whatever run has led to it
abbrev pub ComesNew : Request → LineState → Type 0
ComesNew request s =
    (asked : List TrackLine) (points : List Point) → IsRun no_line asked points
    → state_behind_track no_line points ≡ s → IsNewcomer (told_by_track points) (own_line request)

-- behind a lie too
abbrev pub NextEver : (LineState → LineState → List Happening → Type 0) → LineState → Type 0
NextEver Holds s =
    (request : Request) (after : LineState) (told : List Happening) → IsFitRequest request
    → s.lines + 1 ≤ 1000000 → TrackSteps (s.lines + 1) (own_line request) s after told
    → Holds s after told

-- while no line told what was not so
abbrev pub Next : (LineState → LineState → List Happening → Type 0) → LineState → Type 0
Next Holds s =
    (request : Request) (after : LineState) (told : List Happening) → IsFitRequest request
    → ComesNew request s → s.lines + 1 ≤ 1000000
    → TrackSteps (s.lines + 1) (own_line request) s after told → after.unvouched ≡ None
    → Holds s after told

-- ---- over a line of a script

-- of the state before points, and of that behind each
abbrev pub AtEach : (LineState → Type 0) → Lanes → List LanePoint → Type 0
AtEach Holds s [] = EachLaneNow Holds s
AtEach Holds s (point ∷ points) = EachLaneNow Holds s × AtEach Holds point.after points

-- of a line of a script: its parts were done one behind the other, and in each state from the one
-- before them on it holds of each lane
pub record EachNext (Holds : LineState → Type 0) (line : LaneLine) (before after : Lanes)
    (told : List LaneHappening) : Type 0 where
  pub points : List LanePoint
  pub plays : IsLanePlay before (parts_of (length before.tracks) line) points
  pub behind : state_behind before points ≡ after
  pub told_is : told ≡ all_told points
  pub each : AtEach Holds before points

-- one part more, told of behind what was told
pub record GoesOn (number : ℕ) (line : LaneLine) (before after : Lanes)
    (told now : List LaneHappening) : Type 0 where
  pub more : List LaneHappening
  pub steps : LanesStep number line before after more
  pub now_is : now ≡ told ++ more

-- parts that were done, told of behind what was told
pub record Plays (parts : List LanePart) (before after : Lanes) (told now : List LaneHappening)
    : Type 0 where
  pub points : List LanePoint
  pub plays : IsLanePlay before parts points
  pub behind : state_behind before points ≡ after
  pub now_is : now ≡ told ++ all_told points

-- the machine that a line stops, if it does
abbrev pub stopped : LaneLine → Option ℕ
stopped (lane_lines.On lane (lines.Stop machine)) = Some machine
stopped _ = None
