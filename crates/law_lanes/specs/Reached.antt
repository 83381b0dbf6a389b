-- A LINE OF A SCRIPT OVER SEVERAL LANES, behind a run: in each state from the one before it on, the
-- parts of a stop among them, a run of a track has led to each lane.
use Rattle.std.specs.Prelude.{◌+◌, ◌≤◌, ℕ, List, [], ◌∷◌, length}
use Rattle.line_script.specs.declared.line.LaneLine.{LaneLine}
use Rattle.law_one_standing.specs.Reached.{IsReached}
use Rattle.law_lanes.specs.Along.{IsFitLaneLine, IsLaneReached}
use Rattle.law_lanes.specs.Lanes.{Lanes, lines_of, track}
use Rattle.law_lanes.specs.Parts.{IsLanePlay, LanePoint, parts_of}

abbrev pub AreReached : ℕ → Lanes → List LanePoint → Type 0
AreReached lane s [] = IsReached (track lane s)
AreReached lane s (point ∷ points) = IsReached (track lane s) × AreReached lane point.after points

abbrev pub EachPartIsReached : Type 0
EachPartIsReached =
    (line : LaneLine) (s : Lanes) (points : List LanePoint) (lane : ℕ) → IsLaneReached s
    → IsFitLaneLine line → lines_of s + 1 ≤ 1000000
    → IsLanePlay s (parts_of (length s.tracks) line) points → 1 ≤ lane → AreReached lane s points
