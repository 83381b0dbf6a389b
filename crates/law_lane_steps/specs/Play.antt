-- WHOEVER GOES ON ON A LANE ENDS IT: from a state that is announced on a lane for a gap and a board,
-- whoever does lines of a script that are link steps of the gap there and can be done, one after
-- another, has ended the handover after at most twelve, or has done fewer, and one more can be done.
use Rattle.std.specs.Prelude.{◌+◌, ◌<◌, ◌≡◌, ◌≤◌, ◌⊎◌, ℕ, true, false, List, [], ◌∷◌, length}
use Rattle.line_script.specs.declared.line.LaneLine.{LaneLine}
use Rattle.line_step.specs.Tracks.{asked_on}
use Rattle.law_twelve_steps.specs.Announced.{IsAnnounced}
use Rattle.law_twelve_steps.specs.Play.{EndsBy, HasOneMore}
use Rattle.law_twelve_steps.specs.Undisturbed.{IsPossible, is_of_link}
use Rattle.law_lanes.specs.Lanes.{Lanes, lines_of, no_lanes, track}
use Rattle.law_lanes.specs.Parts.{LanePoint, all_points, state_behind}
use Rattle.law_lane_ids.specs.Played.{lines_done}
use Rattle.law_lane_script.specs.Lines.{line_on}
use Rattle.law_lane_steps.specs.Steps.{GoesOnFrom, points_on}

-- what the line is to the lane is a link step of k, and no reason stands against it there
pub record IsStepOn (lane k : ℕ) (s : Lanes) (line : LaneLine) : Type 0 where
  pub step : is_of_link k (track lane s) (asked_on (line_on lane line s)) ≡ true
  pub possible : IsPossible (track lane s) (asked_on (line_on lane line s))

abbrev pub AreStepsOn : ℕ → ℕ → Lanes → List LaneLine → List LanePoint → Type 0
AreStepsOn lane k s [] points = Unit {0}
AreStepsOn lane k s (line ∷ lines) [] = Unit {0}
AreStepsOn lane k s (line ∷ lines) (point ∷ points) =
    IsStepOn lane k s line × AreStepsOn lane k point.after lines points

-- fewer than these were done, and on the lane one more can be
pub record CanGoOnOn (most lane k : ℕ) (s : Lanes) (points : List LanePoint) : Type 0 where
  pub few : length points < most
  pub more : HasOneMore k (track lane (state_behind s points))

-- THE LAW
abbrev pub EndsForWhoeverGoesOnOnLanes : Type 0
EndsForWhoeverGoesOnOnLanes =
    (asked stretch : List LaneLine) (earlier done : List (List LanePoint)) (lane k id : ℕ)
    → 1 ≤ lane → GoesOnFrom asked stretch earlier done
    → lines_of (state_behind no_lanes (all_points earlier)) + 12 < 1000000
    → AreStepsOn lane k (state_behind no_lanes (all_points earlier))
    (lines_done (state_behind no_lanes (all_points earlier)) stretch done) (all_points done)
    → IsAnnounced (track lane (state_behind no_lanes (all_points earlier))) k id
    → EndsBy 12 k id false (points_on lane (all_points done))
    ⊎ CanGoOnOn 12 lane k (state_behind no_lanes (all_points earlier)) (all_points done)
