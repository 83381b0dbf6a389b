-- WHOEVER GOES ON ENDS IT: from a state that is announced for a gap and a board, whoever does a
-- link step of the gap that can be done, until none is left, has ended the handover after at most
-- twelve.
--
-- What is not said here: that anybody goes on, and anything of other lines in between; of those
-- speaks `EndsWithinTwelveSteps`.
use Rattle.std.specs.Prelude.{Bool, List, [], false, length, suc, true, zero, ℕ, ◌+◌, ◌<◌, ◌∷◌, ◌≡◌, ◌⊎◌, ◌||◌}
use Rattle.std.specs.List.{AllByRecursion}
use Rattle.line_step.specs.Homes.{AreNewcomers}
use Rattle.line_step.specs.Lies.{has_lie}
use Rattle.line_step.specs.Requests.{Request}
use Rattle.line_step.specs.Tracks.{TrackLine, asked_on}
use Rattle.line_step.specs.Runs.{IsRun, Point, state_behind, IsShort}
use Rattle.line_step.specs.State.{LineState, no_line}
use Rattle.law_one_report.specs.Steps.{HasStep}
use Rattle.law_one_standing.specs.Standing.{IsFitTrack}
use Rattle.law_twelve_steps.specs.Announced.{IsAnnounced}
use Rattle.law_twelve_steps.specs.Twelve.{has_ended, tells_settled}
use Rattle.law_twelve_steps.specs.Undisturbed.{IsPossible, is_of_link}

-- each line is a link step of k, and no reason stands against it in the state before it
abbrev pub AreEnabled : ℕ → LineState → List TrackLine → List Point → Type 0
AreEnabled k s [] points = Unit {0}
AreEnabled k s (line ∷ lines) [] = ⊥
AreEnabled k s (line ∷ lines) (point ∷ points) =
    (is_of_link k s (asked_on line) ≡ true) × IsPossible s (asked_on line) × AreEnabled k point.after lines points

-- a play: somebody does such lines, one after another
pub record IsPlay (k : ℕ) (s : LineState) (lines : List TrackLine)
    (points : List Point) : Type 0 where
  pub run : IsRun s lines points
  pub enabled : AreEnabled k s lines points

-- the handover of a board has ended behind one of the first so many lines. The flag: it was told
-- before that the board has settled
abbrev pub EndsBy : ℕ → ℕ → ℕ → Bool → List Point → Type 0
EndsBy zero k id settled points = ⊥
EndsBy (suc most) k id settled [] = ⊥
EndsBy (suc most) k id settled (point ∷ points) =
    (has_ended k (settled || tells_settled k id point.told) point.after ≡ true)
    ⊎ EndsBy most k id (settled || tells_settled k id point.told) points

-- one more line can be done in this state: a link step of k, against which no reason stands, and
-- which has a step
pub record HasOneMore (k : ℕ) (s : LineState) : Type 0 where
  pub request : Request
  pub is_step : is_of_link k s request ≡ true
  pub possible : IsPossible s request
  pub has : HasStep (s.lines + 1) request s

-- a play that ended the handover
pub record HasEnding (most k id : ℕ) (s : LineState) : Type 0 where
  pub lines : List TrackLine
  pub points : List Point
  pub play : IsPlay k s lines points
  pub ended : EndsBy most k id false points

-- fewer lines than these were done so far, and one more can be
pub record GoesOn (most k : ℕ) (s : LineState) (lines : List TrackLine)
    (points : List Point) : Type 0 where
  pub few : length lines < most
  pub more : HasOneMore k (state_behind s points)

pub record WhoeverGoesOn (most k id : ℕ) (s : LineState) : Type 0 where
  pub ends : (lines : List TrackLine) (points : List Point) → IsPlay k s lines points
      → EndsBy most k id false points ⊎ GoesOn most k s lines points
  pub some : HasEnding most k id s

-- THE LAW: it holds of each state that a script reaches whose lines told no lie and let no board
-- come or go unseen, and to whose track boards came where they weren't at home. A script has at most 1,000,000 lines, and its barcodes are texts
abbrev pub EndsForWhoeverGoesOn : Type 0
EndsForWhoeverGoesOn =
    (asked : List TrackLine) (earlier : List Point) (k id : ℕ) → AllByRecursion IsFitTrack asked
    → IsShort no_line earlier → (state_behind no_line earlier).lines + 12 < 1000000
    → IsRun no_line asked earlier → has_lie earlier ≡ false → AreNewcomers [] asked earlier
    → IsAnnounced (state_behind no_line earlier) k id
    → WhoeverGoesOn 12 k id (state_behind no_line earlier)
