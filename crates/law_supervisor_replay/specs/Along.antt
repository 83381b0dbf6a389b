-- THE SUPERVISOR'S REPLAY, a line at a time.
use Rattle.std.specs.Prelude.{◌≡◌, ◌≤◌, ℕ, ◌+◌, None, List, [], ◌∷◌}
use Rattle.std.specs.List.{AllByRecursion}
use Rattle.line_report.specs.declared.happening.Happening.{Happening}
use Rattle.line_step.specs.Homes.{AreNewcomers, IsNewcomer}
use Rattle.line_step.specs.Runs.{IsRun, Point, all_told, state_behind}
use Rattle.line_step.specs.State.{LineState, no_line}
use Rattle.line_step.specs.Tracks.{TrackLine, TrackSteps}
use Rattle.law_one_standing.specs.Standing.{IsFitTrack}
use Rattle.law_supervisor_replay.specs.Replay.{Agrees, AreWatched, IsWatched, since_came}

-- what a supervisor has of an id behind points
abbrev pub told_since : ℕ → List Happening → List Point → List Happening
told_since id past [] = past
told_since id past (point ∷ points) = told_since id (since_came id past point.told) points

-- behind any run that led to the state before a line, in which each machine is supervised before
-- its first mark, and behind any line that leads from there to the state after and tells this: what a
-- supervisor folds from what was told, and from what the line tells, says where each board is. No
-- board comes from another lane to where it is at home
pub record AgreesNext (before after : LineState) (told : List Happening) : Type 0 where
  pub behind : (asked : List TrackLine) (points : List Point) (line : TrackLine)
      → AllByRecursion IsFitTrack asked → IsFitTrack line → IsRun no_line asked points
      → AreNewcomers [] asked points → IsNewcomer (all_told points) line
      → state_behind no_line points ≡ before → TrackSteps (before.lines + 1) line before after told
      → AreWatched points → IsWatched after
      → (id : ℕ) → Agrees (since_came id (told_since id [] points) told) after id

-- THE LAW: over the next line behind a run of a script, while no line told what was not so, or let
-- a board come or go unseen
abbrev pub AgreesAlong : Type 0
AgreesAlong =
    (before after : LineState) (told : List Happening)
    → before.lines + 1 ≤ 1000000 → after.unvouched ≡ None → AgreesNext before after told
