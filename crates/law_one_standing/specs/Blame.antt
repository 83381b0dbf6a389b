-- NO FALSE BLAME: a machine tells of a breach at a side only behind a line that spoiled what flows
-- to that side.
use Rattle.std.specs.Prelude.{List, [], false, length, take, ℕ, ◌++◌, ◌∷◌, ◌≡◌, ◌≤◌}
use Rattle.std.specs.List.{AllByRecursion}
use Rattle.line_base.specs.declared.states.Side.{Side}
use Rattle.line_report.specs.declared.happening.Happening.{Happening}
use Rattle.line_report.specs.declared.happening.Happening.TheVariants as happenings
use Rattle.node_core.specs.declared.act.Act.TheVariants as acts
use Rattle.line_step.specs.Homes.{IsHonest}
use Rattle.line_step.specs.Runs.{IsRun, Point, IsShort}
use Rattle.line_step.specs.State.{no_line}
use Rattle.line_step.specs.Tracks.{TrackLine}
use Rattle.law_one_standing.specs.Standing.{IsFitTrack}
use Rattle.law_one_standing.specs.Told.{IsTold}

-- what flowed to a side of a machine was spoiled by one of the lines that told this
abbrev pub WasSpoiled : List Happening → ℕ → Side → Type 0
WasSpoiled past machine side = IsTold (happenings.Spoils machine side) past

-- a breach at a side of a machine is told only where what flows to that side was spoiled before
abbrev pub IsBlameTrue : List Happening → List Happening → Type 0
IsBlameTrue past told =
    (machine : ℕ) (side : Side) (text : List ℕ)
    → IsTold (happenings.Done machine (acts.Breaches side text)) told
    → WasSpoiled past machine side

-- along the points of a run, where the lines before told this
abbrev pub AreBlamesTrue : List Happening → List Point → Type 0
AreBlamesTrue past [] = Unit {0}
AreBlamesTrue past (point ∷ points) =
    IsBlameTrue past point.told × AreBlamesTrue (past ++ point.told) points

-- THE LAW: from the empty line on, up to the first line that told what was not so
abbrev pub NoFalseBlame : Type 0
NoFalseBlame =
    (asked : List TrackLine) (points : List Point) (n : ℕ) → AllByRecursion IsFitTrack asked
    → IsShort no_line points → IsRun no_line asked points → IsHonest asked points n
    → AreBlamesTrue [] (take n points)
