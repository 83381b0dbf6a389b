-- THE RUN OF A SCRIPT over several lanes. A stop is several lines one after the other, under one
-- number: for each lane in turn its links are cut and both its sides notice that; every other line is
-- its own part.
use Rattle.std.specs.Prelude.{◌≡◌, ◌+◌, ◌-◌, ◌++◌, ◌≤◌, ℕ, zero, suc, Bool, true, false, List, [], ◌∷◌, length}
use Rattle.line_base.specs.declared.states.Side.{Side}
use Rattle.line_base.specs.declared.states.Side.TheVariants.{Entry, Exit}
use Rattle.line_script.specs.declared.line.LaneLine.{LaneLine}
use Rattle.line_script.specs.declared.line.LaneLine.TheVariants as lane_lines
use Rattle.line_script.specs.declared.line.ScriptLine.TheVariants as lines
use Rattle.line_report.specs.declared.happening.LaneHappening.{LaneHappening}
use Rattle.line_step.specs.Parts.{count_behind, where_may}
use Rattle.line_step.specs.Reasons.{may_cut, may_notice}
use Rattle.law_lanes.specs.Lanes.{Lanes, lines_of, track}
use Rattle.law_lanes.specs.Steps.{LanesStep}

-- what is done in view of the state before it, and whether the line ends with it
pub record LanePart : Type 0 where
  pub line : Lanes → LaneLine
  pub ends : Bool

abbrev pub cut_where : ℕ → ℕ → Lanes → LaneLine
cut_where lane gap s =
    lane_lines.On lane (where_may (may_cut gap (track lane s)) (lines.Cut gap))

abbrev pub notice_where : ℕ → ℕ → Side → Lanes → LaneLine
notice_where lane machine side s =
    lane_lines.On lane
    (where_may (may_notice machine side (track lane s)) (lines.Notice machine side))

-- on one lane; whether the line ends with the last of them
abbrev pub stops_on : ℕ → ℕ → Bool → List LanePart
stops_on lane machine ends =
    record { line = cut_where lane (machine - 1); ends = false }
    ∷ record { line = cut_where lane machine; ends = false }
    ∷ record { line = notice_where lane machine Entry; ends = false }
    ∷ record { line = notice_where lane machine Exit; ends = ends } ∷ []

-- on this lane and so many behind it
abbrev pub stops_from : ℕ → ℕ → ℕ → List LanePart
stops_from lane zero machine = stops_on lane machine true
stops_from lane (suc more) machine = stops_on lane machine false ++ stops_from (lane + 1) more machine

-- of a line of so many lanes
abbrev pub stop_parts : ℕ → ℕ → List LanePart
stop_parts lanes machine =
    record { line = λ s. lane_lines.On 1 (lines.Stop machine); ends = false }
    ∷ stops_from 1 (lanes - 1) machine

abbrev pub parts_of : ℕ → LaneLine → List LanePart
parts_of lanes (lane_lines.On lane (lines.Stop machine)) = stop_parts lanes machine
parts_of lanes line = record { line = λ s. line; ends = true } ∷ []

-- ---- what they do

-- what a part did, and the state after it
pub record LanePoint : Type 0 where
  pub told : List LaneHappening
  pub after : Lanes

-- a part is a line step under the number that is due
pub record PartSteps (part : LanePart) (before : Lanes) (point : LanePoint) : Type 0 where
  pub steps : LanesStep (lines_of before + 1) (part.line before) before point.after point.told
  pub counted : lines_of point.after ≡ count_behind part.ends (lines_of before)

-- these are the points of parts, one after the other
abbrev pub IsLanePlay : Lanes → List LanePart → List LanePoint → Type 0
IsLanePlay s [] [] = Unit {0}
IsLanePlay s [] (_ ∷ _) = ⊥
IsLanePlay s (_ ∷ _) [] = ⊥
IsLanePlay s (part ∷ parts) (point ∷ points) =
    PartSteps part s point × IsLanePlay point.after parts points

-- the state behind them, and all that happens
abbrev pub state_behind : Lanes → List LanePoint → Lanes
state_behind s [] = s
state_behind s (point ∷ points) = state_behind point.after points

abbrev pub all_told : List LanePoint → List LaneHappening
all_told [] = []
all_told (point ∷ points) = point.told ++ all_told points

-- THE RUN OF A SCRIPT: for each of its lines a point for each part of it
abbrev pub IsLaneRun : Lanes → List LaneLine → List (List LanePoint) → Type 0
IsLaneRun s [] [] = Unit {0}
IsLaneRun s [] (_ ∷ _) = ⊥
IsLaneRun s (_ ∷ _) [] = ⊥
IsLaneRun s (line ∷ lines) (own ∷ others) =
    IsLanePlay s (parts_of (length s.tracks) line) own
    × IsLaneRun (state_behind s own) lines others

-- all its points, one after the other
abbrev pub all_points : List (List LanePoint) → List LanePoint
all_points [] = []
all_points (own ∷ others) = own ++ all_points others

-- no line of it has a number above 1,000,000
abbrev pub IsShort : Lanes → List LanePoint → Type 0
IsShort s [] = Unit {0}
IsShort s (point ∷ points) = (lines_of s + 1 ≤ 1000000) × IsShort point.after points

-- ---- ONE LINE OF A SCRIPT: what its parts did, and all that they told
pub record LaneLineSteps (line : LaneLine) (before after : Lanes)
    (told : List LaneHappening) : Type 0 where
  pub points : List LanePoint
  pub plays : IsLanePlay before (parts_of (length before.tracks) line) points
  pub behind : state_behind before points ≡ after
  pub told_is : told ≡ all_told points
