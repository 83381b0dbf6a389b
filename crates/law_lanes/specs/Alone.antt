-- A LINE OF ONE LANE: a script that names no lane, sets no lanes and moves no board to another one
-- does over several lanes what it does over one track, and tells the same.
use Rattle.std.specs.Prelude.{◌≡◌, ℕ, List, [], ◌∷◌, map}
use Rattle.line_script.specs.declared.line.LaneLine.{LaneLine}
use Rattle.line_script.specs.declared.line.LaneLine.TheVariants as lane_lines
use Rattle.line_script.specs.declared.line.ScriptLine.{ScriptLine}
use Rattle.line_report.specs.Lanes.{told_on}
use Rattle.line_step.specs.Lies.{has_lie}
use Rattle.line_step.specs.Parts.{IsScriptRun}
use Rattle.line_step.specs.Runs.{Point, told_text}
use Rattle.line_step.specs.State.{LineState, no_line}
use Rattle.law_lanes.specs.Lanes.{Lanes, no_lanes}
use Rattle.law_lanes.specs.Parts.{IsLaneRun, LanePoint, all_points}
use Rattle.law_lanes.specs.Views.{has_lie_on, lanes_text}

-- lines of the first lane
abbrev pub on_first : ScriptLine → LaneLine
on_first line = lane_lines.On 1 line

abbrev pub on_firsts : List ScriptLine → List LaneLine
on_firsts asked = map on_first asked

-- a line that has this track alone
abbrev pub HasAlone : LineState → Lanes → Type 0
HasAlone t s = s.tracks ≡ t ∷ []

-- a point of a line of one lane, and that of its track
pub record IsPointAlone (point : LanePoint) (own : Point) : Type 0 where
  pub after : HasAlone own.after point.after
  pub told : point.told ≡ told_on 1 own.told

abbrev pub ArePointsAlone : List LanePoint → List Point → Type 0
ArePointsAlone [] [] = Unit {0}
ArePointsAlone [] (_ ∷ _) = ⊥
ArePointsAlone (_ ∷ _) [] = ⊥
ArePointsAlone (point ∷ points) (own ∷ owns) =
    IsPointAlone point own × ArePointsAlone points owns

-- the run of one track that these points are: they tell the same text, and lie where it does
pub record IsRunAlone (asked : List ScriptLine) (points : List LanePoint) : Type 0 where
  pub own : List Point
  pub run : IsScriptRun no_line asked own
  pub alone : ArePointsAlone points own
  pub text : (number : ℕ) → lanes_text number points ≡ told_text number own
  pub lied : has_lie_on points ≡ has_lie own

-- THE LAW
abbrev pub EachScriptOfOneLaneIsATrack : Type 0
EachScriptOfOneLaneIsATrack =
    (asked : List ScriptLine) (done : List (List LanePoint))
    → IsLaneRun no_lanes (on_firsts asked) done → IsRunAlone asked (all_points done)
