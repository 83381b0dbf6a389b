-- EACH LANE IS A TRACK: what a run of a script over several lanes is to one of them.
use Rattle.std.specs.Prelude.{◌+◌, ◌≡◌, ◌≢◌, ◌==◌, ◌≤◌, ◌++◌, ℕ, Bool, true, false, List, [], ◌∷◌, None, if◌then◌else◌, take}
use Rattle.std.specs.List.{AllByRecursion, list_any}
use Rattle.line_script.specs.declared.line.LaneLine.{LaneLine}
use Rattle.line_script.specs.declared.line.LaneLine.TheVariants as lane_lines
use Rattle.node_core.specs.declared.act.Act.TheVariants as acts
use Rattle.line_report.specs.declared.happening.Happening.{Happening}
use Rattle.line_report.specs.declared.happening.Happening.TheVariants as happenings
use Rattle.line_report.specs.declared.happening.LaneHappening.{LaneHappening}
use Rattle.line_world.specs.FloorPlan.{has_id}
use Rattle.line_step.specs.FloorIds.{boards_of}
use Rattle.line_step.specs.Homes.{IsHonest}
use Rattle.line_step.specs.Runs.{IsRun, IsShort, Point}
use Rattle.line_step.specs.State.{LineState, marks_in, no_line}
use Rattle.line_step.specs.Tracks.{TrackLine}
use Rattle.law_one_standing.specs.Facts.{HasCustodyFacts}
use Rattle.law_one_standing.specs.Reached.{HasUniqueIds, IsReached}
use Rattle.law_one_standing.specs.Standing.{HasOneStanding, IsFitLine, IsFitTrack}
use Rattle.law_lanes.specs.Lanes.{Lanes, lines_of, most_lanes, no_lanes, track, unvouched_of}
use Rattle.law_lanes.specs.Parts.{IsLaneRun, LaneLineSteps, LanePoint, all_points}
use Rattle.law_lanes.specs.Parts as lanes
use Rattle.law_lanes.specs.Views.{has_lie_on}

-- ---- what is told of a lane: a board that is moved to it comes there

abbrev pub part_for : ℕ → ℕ → Happening → List Happening
part_for lane own (happenings.Done machine (acts.Gives id to)) =
    (if own == lane then happenings.Done machine (acts.Gives id to) ∷ [] else [])
    ++ (if to == lane then happenings.Done machine (acts.Gets id) ∷ [] else [])
part_for lane own what = if own == lane then what ∷ [] else []

abbrev pub happening_for : ℕ → LaneHappening → List Happening
happening_for lane happening = part_for lane happening.lane happening.what

-- what is done on a lane: that a line does nothing, which standings changed, and what is told once
-- of all lanes, isn't
abbrev pub is_done : Happening → Bool
is_done (happenings.No reason) = false
is_done (happenings.With machine id) = false
is_done (happenings.Between gap id) = false
is_done (happenings.Gone id) = false
is_done (happenings.Lanes count) = false
is_done (happenings.Machine number capacity) = false
is_done (happenings.Bridge number capacity) = false
is_done happening = true

abbrev pub all_done : List Happening → List Happening
all_done [] = []
all_done (happening ∷ told) = if is_done happening then happening ∷ all_done told else all_done told

abbrev pub told_for : ℕ → List LaneHappening → List Happening
told_for lane [] = []
told_for lane (happening ∷ told) = happening_for lane happening ++ told_for lane told

-- ---- the points of a track beside those of the line

pub record IsPointOn (lane : ℕ) (point : LanePoint) (own : Point) : Type 0 where
  pub after : own.after ≡ track lane point.after
  pub told : all_done own.told ≡ all_done (told_for lane point.told)

abbrev pub ArePointsOn : ℕ → List LanePoint → List Point → Type 0
ArePointsOn lane [] [] = Unit {0}
ArePointsOn lane [] (_ ∷ _) = ⊥
ArePointsOn lane (_ ∷ _) [] = ⊥
ArePointsOn lane (point ∷ points) (own ∷ owns) =
    IsPointOn lane point own × ArePointsOn lane points owns

-- the barcode of a line is a text, and a line has one lane at least and four at most, as in every
-- line that is read
abbrev pub IsFitLaneLine : LaneLine → Type 0
IsFitLaneLine (lane_lines.On lane line) = IsFitLine line
IsFitLaneLine (lane_lines.Lanes count) = (1 ≤ count) × (count ≤ most_lanes)
IsFitLaneLine line = Unit {0}

-- the run of a lane: each line is one of its own, or of another lane; up to the first lie on any lane
-- it is a fit one, to which boards come only from where they were at home
pub record IsTrackOf (lane : ℕ) (points : List LanePoint) : Type 0 where
  pub asked : List TrackLine
  pub own : List Point
  pub run : IsRun no_line asked own
  pub short : IsShort no_line own
  pub beside : ArePointsOn lane points own
  pub honest : (n : ℕ) → has_lie_on (take n points) ≡ false
      → IsHonest asked own n × AllByRecursion IsFitTrack (take n asked)

-- THE LAW
abbrev pub EachLaneIsATrack : Type 0
EachLaneIsATrack =
    (asked : List LaneLine) (done : List (List LanePoint)) (lane : ℕ) → 1 ≤ lane
    → AllByRecursion IsFitLaneLine asked → lanes.IsShort no_lanes (all_points done)
    → IsLaneRun no_lanes asked done → IsTrackOf lane (all_points done)

-- the same up to there alone, as laws over runs ask for it: all its lines are fit, and it is honest
pub record IsHonestTrackOf (lane : ℕ) (points : List LanePoint) : Type 0 where
  pub asked : List TrackLine
  pub own : List Point
  pub run : IsRun no_line asked own
  pub short : IsShort no_line own
  pub beside : ArePointsOn lane points own
  pub fit : AllByRecursion IsFitTrack asked
  pub honest : (n : ℕ) → IsHonest asked own n

abbrev pub EachFrontIsATrack : Type 0
EachFrontIsATrack =
    (asked : List LaneLine) (done : List (List LanePoint)) (n lane : ℕ) → 1 ≤ lane
    → AllByRecursion IsFitLaneLine asked → lanes.IsShort no_lanes (all_points done)
    → IsLaneRun no_lanes asked done → has_lie_on (take n (all_points done)) ≡ false
    → IsHonestTrackOf lane (take n (all_points done))

-- NO RECORD IS ON TWO LANES: up to the first line that told what was not so, an id has marks on one
-- lane alone
abbrev pub IsOnOneLane : Lanes → Type 0
IsOnOneLane s =
    (id lane other : ℕ) → 1 ≤ lane → 1 ≤ other → marks_in (track lane s) id ≢ []
    → marks_in (track other s) id ≢ [] → lane ≡ other

abbrev pub EachRecordIsOnOneLane : Type 0
EachRecordIsOnOneLane =
    (asked : List LaneLine) (done : List (List LanePoint)) (n : ℕ)
    → AllByRecursion IsFitLaneLine asked → lanes.IsShort no_lanes (all_points done)
    → IsLaneRun no_lanes asked done → has_lie_on (take n (all_points done)) ≡ false
    → AllByRecursion (λ (point : LanePoint). IsOnOneLane point.after) (take n (all_points done))

-- ONE STANDING ON EACH LANE, and the custody facts; and no record is on two. They hold up to the
-- first line that told what was not so, on whichever lane
pub record StandsOnEach (s : Lanes) : Type 0 where
  pub one : (lane : ℕ) → 1 ≤ lane → HasOneStanding (track lane s)
  pub custody : (lane : ℕ) → 1 ≤ lane → HasCustodyFacts (track lane s)
  pub alone : IsOnOneLane s

abbrev pub OneStandingOnLanes : Type 0
OneStandingOnLanes =
    (asked : List LaneLine) (done : List (List LanePoint)) (n : ℕ)
    → AllByRecursion IsFitLaneLine asked → lanes.IsShort no_lanes (all_points done)
    → IsLaneRun no_lanes asked done → has_lie_on (take n (all_points done)) ≡ false
    → AllByRecursion (λ (point : LanePoint). StandsOnEach point.after) (take n (all_points done))

-- ---- over states

-- the state behind a run of a script over several lanes: its lines, and the points of each
pub record IsLaneReached (s : Lanes) : Type 0 where
  pub asked : List LaneLine
  pub done : List (List LanePoint)
  pub fit : AllByRecursion IsFitLaneLine asked
  pub short : lanes.IsShort no_lanes (all_points done)
  pub few : lines_of s ≤ 1000000
  pub run : IsLaneRun no_lanes asked done
  pub behind : lanes.state_behind no_lanes (all_points done) ≡ s

-- that is so of a line without a machine, and goes on behind each line of a script
abbrev pub RunsGoOn : Type 0
RunsGoOn =
    (line : LaneLine) (before after : Lanes) (told : List LaneHappening) → IsLaneReached before
    → IsFitLaneLine line → lines_of before + 1 ≤ 1000000 → LaneLineSteps line before after told
    → IsLaneReached after

-- and a run of a track has led to each lane
abbrev pub TracksAlong : Type 0
TracksAlong = (s : Lanes) → IsLaneReached s → (lane : ℕ) → 1 ≤ lane → IsReached (track lane s)

-- while no line told what was not so no record is on two lanes
abbrev pub OneLaneAlong : Type 0
OneLaneAlong = (s : Lanes) → IsLaneReached s → unvouched_of s ≡ None → IsOnOneLane s

-- and on each there is one standing
abbrev pub StandsOnLanes : Type 0
StandsOnLanes = (s : Lanes) → IsLaneReached s → unvouched_of s ≡ None → StandsOnEach s

-- of all states, behind a lie too: on no track two boards share an id, and each id of a board was
-- made by a machine of the line
abbrev pub IdsOnLanes : Type 0
IdsOnLanes = (s : Lanes) → IsLaneReached s → (lane : ℕ) → 1 ≤ lane → HasUniqueIds (track lane s)

-- nor do two boards on different ones
abbrev pub IsOnFloor : ℕ → LineState → Type 0
IsOnFloor id s = list_any (has_id id) (boards_of s) ≡ true

abbrev pub FloorsApart : Type 0
FloorsApart =
    (s : Lanes) → IsLaneReached s → (id lane other : ℕ) → 1 ≤ lane → 1 ≤ other
    → IsOnFloor id (track lane s) → IsOnFloor id (track other s) → lane ≡ other

-- some step of a line of a script: the state after it, and what it told
pub record HasLaneStep (line : LaneLine) (before : Lanes) : Type 0 where
  pub after : Lanes
  pub told : List LaneHappening
  pub steps : LaneLineSteps line before after told

-- each line of a script has one, from each state that a run has led to
abbrev pub EachLaneLineHasAStep : Type 0
EachLaneLineHasAStep =
    (line : LaneLine) (s : Lanes) → IsFitLaneLine line → IsLaneReached s → HasLaneStep line s
