-- EACH SCRIPT HAS A RUN over several lanes, and what it tells is one thing.
use Rattle.std.specs.Prelude.{◌≡◌, ◌≤◌, ℕ, List, is_some}
use Rattle.std.specs.List.{AllByRecursion}
use Rattle.line_script.specs.declared.line.LaneLine.{LaneLine}
use Rattle.line_script.specs.declared.line.LaneLine.TheVariants as lane_lines
use Rattle.law_lanes.specs.Lanes.{most_lanes, no_lanes, unvouched_of}
use Rattle.law_lanes.specs.Parts.{IsLaneRun, LanePoint, all_points, state_behind}
use Rattle.law_lanes.specs.Views.{has_lie_on, lanes_text, summary_on}

-- a line sets one lane at least and four at most
abbrev pub SetsFew : LaneLine → Type 0
SetsFew (lane_lines.Lanes count) = (1 ≤ count) × (count ≤ most_lanes)
SetsFew line = Unit {0}

-- some run of the script of these lines
pub record HasLaneRun (asked : List LaneLine) : Type 0 where
  pub done : List (List LanePoint)
  pub run : IsLaneRun no_lanes asked done

-- THE LAW
abbrev pub EachLaneScriptHasARun : Type 0
EachLaneScriptHasARun =
    (asked : List LaneLine) → AllByRecursion SetsFew asked → HasLaneRun asked

-- A LINE IS UNVOUCHED exactly where one of the lines of its script told what was not so, or let a
-- board come or go unseen
abbrev pub EachRunRemembers : Type 0
EachRunRemembers =
    (asked : List LaneLine) (done : List (List LanePoint)) → AllByRecursion SetsFew asked
    → IsLaneRun no_lanes asked done
    → is_some (unvouched_of (state_behind no_lanes (all_points done)))
    ≡ has_lie_on (all_points done)

-- what two runs told is one thing, and so are the numbers of their last lines
pub record TellAlike (one other : List LanePoint) : Type 0 where
  pub text : (number : ℕ) → lanes_text number one ≡ lanes_text number other
  pub lied : has_lie_on one ≡ has_lie_on other
  pub summary : summary_on (state_behind no_lanes one) ≡ summary_on (state_behind no_lanes other)

-- THE LAW: over the runs of every script
abbrev pub EachRunTellsOnce : Type 0
EachRunTellsOnce =
    (asked : List LaneLine) (one other : List (List LanePoint)) → IsLaneRun no_lanes asked one
    → IsLaneRun no_lanes asked other → TellAlike (all_points one) (all_points other)
