-- WHAT A SHIFT LEAVES of a board's record: all of it. What the machine kept of the board on the one
-- lane before the line, it keeps on the other behind it, behind all that it keeps there.
use Rattle.std.specs.Prelude.{◌≡◌, ◌≤◌, ◌++◌, ℕ, false, List, [], ◌∷◌, take}
use Rattle.std.specs.List.{AllByRecursion}
use Rattle.board_record.specs.declared.record.Record.{Record}
use Rattle.line_script.specs.declared.line.LaneLine.{LaneLine}
use Rattle.node_core.specs.declared.act.Act.TheVariants as acts
use Rattle.line_report.specs.Lanes.{on_lane}
use Rattle.line_report.specs.declared.happening.Happening.TheVariants as happenings
use Rattle.line_report.specs.declared.happening.LaneHappening.{LaneHappening}
use Rattle.line_step.specs.Numbered.{node_at}
use Rattle.line_step.specs.State.{LineState}
use Rattle.law_sentences.specs.Records.{KeepsRecord}
use Rattle.law_lanes.specs.Along.{IsFitLaneLine}
use Rattle.law_lanes.specs.Lanes.{Lanes, no_lanes, track}
use Rattle.law_lanes.specs.Parts.{IsLaneRun, IsShort, LanePoint, all_points}
use Rattle.law_lanes.specs.Views.{has_lie_on}

-- ---- what is told

-- this is among what was told over all lanes
pub data IsToldOn (h : LaneHappening) : List LaneHappening → Type 0 where
  on_first : {told : List LaneHappening} → IsToldOn h (h ∷ told)
  on_later : {other : LaneHappening} {told : List LaneHappening} → IsToldOn h told
      → IsToldOn h (other ∷ told)

-- a board goes from the one lane of a machine to the other: `shift` in a report
abbrev pub shift_of : ℕ → ℕ → ℕ → ℕ → LaneHappening
shift_of machine from to id = on_lane from (happenings.Done machine (acts.Gives id to))

-- ---- what it leaves

-- this is the last of the records that a machine keeps
pub record KeepsLast (s : LineState) (machine : ℕ) (q : Record) : Type 0 where
  pub others : List Record
  pub is : (node_at s machine).lane.body.kept ≡ others ++ q ∷ []

-- before the line the machine keeps one record of the board on the one lane; behind it the same one,
-- word for word, is the last that it keeps on the other
pub record LeavesRecord (machine from to id : ℕ) (before after : Lanes) : Type 0 where
  pub board : Record
  pub named : board.id ≡ id
  pub was : KeepsRecord (track from before) machine board
  pub one : (q : Record) → KeepsRecord (track from before) machine q → q.id ≡ id → q ≡ board
  pub now : KeepsLast (track to after) machine board

-- wherever a shift is told
abbrev pub ShiftLeaves : Lanes → LanePoint → Type 0
ShiftLeaves s point =
    (machine from to id : ℕ) → 1 ≤ to → IsToldOn (shift_of machine from to id) point.told
    → LeavesRecord machine from to id s point.after

-- along the points of a run, from a state on
abbrev pub ShiftsLeave : Lanes → List LanePoint → Type 0
ShiftsLeave s [] = Unit {0}
ShiftsLeave s (point ∷ points) = ShiftLeaves s point × ShiftsLeave point.after points

-- THE LAW: over the run of every script, up to the first line that told what was not so
abbrev pub EachShiftLeavesRecords : Type 0
EachShiftLeavesRecords =
    (asked : List LaneLine) (done : List (List LanePoint)) (n : ℕ)
    → AllByRecursion IsFitLaneLine asked → IsShort no_lanes (all_points done)
    → IsLaneRun no_lanes asked done → has_lie_on (take n (all_points done)) ≡ false
    → ShiftsLeave no_lanes (take n (all_points done))
