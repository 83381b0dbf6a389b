-- A FRONT OF A REPORT'S BYTES over several lanes, cut anywhere, as a fault may leave one: whoever
-- leaves the lines of its last number out has the whole report of the lines of the script before it,
-- and so the ledger and the standings of each lane.
use Rattle.std.specs.Prelude.{ℕ, ◌==◌, ◌&&◌, Bool, true, false, List, [], ◌∷◌, Option, None, Some, if◌then◌else◌, ◌≡◌, ◌≤◌, ◌+◌, ◌++◌, IfSome, length}
use Rattle.std.specs.List.{AllByRecursion}
use Rattle.line_script.specs.declared.line.LaneLine.{LaneLine}
use Rattle.standings.specs.Ledger.{AreLegal, Ledger, empty_ledger, ledger_after_all, marks_in}
use Rattle.standings.specs.Standing.{standing_of}
use Rattle.law_one_standing.specs.Replay.{IsLedgerOf, IsStandingTold}
use Rattle.law_lanes.specs.Along.{IsFitLaneLine}
use Rattle.law_lanes.specs.Lanes.{Lanes, no_lanes, track}
use Rattle.law_lanes.specs.Parts.{IsLaneRun, LanePoint, all_points, state_behind}
use Rattle.law_lanes.specs.Views.{lanes_text}
use Rattle.law_report_ledger.specs.Deeds.{lane_deeds_told}
use Rattle.law_report_lines.specs.Lines.{AreUnnumbered, ReportLine, lines_in}
use Rattle.law_report_ledger.specs.Ledgers.{honest_on}
use Rattle.law_report_lines.specs.Proper.{ArePointsProper}
use Rattle.law_report_ledger.specs.ReportLines.{vouched}
use Rattle.law_report_ledger.specs.Standings.{lane_standing_told, standing_there}

-- ---- the lines of the last number

abbrev pub is_same : Option ℕ → Option ℕ → Bool
is_same None None = true
is_same None (Some other) = false
is_same (Some number) None = false
is_same (Some number) (Some other) = number == other

abbrev pub are_all : Option ℕ → List ReportLine → Bool
are_all number [] = true
are_all number (line ∷ lines) = is_same number line.number && are_all number lines

-- THE LINES BEFORE THOSE of the last number
abbrev pub told_whole : List ReportLine → List ReportLine
told_whole [] = []
told_whole (line ∷ lines) =
    if are_all line.number lines then [] else line ∷ told_whole lines

-- the number of the last line, if it has one
abbrev pub last_number : List ReportLine → Option ℕ
last_number [] = None
last_number (line ∷ []) = line.number
last_number (line ∷ next ∷ lines) = last_number (next ∷ lines)

-- ---- what lines tell of a lane

-- the ledger of a lane that is read off some lines
abbrev pub lane_ledger_by : ℕ → List ReportLine → Ledger
lane_ledger_by lane lines = ledger_after_all empty_ledger (lane_deeds_told lane (vouched lines))

-- the deeds of a lane are legal one after the other, the ledger behind them has exactly the marks of
-- the machines there in this state, and gives each id the standings that those give, which is also
-- the one that these lines told of it last, where that is on this lane
pub record LinesTellLane (lane : ℕ) (lines : List ReportLine) (s : Lanes) : Type 0 where
  pub legal : AreLegal empty_ledger (lane_deeds_told lane (vouched lines))
  pub marks : IsLedgerOf (lane_ledger_by lane lines) (track lane s)
  pub standings : IsStandingTold (lane_ledger_by lane lines) (track lane s)
  pub last : (id : ℕ) → standing_of (marks_in id (lane_ledger_by lane lines).marks)
      ≡ standing_there lane (lane_standing_told id (vouched lines))

-- ---- the law

-- what a front tells before its last number is the whole report of the first of these lines of a
-- script, which are those with a smaller number: no line is told in part. Up to the first line that
-- told what was not so it tells the ledger and the standings of each lane
pub record LaneFrontTells (text : List ℕ) (asked : List LaneLine)
    (done : List (List LanePoint)) : Type 0 where
  pub lines : List LaneLine
  pub others : List LaneLine
  pub first : asked ≡ lines ++ others
  pub number : IfSome (last_number (lines_in text)) (λ number. number ≡ length lines + 1)
  pub earlier : List (List LanePoint)
  pub later : List (List LanePoint)
  pub parts : done ≡ earlier ++ later
  pub run : IsLaneRun no_lanes lines earlier
  pub whole : told_whole (lines_in text) ≡ lines_in (lanes_text 1 (all_points earlier))
  pub tells : (lane : ℕ) → 1 ≤ lane
      → LinesTellLane lane (told_whole (lines_in text))
      (state_behind no_lanes (honest_on (all_points earlier)))

-- THE LAW: each front of the report of a script over several lanes, whatever last line stands behind
-- it
abbrev pub LaneFrontsTellLedgers : Type 0
LaneFrontsTellLedgers =
    (asked : List LaneLine) (done : List (List LanePoint)) (ending text rest : List ℕ)
    → AllByRecursion IsFitLaneLine asked → length asked ≤ 1000000 → IsLaneRun no_lanes asked done
    → ArePointsProper (all_points done) → AreUnnumbered (lines_in ending)
    → text ++ rest ≡ lanes_text 1 (all_points done) ++ ending → LaneFrontTells text asked done
