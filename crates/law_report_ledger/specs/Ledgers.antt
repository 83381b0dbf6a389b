-- THE LEDGER OF EACH LANE in a report's bytes: whoever reads the deeds of a lane off the text alone,
-- one after the other, finds each legal in the ledger of those before it, and that ledger tells
-- where each record on the lane is.
use Rattle.std.specs.Prelude.{List, [], ◌∷◌, ℕ, ◌≤◌, ◌++◌, if◌then◌else◌, length}
use Rattle.std.specs.List.{AllByRecursion}
use Rattle.line_script.specs.declared.line.LaneLine.{LaneLine}
use Rattle.standings.specs.Ledger.{AreLegal, Ledger, empty_ledger, ledger_after_all}
use Rattle.law_one_standing.specs.Replay.{IsLedgerOf, IsStandingTold}
use Rattle.law_lanes.specs.Along.{IsFitLaneLine}
use Rattle.law_lanes.specs.Lanes.{Lanes, no_lanes, track}
use Rattle.law_lanes.specs.Parts.{IsLaneRun, LanePoint, all_points, state_behind}
use Rattle.law_lanes.specs.Views.{lanes_text, tells_lie_on}
use Rattle.law_report_ledger.specs.Deeds.{lane_deeds_in_report}
use Rattle.law_report_lines.specs.Proper.{ArePointsProper}
use Rattle.law_report_lines.specs.Lines.{AreUnnumbered, lines_in}

-- the points of a run before the first line that told what was not so, on whichever lane
abbrev pub honest_on : List LanePoint → List LanePoint
honest_on [] = []
honest_on (point ∷ points) = if tells_lie_on point.told then [] else point ∷ honest_on points

-- the ledger of a lane that is read off a text
abbrev pub lane_ledger_in : ℕ → List ℕ → Ledger
lane_ledger_in lane text = ledger_after_all empty_ledger (lane_deeds_in_report lane text)

-- its deeds are legal one after the other, and behind them it has exactly the marks of the machines
-- on that lane in this state, and gives each id the standings that those give
pub record TellsLaneLedger (lane : ℕ) (text : List ℕ) (s : Lanes) : Type 0 where
  pub legal : AreLegal empty_ledger (lane_deeds_in_report lane text)
  pub marks : IsLedgerOf (lane_ledger_in lane text) (track lane s)
  pub standings : IsStandingTold (lane_ledger_in lane text) (track lane s)

-- THE LAW: of the report of a run of a script over several lanes, whatever last line stands behind
-- it, the text up to the first line that told what was not so tells the ledger of each lane in the
-- state before that line; and so does each of its fronts that ends behind a line of the script
abbrev pub LaneReportTellsLedger : Type 0
LaneReportTellsLedger =
    (asked : List LaneLine) (done : List (List LanePoint)) (ending : List ℕ) (lane : ℕ) → 1 ≤ lane
    → AllByRecursion IsFitLaneLine asked → length asked ≤ 1000000
    → IsLaneRun no_lanes asked done → ArePointsProper (all_points done)
    → AreUnnumbered (lines_in ending)
    → TellsLaneLedger lane (lanes_text 1 (all_points done) ++ ending)
    (state_behind no_lanes (honest_on (all_points done)))
