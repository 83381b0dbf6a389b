-- WHAT IS READ OFF A REPORT of a script: of each lane the ledger that its bytes tell, the standings,
-- and the starts that its openings answer.
use Rattle.std.specs.Prelude.{◌≤◌, List, [], ℕ}
use Rattle.law_lanes.specs.Lanes.{no_lanes}
use Rattle.law_lanes.specs.Parts.{IsLaneRun, LanePoint, all_points, state_behind}
use Rattle.law_report_lines.specs.Lines.{lines_in}
use Rattle.law_report_ledger.specs.ReportLines.{vouched}
use Rattle.law_report_ledger.specs.Asked.{OpensWereAskedOn}
use Rattle.law_report_ledger.specs.Fronts.{LaneFrontTells}
use Rattle.law_report_ledger.specs.Ledgers.{TellsLaneLedger, honest_on}
use Rattle.law_report_lines.specs.Proper.{ArePointsProper}
use Rattle.law_report_ledger.specs.Standings.{TellsLaneStandings}
use Rattle.line_commands.specs.Report.{IsToldFirst, report_text}
use Rattle.line_commands.specs.Script.{script_of}

-- THE LAW: whoever reads the deeds of a lane off the report of a script alone, up to the first line
-- that told what was not so, finds them legal, and has the ledger of the lane in the state before
-- that line
abbrev pub EachReportTellsItsLedger : Type 0
EachReportTellsItsLedger =
    (bytes : List ℕ) (done : List (List LanePoint)) (lane : ℕ) → 1 ≤ lane
    → IsLaneRun no_lanes (script_of bytes).lines done → ArePointsProper (all_points done)
    → TellsLaneLedger lane (report_text (all_points done) (script_of bytes).refusal)
    (state_behind no_lanes (honest_on (all_points done)))

-- and of each id the standing that the text told last is the one that the ledger of its lane gives
abbrev pub EachReportTellsItsStandings : Type 0
EachReportTellsItsStandings =
    (bytes : List ℕ) (done : List (List LanePoint)) (lane : ℕ) → 1 ≤ lane
    → IsLaneRun no_lanes (script_of bytes).lines done → ArePointsProper (all_points done)
    → TellsLaneStandings lane (report_text (all_points done) (script_of bytes).refusal)

-- and of the same lines, at each gap of each lane: where it reads that a handover opens, the last
-- start that it read there is of this board, and nothing was opened, refused or settled there since
abbrev pub EachReportTellsItsStarts : Type 0
EachReportTellsItsStarts =
    (bytes : List ℕ) (done : List (List LanePoint)) (lane gap : ℕ) → 1 ≤ lane → 1 ≤ gap
    → IsLaneRun no_lanes (script_of bytes).lines done → ArePointsProper (all_points done)
    → OpensWereAskedOn lane gap []
    (vouched (lines_in (report_text (all_points done) (script_of bytes).refusal)))

-- whoever has such a front alone, as a fault may leave it, reads off its lines before those of its
-- last number the ledger and the standings of each lane behind the lines of the script with smaller
-- ones
abbrev pub EachFrontTellsItsLedger : Type 0
EachFrontTellsItsLedger =
    (bytes text : List ℕ) → (first : IsToldFirst bytes text)
    → LaneFrontTells text first.lines first.done
