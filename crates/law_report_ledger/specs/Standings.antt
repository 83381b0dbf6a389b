-- THE STANDINGS OF A REPORT'S BYTES over several lanes: of each id, the standing that the text told
-- last, with its lane, is the one that the ledger of that lane gives which is read off the same text,
-- and the ledgers of the others give it none.
use Rattle.std.specs.Prelude.{ℕ, ◌==◌, Bool, false, Option, None, Some, ◌≡◌, ◌≤◌, ◌++◌, List, [], ◌∷◌, codes, if◌then◌else◌, length}
use Rattle.std.specs.List.{AllByRecursion}
use Rattle.std.specs.Str.{bytes_eq}
use Rattle.line_check.specs.LogLine.{id_of}
use Rattle.line_check.specs.Words.{behind, cut_at_space, first_word}
use Rattle.line_script.specs.declared.line.LaneLine.{LaneLine}
use Rattle.standings.specs.Ledger.{marks_in}
use Rattle.standings.specs.Standing.{Place, standing_of}
use Rattle.standings.specs.declared.standing.Standing.TheVariants.{Between, With}
use Rattle.law_lanes.specs.Along.{IsFitLaneLine}
use Rattle.law_lanes.specs.Lanes.{no_lanes}
use Rattle.law_lanes.specs.Parts.{IsLaneRun, LanePoint, all_points}
use Rattle.law_lanes.specs.Shown.{LanePlace}
use Rattle.law_lanes.specs.Views.{lanes_text}
use Rattle.law_report_lines.specs.Lines.{AreUnnumbered, ReportLine, lines_in}
use Rattle.law_report_ledger.specs.Ledgers.{lane_ledger_in}
use Rattle.law_report_ledger.specs.Places.{lane_of, number_of}
use Rattle.law_report_lines.specs.Proper.{ArePointsProper}
use Rattle.law_report_ledger.specs.ReportLines.{vouched}

-- ---- the standing that is told of an id

abbrev pub is_id : ℕ → Option ℕ → Bool
is_id id None = false
is_id id (Some other) = other == id

-- a place word, and the id behind it: the standing that they say, where the id is this one
abbrev pub stands_at_on : (ℕ → Place) → ℕ → Option LanePlace → Option (List ℕ × List ℕ)
    → Option LanePlace
stands_at_on place id before None = before
stands_at_on place id before (Some (word, rest)) =
    if is_id id (id_of rest)
    then Some (record { lane = lane_of word; standing = place (number_of word) }) else before

-- behind `with p id`, `between p id`, `gone id`; any other text leaves it
abbrev pub standing_after_on : ℕ → Option LanePlace → List ℕ → Option LanePlace
standing_after_on id before text =
    if bytes_eq (first_word text) (codes "with") then stands_at_on With id before
    (cut_at_space (behind (cut_at_space text)))
    else (if bytes_eq (first_word text) (codes "between") then stands_at_on Between id before
    (cut_at_space (behind (cut_at_space text)))
    else (if bytes_eq (first_word text) (codes "gone") then
    (if is_id id (id_of (behind (cut_at_space text))) then None else before) else before))

-- a line without a number tells none
abbrev pub line_stands_on : ℕ → Option LanePlace → Option ℕ → List ℕ → Option LanePlace
line_stands_on id before None text = before
line_stands_on id before (Some number) text = standing_after_on id before text

-- THE STANDING THAT WAS TOLD LAST of an id, from one on
abbrev pub standing_from_on : ℕ → Option LanePlace → List ReportLine → Option LanePlace
standing_from_on id before [] = before
standing_from_on id before (line ∷ lines) =
    standing_from_on id (line_stands_on id before line.number line.text) lines

abbrev pub lane_standing_told : ℕ → List ReportLine → Option LanePlace
lane_standing_told id lines = standing_from_on id None lines

-- as one of this lane
abbrev pub standing_there : ℕ → Option LanePlace → Option Place
standing_there lane None = None
standing_there lane (Some place) = if place.lane == lane then Some place.standing else None

-- ---- the law

-- the ledger of a lane gives each id the standing that was told of it last, where that is on the
-- lane, and else none
pub record TellsLaneStandings (lane : ℕ) (text : List ℕ) : Type 0 where
  pub each : (id : ℕ) → standing_of (marks_in id (lane_ledger_in lane text).marks)
      ≡ standing_there lane (lane_standing_told id (vouched (lines_in text)))

-- THE LAW: over the report of every run of a script over several lanes, whatever last line stands
-- behind it, up to the first line that told what was not so; and so behind each line of the script
abbrev pub LaneReportTellsStandings : Type 0
LaneReportTellsStandings =
    (asked : List LaneLine) (done : List (List LanePoint)) (ending : List ℕ) (lane : ℕ) → 1 ≤ lane
    → AllByRecursion IsFitLaneLine asked → length asked ≤ 1000000
    → IsLaneRun no_lanes asked done → ArePointsProper (all_points done)
    → AreUnnumbered (lines_in ending)
    → TellsLaneStandings lane (lanes_text 1 (all_points done) ++ ending)
