-- STARTS AND OPENINGS OF EACH LANE in a report's bytes: where the text tells that a handover opens at
-- a gap of a lane, the last start that it told there is of this board, and nothing was opened,
-- refused or settled there since.
use Rattle.std.specs.Prelude.{◌≡◌, ℕ, ◌++◌, false, List, [], ◌∷◌, Option, None, Some, codes, if◌then◌else◌, ◌≤◌, ◌==◌, length}
use Rattle.std.specs.List.{list_any, AllByRecursion}
use Rattle.std.specs.Str.{bytes_eq}
use Rattle.law_history.specs.Opened.{is_other}
use Rattle.node_core.specs.declared.act.Deed.{Deed}
use Rattle.node_core.specs.declared.act.Deed.TheVariants.{Drops, Opens, Refuses, Settles, Starts}
use Rattle.line_check.specs.LogLine.{id_of}
use Rattle.line_check.specs.Words.{behind, cut_at_space, first_word}
use Rattle.line_script.specs.declared.line.LaneLine.{LaneLine}
use Rattle.law_lanes.specs.Along.{IsFitLaneLine}
use Rattle.law_lanes.specs.Lanes.{no_lanes}
use Rattle.law_lanes.specs.Parts.{IsLaneRun, LanePoint, all_points}
use Rattle.law_lanes.specs.Views.{lanes_text}
use Rattle.law_report_lines.specs.Lines.{AreUnnumbered, ReportLine, lines_in}
use Rattle.law_report_ledger.specs.Places.{lane_of, number_of}
use Rattle.law_report_lines.specs.Proper.{ArePointsProper}
use Rattle.law_report_ledger.specs.ReportLines.{vouched}

-- ---- what a text tells of a gap, by its first word

abbrev pub GapWord : Type 0
GapWord = Option (ℕ → Deed)

abbrev pub gap_word : List ℕ → GapWord
gap_word word =
    if bytes_eq word (codes "starts") then Some Starts else
    if bytes_eq word (codes "opens") then Some Opens else
    if bytes_eq word (codes "refuses") then Some Refuses else
    if bytes_eq word (codes "settles") then Some Settles else
    if bytes_eq word (codes "drops") then Some Drops else None

abbrev pub deed_of_id : (ℕ → Deed) → Option ℕ → List Deed
deed_of_id deed None = []
deed_of_id deed (Some id) = deed id ∷ []

-- the gap's place stands before the id
abbrev pub placed_on : ℕ → ℕ → (ℕ → Deed) → Option (List ℕ × List ℕ) → List Deed
placed_on lane gap deed None = []
placed_on lane gap deed (Some (place, rest)) =
    if lane_of place == lane
    then (if number_of place == gap then deed_of_id deed (id_of rest) else []) else []

abbrev pub told_by_on : ℕ → ℕ → GapWord → List ℕ → List Deed
told_by_on lane gap None rest = []
told_by_on lane gap (Some deed) rest = placed_on lane gap deed (cut_at_space rest)

abbrev pub told_at_on : ℕ → ℕ → List ℕ → List Deed
told_at_on lane gap text = told_by_on lane gap (gap_word (first_word text)) (behind (cut_at_space text))

-- a line without a number tells nothing
abbrev pub line_tells_on : ℕ → ℕ → Option ℕ → List ℕ → List Deed
line_tells_on lane gap None text = []
line_tells_on lane gap (Some number) text = told_at_on lane gap text

-- THE DEEDS OF A GAP of a lane that some lines tell, in their order
abbrev pub gap_told_on : ℕ → ℕ → List ReportLine → List Deed
gap_told_on lane gap [] = []
gap_told_on lane gap (line ∷ lines) =
    line_tells_on lane gap line.number line.text ++ gap_told_on lane gap lines

-- ---- the law

-- of these deeds the last start is of this board, and since then there was no start, opening,
-- refusal or settling
pub record IsAsked (id : ℕ) (told : List Deed) : Type 0 where
  pub before : List Deed
  pub since : List Deed
  pub told_is : told ≡ before ++ Starts id ∷ since
  pub last : list_any is_other since ≡ false

-- a line opens a handover at a gap of a lane only where it was asked for there
abbrev pub IsAskedForOn : ℕ → ℕ → List ReportLine → ReportLine → Type 0
IsAskedForOn lane gap before line =
    (id : ℕ) → line_tells_on lane gap line.number line.text ≡ Opens id ∷ []
    → IsAsked id (gap_told_on lane gap before)

-- line after line; `before` are those before
abbrev pub OpensWereAskedOn : ℕ → ℕ → List ReportLine → List ReportLine → Type 0
OpensWereAskedOn lane gap before [] = Unit {0}
OpensWereAskedOn lane gap before (line ∷ lines) =
    IsAskedForOn lane gap before line × OpensWereAskedOn lane gap (before ++ line ∷ []) lines

-- THE LAW: at each gap of each lane, over the report of every run of a script over several lanes,
-- whatever last line stands behind it, up to the first line that told what was not so
abbrev pub LaneReportTellsStarts : Type 0
LaneReportTellsStarts =
    (asked : List LaneLine) (done : List (List LanePoint)) (ending : List ℕ) (lane gap : ℕ)
    → 1 ≤ lane → 1 ≤ gap → AllByRecursion IsFitLaneLine asked → length asked ≤ 1000000
    → IsLaneRun no_lanes asked done → ArePointsProper (all_points done)
    → AreUnnumbered (lines_in ending)
    → OpensWereAskedOn lane gap [] (vouched (lines_in (lanes_text 1 (all_points done) ++ ending)))
