-- What happened on the lanes of a line: parts of one lane, one behind the other.
use Rattle.std.specs.Prelude.{ℕ, ◌++◌, List, flat_map, map}
use Rattle.line_report.specs.declared.happening.Happening.{Happening}
use Rattle.line_report.specs.declared.happening.LaneHappening.{LaneHappening}
use Rattle.line_report.specs.declared.lanes.LanePart.{LanePart}
use Rattle.line_report.specs.Texts.{entry_on}

abbrev pub on_lane : ℕ → Happening → LaneHappening
on_lane lane what = record { lane = lane; what = what }

abbrev pub told_on : ℕ → List Happening → List LaneHappening
told_on lane told = map (on_lane lane) told

abbrev pub part_told : LanePart → List LaneHappening
part_told part = told_on part.lane part.told

abbrev pub parts_told : List LanePart → List LaneHappening
parts_told parts = flat_map part_told parts

-- the report's lines of all of it, each with the number of the script line
abbrev pub entries_on : ℕ → List LaneHappening → List ℕ
entries_on number told = flat_map (entry_on number) told
