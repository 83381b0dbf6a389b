-- What was told is proper, lane by lane and part by part.
use Rattle.std.proofs.Common.{All, ◌≡◌, ◌++◌, ◌<◌, ◌^◌, ℕ, List, [], ◌∷◌, subst}
use Rattle.std.specs.List.{AllByRecursion}
use Rattle.std.proofs.lemmas.List.Elements.{All-append, All-from_recursion, recursion_from_All}
use Rattle.line_report.specs.Lanes.{part_told, parts_told, told_on}
use Rattle.line_report.specs.declared.happening.Happening.{Happening}
use Rattle.line_report.specs.declared.happening.LaneHappening.{LaneHappening}
use Rattle.line_report.specs.declared.lanes.LanePart.{LanePart}
use Rattle.law_report_lines.specs.Proper.{AreProper, IsProperHappening, AreProperOn, AreShiftsProper, GoesToALane, IsProperOn}

pub proper_on : (lane : ℕ) (told : List Happening) → lane < 2 ^ 32 → AreProper told
    → AreShiftsProper told → AreProperOn (told_on lane told)
proper_on lane told few proper shifts =
    record {
      each = All-from_recursion IsProperOn (told_on lane told)
          (by told (recursion_from_All IsProperHappening told proper.each)
          (recursion_from_All GoesToALane told shifts.each));
    } where
      by : (hs : List Happening) → AllByRecursion IsProperHappening hs
          → AllByRecursion GoesToALane hs → AllByRecursion IsProperOn (told_on lane hs)
      by [] all goes = tt
      by (h ∷ hs) all goes = ((few, all.0, goes.0), by hs all.1 goes.1)

pub proper_both : (a b : List LaneHappening) → AreProperOn a → AreProperOn b → AreProperOn (a ++ b)
proper_both a b one two = record { each = All-append IsProperOn a b one.each two.each }

abbrev pub IsProperPart : LanePart → Type 0
IsProperPart part = AreProperOn (part_told part)

pub proper_parts : (parts : List LanePart) → All IsProperPart parts → AreProperOn (parts_told parts)
proper_parts parts proper = by parts (recursion_from_All IsProperPart parts proper) where
  by : (all : List LanePart) → AllByRecursion IsProperPart all → AreProperOn (parts_told all)
  by [] each = record { each = All-from_recursion IsProperOn [] tt }
  by (part ∷ all) each = proper_both (part_told part) (parts_told all) each.0 (by all each.1)

-- the earlier parts and the last one
pub proper_whole : (earlier : List LaneHappening) (last all : List LaneHappening) → earlier ++ last ≡ all → AreProperOn earlier → AreProperOn last → AreProperOn all
proper_whole earlier last all is one two = subst AreProperOn is (proper_both earlier last one two)
