-- The bytes of a report over several lanes are cut into the lines of its happenings.
use Rattle.std.proofs.Common.{◌≡◌, ◌∙◌, sym, ap, ℕ, ◌+◌, ◌<◌, ◌^◌, Bool, List, [], ◌∷◌, ◌++◌, Option, Some, None, append_assoc, arith, decimal, if◌then◌else◌, refl, codes}
use Rattle.std.specs.List.{AllByRecursion}
use Rattle.line_base.specs.Number.{value_of}
use Rattle.machine_log.proofs.Inner.{inner, spaced}
use Rattle.machine_log.proofs.Solid.{inner_decimal, solid_decimal}
use Rattle.law_running_logs.proofs.LineTexts.{number_is, value_is}
use Rattle.std.proofs.lemmas.List.Elements.{recursion_from_All}
use Rattle.line_check.specs.Words.{behind, first_of}
use Rattle.line_report.specs.Lanes.{entries_on}
use Rattle.line_report.specs.Texts.{entry_on, happening_on}
use Rattle.line_report.specs.declared.happening.LaneHappening.{LaneHappening}
use Rattle.law_lanes.specs.Lanes.{Lanes, lines_of}
use Rattle.law_lanes.specs.Parts.{IsShort, LanePoint}
use Rattle.law_lanes.specs.Views.{lanes_text}
use Rattle.law_report_lines.specs.Proper.{ArePointsProper, IsProperOn}
use Rattle.law_report_lines.proofs.Lines.{line_read}
use Rattle.law_report_lines.specs.Lines.{ReportLine, line_of, number_in, lines_in}
use Rattle.law_report_ledger.proofs.Inner.{inner_happening}
use Rattle.law_report_ledger.proofs.Words.{cut_solid}

-- ---- a line

abbrev pub line_with : Option ℕ → List ℕ → ReportLine
line_with number text = record { number = number; text = text }

pub number_read : (number : ℕ) → number < 2 ^ 32 → number_in (decimal number) ≡ Some number
number_read number small =
    ap (λ (b : Bool). if b then Some (value_of (decimal number)) else None) (number_is number small)
    ∙ ap (λ (v : ℕ). Some v) (value_is number (omega (arith, small)))

-- ---- what happened on a lane, and its line

-- the text of it
abbrev pub text_of : LaneHappening → List ℕ
text_of happening = happening_on happening.lane happening.what

line_is : (number : ℕ) (text : List ℕ) → number < 2 ^ 32
    → line_of ((decimal number ++ codes " ") ++ text) ≡ line_with (Some number) text
line_is number text small =
    let whole : List ℕ = (decimal number ++ codes " ") ++ text in
    ap (λ (o : Option (List ℕ × List ℕ)). line_with (number_in (first_of o whole)) (behind o))
    (cut_solid (decimal number) text (solid_decimal number))
    ∙ ap (λ (n : Option ℕ). line_with n text) (number_read number small)

entry_read : (number : ℕ) (happening : LaneHappening) (rest : List ℕ) → number < 2 ^ 32
    → inner (text_of happening)
    → lines_in (entry_on number happening ++ rest)
    ≡ line_with (Some number) (text_of happening) ∷ lines_in rest
entry_read number happening rest small h =
    let text = text_of happening in
    ap lines_in (append_assoc ((decimal number ++ codes " ") ++ text) (codes "\n") rest)
    ∙ line_read [] ((decimal number ++ codes " ") ++ text) rest
    (spaced (decimal number) text (inner_decimal number) h)
    ∙ ap (λ (l : ReportLine). l ∷ lines_in rest) (line_is number text small)

-- ---- the lines of a run

abbrev pub lines_told : ℕ → List LaneHappening → List ReportLine
lines_told number [] = []
lines_told number (happening ∷ told) =
    line_with (Some number) (text_of happening) ∷ lines_told number told

abbrev pub run_lines : ℕ → List LanePoint → List ReportLine
run_lines number [] = []
run_lines number (point ∷ points) =
    lines_told number point.told ++ run_lines (lines_of point.after + 1) points

told_read : (number : ℕ) (told : List LaneHappening) (rest : List ℕ) → number < 2 ^ 32
    → AllByRecursion IsProperOn told
    → lines_in (entries_on number told ++ rest) ≡ lines_told number told ++ lines_in rest
told_read number [] rest small proper = refl
told_read number (happening ∷ told) rest small proper =
    let later = entries_on number told in
    ap lines_in (append_assoc (entry_on number happening) later rest)
    ∙ entry_read number happening (later ++ rest) small
    (inner_happening happening.lane happening.what proper.0.1)
    ∙ ap (λ (l : List ReportLine). line_with (Some number) (text_of happening) ∷ l)
    (told_read number told rest small proper.1)

pub run_read : (s : Lanes) (points : List LanePoint) (rest : List ℕ) → IsShort s points
    → ArePointsProper points
    → lines_in (lanes_text (lines_of s + 1) points ++ rest)
    ≡ run_lines (lines_of s + 1) points ++ lines_in rest
run_read s [] rest few proper = refl
run_read s (point ∷ points) rest few proper =
    let number = lines_of s + 1 in
    let later = lanes_text (lines_of point.after + 1) points in
    let here = few.0 in
    ap lines_in (append_assoc (entries_on number point.told) later rest)
    ∙ told_read number point.told (later ++ rest) (omega (arith, here))
    (recursion_from_All IsProperOn point.told proper.0.each)
    ∙ ap (λ (l : List ReportLine). lines_told number point.told ++ l)
    (run_read point.after points rest few.1 proper.1)
    ∙ sym (append_assoc (lines_told number point.told) (run_lines (lines_of point.after + 1) points)
    (lines_in rest))
