-- The last line of a report has no number, so nothing is read off it.
use Rattle.std.proofs.Common.{◌≡◌, ℕ, List, [], ◌∷◌, ◌++◌, Option, Some, None, codes, decimal, refl, subst, sym}
use Rattle.line_script.specs.Words.{why_text}
use Rattle.line_script.specs.declared.line.LineWhy.{LineWhy}
use Rattle.line_report.specs.Texts.{summary_text, unvouched_text}
use Rattle.line_report.specs.declared.summary.Summary.{Summary}
use Rattle.law_lanes.specs.Lanes.{Lanes}
use Rattle.law_lanes.specs.Views.{summary_on}
use Rattle.machine_log.proofs.Inner.{inner, inner_why}
use Rattle.machine_log.proofs.Solid.{inner_decimal, is_inner, join}
use Rattle.law_report_lines.specs.Lines.{AreUnnumbered, line_of, lines_in}
use Rattle.law_report_lines.proofs.Lines.{line_read}
use Rattle.line_commands.specs.Report.{ending}
use Rattle.line_commands.specs.Script.{Refusal}
use Rattle.line_commands.specs.Texts.{refused_text}

-- a text without a line's end, and one behind it, is one line
alone : (text : List ℕ) → inner text → lines_in (text ++ codes "\n") ≡ line_of text ∷ []
alone text h = line_read [] text [] h

-- more words behind a text
more : (text words : List ℕ) → inner text → inner words → inner (text ++ words)
more text words one other = join is_inner text words one other

inner_unvouched : (line : Option ℕ) → inner (unvouched_text line)
inner_unvouched None = refl
inner_unvouched (Some line) = join is_inner (codes " unvouched=") (decimal line) refl (inner_decimal line)

abbrev counts : Summary → List ℕ
counts summary =
    codes "end lines=" ++ decimal summary.lines ++ codes " boards=" ++ decimal summary.boards
    ++ codes " opened=" ++ decimal summary.opened ++ codes " settled=" ++ decimal summary.settled
    ++ unvouched_text summary.unvouched

inner_counts : (summary : Summary) → inner (counts summary)
inner_counts summary =
    let lines : List ℕ = codes "end lines=" ++ decimal summary.lines in
    let boards : List ℕ = lines ++ codes " boards=" ++ decimal summary.boards in
    let opened : List ℕ = boards ++ codes " opened=" ++ decimal summary.opened in
    let settled : List ℕ = opened ++ codes " settled=" ++ decimal summary.settled in
    let lines_inner : inner lines = more (codes "end lines=") (decimal summary.lines) refl (inner_decimal summary.lines) in
    let boards_inner : inner boards = more (lines ++ codes " boards=") (decimal summary.boards) (more lines (codes " boards=") lines_inner refl) (inner_decimal summary.boards) in
    let opened_inner : inner opened = more (boards ++ codes " opened=") (decimal summary.opened) (more boards (codes " opened=") boards_inner refl) (inner_decimal summary.opened) in
    let settled_inner : inner settled = more (opened ++ codes " settled=") (decimal summary.settled) (more opened (codes " settled=") opened_inner refl) (inner_decimal summary.settled) in
    more settled (unvouched_text summary.unvouched) settled_inner (inner_unvouched summary.unvouched)

summary_unnumbered : (summary : Summary) → AreUnnumbered (lines_in (summary_text summary))
summary_unnumbered summary = subst AreUnnumbered (sym (alone (counts summary) (inner_counts summary))) (refl, tt)

abbrev refused : ℕ → LineWhy → List ℕ
refused number why = codes "refused " ++ decimal number ++ codes ": " ++ why_text why

refused_unnumbered : (number : ℕ) (why : LineWhy) → AreUnnumbered (lines_in (refused_text number why))
refused_unnumbered number why =
    let line : List ℕ = codes "refused " ++ decimal number in
    let line_in : inner line = more (codes "refused ") (decimal number) refl (inner_decimal number) in
    let within : inner (refused number why) = more (line ++ codes ": ") (why_text why) (more line (codes ": ") line_in refl) (inner_why why) in
    subst AreUnnumbered (sym (alone (refused number why) within)) (refl, tt)

pub ending_unnumbered : (s : Lanes) (refusal : Option Refusal) → AreUnnumbered (lines_in (ending s refusal))
ending_unnumbered s None = summary_unnumbered (summary_on s)
ending_unnumbered s (Some refusal) = refused_unnumbered refusal.line refusal.why
