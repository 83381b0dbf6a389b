-- A script has one report.
use Rattle.std.proofs.Common.{◌≡◌, ◌++◌, ℕ, List, Option, Some, None, refl, sym, ap, ◌∙◌}
use Rattle.line_report.specs.Texts.{summary_text}
use Rattle.law_lanes.specs.Lanes.{Lanes, no_lanes}
use Rattle.law_lanes.specs.Once.{EachRunTellsOnce}
use Rattle.law_lanes.specs.Parts.{all_points, state_behind}
use Rattle.law_lanes.specs.Views.{lanes_text, summary_on}
use Rattle.line_commands.specs.Script.{Refusal, script_of}
use Rattle.line_commands.specs.Report.{IsReport, ending}

-- the last line says the numbers of the summary
pub ending-like : (s other : Lanes) (refusal : Option Refusal) → summary_on s ≡ summary_on other → ending s refusal ≡ ending other refusal
ending-like s other None same = ap summary_text same
ending-like s other (Some refusal) same = refl

pub report-once : EachRunTellsOnce → (bytes a b : List ℕ) → IsReport bytes a → IsReport bytes b → a ≡ b
report-once law bytes a b one other =
    let refusal = (script_of bytes).refusal in
    let alike = law (script_of bytes).lines one.done other.done one.run other.run in
    let end = state_behind no_lanes (all_points one.done) in
    let last = ending-like end (state_behind no_lanes (all_points other.done)) refusal alike.summary in
    one.written ∙ ap (λ told. told ++ ending end refusal) (alike.text 1) ∙ ap (λ line. lanes_text 1 (all_points other.done) ++ line) last ∙ sym other.written
