-- A number has one make text.
use Rattle.std.proofs.Common.{◌≡◌, ◌++◌, ℕ, List, [], ◌∷◌, None, codes, decimal, length, take, refl, sym, ap, ◌∙◌, arith, length-append}
use Rattle.std.proofs.Math.Seq.{take-append_seam}
use Rattle.line_report.specs.Texts.{unvouched_text}
use Rattle.line_report.specs.declared.summary.Summary.{Summary}
use Rattle.law_lanes.specs.Alone.{on_firsts}
use Rattle.law_lanes.specs.Lanes.{no_lanes}
use Rattle.law_lanes.specs.Once.{EachLaneScriptHasARun, EachRunTellsOnce}
use Rattle.law_lanes.specs.Parts.{all_points, state_behind}
use Rattle.law_lanes.specs.Views.{lanes_text, summary_on}
use Rattle.law_lanes.proofs.ScriptRuns.{firsts-set}
use Rattle.made_script.specs.Fold.{fold_of}
use Rattle.made_script.specs.Script.{made_script}
use Rattle.line_commands.specs.Report.{ending, report_text}
use Rattle.line_commands.specs.Making.{EachNumberHasOneMakeText, IsMakeText}
use Rattle.line_cli.proofs.ReportOnce.{ending-like}

-- without its last byte a line is what stands before it
front-once : (a b : List ℕ) (byte : ℕ) → a ++ byte ∷ [] ≡ b ++ byte ∷ [] → a ≡ b
front-once a b byte same =
    let lengths : length a ≡ length b = omega (arith, ap length same, length-append a (byte ∷ []), length-append b (byte ∷ [])) in
    sym (take-append_seam a (byte ∷ [])) ∙ ap (take (length a)) same ∙ ap (λ n. take n (b ++ byte ∷ [])) lengths ∙ take-append_seam b (byte ∷ [])

pub made-once : EachRunTellsOnce → (number : ℕ) (a b : List ℕ) → IsMakeText number a → IsMakeText number b → a ≡ b
made-once law number a b one other =
    let alike = law (on_firsts (made_script number)) one.done other.done one.run other.run in
    let end = state_behind no_lanes (all_points one.done) in
    let last_end = state_behind no_lanes (all_points other.done) in
    let ends : ending end None ≡ ending last_end None = ending-like end last_end None alike.summary in
    let reports : report_text (all_points one.done) None ≡ report_text (all_points other.done) None =
    ap (λ told. told ++ ending end None) (alike.text 1) ∙ ap (λ line. lanes_text 1 (all_points other.done) ++ line) ends in
    let last : one.last ≡ other.last = front-once one.last other.last 10 (sym one.ends ∙ ends ∙ other.ends) in
    one.written
    ∙ ap (λ l. l ++ (codes " fold=" ++ decimal (fold_of (report_text (all_points one.done) None)) ++ codes "\n")) last
    ∙ ap (λ t. other.last ++ (codes " fold=" ++ decimal (fold_of t) ++ codes "\n")) reports
    ∙ sym other.written

-- ---- the make text that a number has

-- the last line of a report without its end
abbrev last_line : Summary → List ℕ
last_line summary =
    codes "end lines=" ++ decimal summary.lines ++ codes " boards=" ++ decimal summary.boards ++ codes " opened=" ++ decimal summary.opened ++ codes " settled=" ++ decimal summary.settled
    ++ unvouched_text summary.unvouched

some_make_text : EachLaneScriptHasARun → (number : ℕ) → (text : List ℕ) × IsMakeText number text
some_make_text law number =
    let run = law (on_firsts (made_script number)) (firsts-set (made_script number)) in
    let last = last_line (summary_on (state_behind no_lanes (all_points run.done))) in
    (last ++ (codes " fold=" ++ decimal (fold_of (report_text (all_points run.done) None)) ++ codes "\n"), record { done = run.done; run = run.run; last = last; ends = refl; written = refl })

pub has_one_make_text : EachLaneScriptHasARun → ((number : ℕ) (one other : List ℕ) → IsMakeText number one → IsMakeText number other → one ≡ other) → EachNumberHasOneMakeText
has_one_make_text law once number =
    let some = some_make_text law number in
    record { text = some.0; is = some.1; only = λ other is. once number other some.0 is some.1 }
