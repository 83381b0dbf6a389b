-- What the first lines of a script are told of is a front of its report, since its other lines have steps; and a script has a
-- report.
use Rattle.std.proofs.Common.{◌≡◌, ◌∙◌, ◌+◌, ◌++◌, ℕ, List, append_assoc, ap, refl, subst, sym}
use Rattle.std.specs.List.{AllByRecursion}
use Rattle.line_script.specs.declared.line.LaneLine.{LaneLine}
use Rattle.law_lanes.specs.Lanes.{lines_of, no_lanes}
use Rattle.law_lanes.specs.Once.{EachLaneScriptHasARun, EachRunRemembers, EachRunTellsOnce, SetsFew}
use Rattle.law_lanes.specs.Parts.{IsLaneRun, LanePoint, all_points, state_behind}
use Rattle.law_lanes.specs.Views.{lanes_text}
use Rattle.law_lanes.proofs.ScriptRuns.{RunsOn, fits-set, run-apart, runs-told}
use Rattle.line_commands.specs.Report.{BeginsReport, EachScriptHasOneReport, IsReport, ending, report_text}
use Rattle.line_commands.specs.Script.{script_of}
use Rattle.line_commands.proofs.FitScript.{scripts_are_fit}

-- a text is a front of what the first lines of a script are told of
pub record IsFirstTold (bytes text : List ℕ) : Type 0 where
  pub lines : List LaneLine
  pub others : List LaneLine
  pub all : (script_of bytes).lines ≡ lines ++ others
  pub done : List (List LanePoint)
  pub run : IsLaneRun no_lanes lines done
  pub rest : List ℕ
  pub front : text ++ rest ≡ lanes_text 1 (all_points done)

-- a script that is read sets a few lanes
pub script_sets : (bytes : List ℕ) → AllByRecursion SetsFew (script_of bytes).lines
script_sets bytes = fits-set (script_of bytes).lines (scripts_are_fit bytes).fit

-- a text, what is told behind it, and what is told and written behind that
whole_text : (text rest told more last : List ℕ) → text ++ rest ≡ told → text ++ (rest ++ (more ++ last)) ≡ (told ++ more) ++ last
whole_text text rest told more last is = sym (append_assoc text rest (more ++ last)) ∙ ap (λ t. t ++ (more ++ last)) is ∙ sym (append_assoc told more last)

-- each script has a run, what it tells is one thing, and the line remembers the lies of it
pub record ScriptsRun : Type 0 where
  pub runs : EachLaneScriptHasARun
  pub once : EachRunTellsOnce
  pub remembers : EachRunRemembers

pub first_begins : ScriptsRun → (bytes text : List ℕ) → IsFirstTold bytes text → BeginsReport bytes text
first_begins laws bytes text first =
    let whole = laws.runs (script_of bytes).lines (script_sets bytes) in
    let apart = run-apart no_lanes first.lines first.others whole.done (subst (λ (asked : List LaneLine). IsLaneRun no_lanes asked whole.done) first.all whole.run) in
    let alike = laws.once first.lines first.done apart.earlier first.run apart.first in
    let between = state_behind no_lanes (all_points apart.earlier) in
    let more = lanes_text (lines_of between + 1) (all_points apart.later) in
    let last = ending (state_behind no_lanes (all_points whole.done)) (script_of bytes).refusal in
    let head : RunsOn no_lanes first.lines apart.earlier between = record { run = apart.first; after = refl } in
    record {
      rest = first.rest ++ (more ++ last);
      whole = record {
        done = whole.done;
        run = whole.run;
        written =
            whole_text text first.rest (lanes_text 1 (all_points first.done)) more last first.front
            ∙ ap (λ t. (t ++ more) ++ last) (alike.text 1)
            ∙ ap (λ t. t ++ last) (sym (runs-told no_lanes between first.lines apart.earlier apart.later head))
            ∙ ap (λ (d : List (List LanePoint)). lanes_text 1 (all_points d) ++ last) (sym apart.is);
      };
    }

-- ---- the report that a script has

some_report : EachLaneScriptHasARun → (bytes : List ℕ) → (text : List ℕ) × IsReport bytes text
some_report runs bytes =
    let run = runs (script_of bytes).lines (script_sets bytes) in
    (report_text (all_points run.done) (script_of bytes).refusal, record { done = run.done; run = run.run; written = refl })

pub has_one_report : EachLaneScriptHasARun → ((bytes one other : List ℕ) → IsReport bytes one → IsReport bytes other → one ≡ other) → EachScriptHasOneReport
has_one_report runs once bytes =
    let some = some_report runs bytes in
    record { text = some.0; is = some.1; only = λ other is. once bytes other some.0 is some.1 }
