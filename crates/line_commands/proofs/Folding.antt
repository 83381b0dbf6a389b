-- The run of a made script, folded as it goes, and its last line.
use Rattle.std.proofs.Common.{◌≡◌, ◌<◌, ◌+◌, ℕ, List, [], ◌∷◌, ◌++◌, length, take, codes, decimal, Option, Some, None, IsSome, Result, Ok, Err, OnOk, is_err, false, refl, sym, ap, subst, ◌∙◌, arith, length-append}
use Rattle.std.specs.Option.{option_to_list}
use Rattle.std.proofs.lemmas.Bool.{false≢true}
use Rattle.std.proofs.Math.Seq.{take-append_seam}
use Rattle.std.proofs.lemmas.List.{map-append}
use Rattle.std.proofs.lemmas.List.Sums.{fold-append}
use Rattle.line_base.specs.declared.memory.Memory.{Memory}
use Rattle.line_script.specs.declared.line.ScriptLine.{ScriptLine}
use Rattle.line_script.specs.declared.line.LaneLine.{LaneLine}
use Rattle.line_report.specs.Lanes.{entries_on}
use Rattle.line_report.specs.declared.happening.LaneHappening.{LaneHappening}
use Rattle.line_report.specs.Texts.{summary_text, unvouched_text}
use Rattle.line_report.specs.declared.summary.Summary.{Summary}
use Rattle.law_lanes.specs.Alone.{on_first, on_firsts}
use Rattle.law_lanes.specs.Lanes.{Lanes, lines_of, no_lanes}
use Rattle.law_lanes.specs.Parts.{IsLaneRun, LaneLineSteps, LanePoint, all_points}
use Rattle.law_lanes.specs.Views.{lanes_text, summary_on}
use Rattle.law_lanes.proofs.ScriptRuns.{RunsOn, line-counted, one-told, run-one, runs-on, runs-told}
use Rattle.made_script.specs.Fold.{fold_byte, fold_from, fold_of}
use Rattle.made_script.specs.Script.{made_script}
use Rattle.law_report_lines.specs.Proper.{AreProperOn}
use Rattle.line_commands.specs.Report.{report_text}
use Rattle.line_commands.specs.Reader.{DoesAsked, Sums}
use Rattle.line_commands.specs.Making.{IsFolding, IsLastLine, IsMakeText}
use Rattle.line_commands.specs.declared.script_run.RunError.{RunError}
use Rattle.line_commands.specs.declared.script_run.RunError.TheVariants as errors

pub folds-first : IsFolding [] no_lanes 0 []
folds-first = record { done = []; run = tt; after = refl; counted = refl; told = refl }

-- a line more is done
pub folds-line : (asked : List ScriptLine) (line : ScriptLine) (state state' : Lanes) (folded : ℕ) (text text' : List ℕ) → IsFolding asked state folded text → DoesAsked (on_first line) state state' text text' → IsFolding (asked ++ line ∷ []) state' folded text'
folds-line asked line state state' folded text text' folding does =
    let asks = on_first line in
    let own : List (List LanePoint) = does.steps.points ∷ [] in
    let more = entries_on (lines_of state + 1) does.told in
    let earlier = lanes_text 1 (all_points folding.done) in
    let head : RunsOn no_lanes (on_firsts asked) folding.done state = record { run = folding.run; after = folding.after } in
    let on = runs-on no_lanes state state' (on_firsts asked) (asks ∷ []) folding.done own head (run-one asks state state' does.told does.steps) in
    let P : List LaneLine → Type 0 = λ lines. IsLaneRun no_lanes lines (folding.done ++ own) in
    let counted : lines_of state' ≡ lines_of state + 1 = line-counted asks state state' does.told does.steps in
    let telling : lanes_text 1 (all_points (folding.done ++ own)) ≡ earlier ++ more =
    runs-told no_lanes state (on_firsts asked) folding.done own head ∙ ap (λ t. earlier ++ t) (sym (one-told asks state state' does.told does.steps)) in
    record {
      done = folding.done ++ own;
      run = subst P (sym (map-append on_first asked (line ∷ []))) on.run;
      after = on.after;
      counted = omega (arith, counted, folding.counted, length-append asked (line ∷ []));
      told =
          ap (fold_from folded) does.text
          ∙ fold-append fold_byte folded text more
          ∙ ap (λ f. fold_from f more) folding.told
          ∙ sym (fold-append fold_byte 0 earlier more)
          ∙ ap fold_of (sym telling);
    }

-- some of what waits is folded
pub folds-on : (asked : List ScriptLine) (state : Lanes) (folded folded' : ℕ) (text text' : List ℕ) → IsFolding asked state folded text → fold_from folded' text' ≡ fold_from folded text → IsFolding asked state folded' text'
folds-on asked state folded folded' text text' folding same = record { done = folding.done; run = folding.run; after = folding.after; counted = folding.counted; told = same ∙ folding.told }

-- all lines were done, and all that waited is folded
pub folds-whole : (number : ℕ) (asked : List ScriptLine) (state : Lanes) (folded whole : ℕ) (text : List ℕ) → asked ≡ made_script number → IsFolding asked state folded text → whole ≡ fold_from folded text → IsFolding (made_script number) state whole []
folds-whole number asked state folded whole text all folding is =
    let P : List ScriptLine → Type 0 = λ lines. IsFolding lines state whole [] in
    subst P all (folds-on asked state folded whole text [] folding is)

-- the last line of such a run is the make text
pub folds-end : (number : ℕ) (state : Lanes) (whole : ℕ) (line : List ℕ) → IsFolding (made_script number) state whole [] → IsLastLine state whole line → IsMakeText number line
folds-end number state whole line folding last =
    let earlier = lanes_text 1 (all_points folding.done) in
    let sum = summary_text (summary_on state) in
    let same : fold_from whole sum ≡ fold_of (report_text (all_points folding.done) None) =
    ap (λ f. fold_from f sum) folding.told ∙ sym (fold-append fold_byte 0 earlier sum) ∙ ap (λ (s : Lanes). fold_of (earlier ++ summary_text (summary_on s))) (sym folding.after) in
    record {
      done = folding.done;
      run = folding.run;
      last = last.last;
      ends = ap (λ (s : Lanes). summary_text (summary_on s)) folding.after ∙ last.ends;
      written = last.written ∙ ap (λ n. last.last ++ (codes " fold=" ++ decimal n ++ codes "\n")) same;
    }

-- THE LAST LINE

-- without its end
abbrev summary_words : Summary → List ℕ
summary_words s = codes "end lines=" ++ decimal s.lines ++ codes " boards=" ++ decimal s.boards ++ codes " opened=" ++ decimal s.opened ++ codes " settled=" ++ decimal s.settled ++ unvouched_text s.unvouched

summary-ends : (s : Summary) → summary_text s ≡ summary_words s ++ codes "\n"
summary-ends s = refl

-- what is left of a text whose last byte was taken off
popped : (words left : List ℕ) (byte : ℕ) (off : Option ℕ) → words ++ byte ∷ [] ≡ left ++ option_to_list off → (0 < length (words ++ byte ∷ []) → IsSome off) → left ≡ words
popped words left byte None same some = absurd (false≢true (some (omega (arith, length-append words (byte ∷ [])))))
popped words left byte (Some last) same some =
    let lengths : length words ≡ length left = omega (arith, ap length same, length-append words (byte ∷ []), length-append left (last ∷ [])) in
    sym (take-append_seam left (last ∷ [])) ∙ ap (take (length left)) (sym same) ∙ ap (λ n. take n (words ++ byte ∷ [])) (sym lengths) ∙ take-append_seam words (byte ∷ [])

-- the last line is written without its end, and then the fold
pub last-line : (state : Lanes) (folded whole : ℕ) (summed left text : List ℕ) (off : Option ℕ) → summed ≡ summary_text (summary_on state) → summed ≡ left ++ option_to_list off → (0 < length summed → IsSome off) → whole ≡ fold_from folded summed → text ≡ left ++ (codes " fold=" ++ decimal whole ++ codes "\n") → IsLastLine state folded text
last-line state folded whole summed left text off is same some folds writes =
    let words = summary_words (summary_on state) in
    let split : summed ≡ words ++ 10 ∷ [] = is ∙ summary-ends (summary_on state) in
    let short : left ≡ words = popped words left 10 off (sym split ∙ same) (λ more. some (subst (λ (l : List ℕ). 0 < length l) (sym split) more)) in
    record {
      last = left;
      ends = summary-ends (summary_on state) ∙ ap (λ l. l ++ codes "\n") (sym short);
      written = writes ∙ ap (λ n. left ++ (codes " fold=" ++ decimal n ++ codes "\n")) (folds ∙ ap (fold_from folded) is);
    }

-- the summary is written, where it is not an error
pub summed : (result : Result (Unit {0}) RunError) (state : Lanes) (before now : List ℕ) → is_err result ≡ false → before ≡ [] → Sums result state before now → now ≡ summary_text (summary_on state)
summed (Ok done) state before now fine empty sums = sums.text ∙ ap (λ t. t ++ summary_text (summary_on state)) empty
summed (Err (errors.Refused number why)) state before now fine empty sums = absurd sums
summed (Err errors.Memory) state before now fine empty sums = cc

-- what a line that was read does, unless memory was wanting
pub did-asked : (result : Result (Unit {0}) Memory) (asked : LaneLine) (inner old new : Lanes) (number : ℕ) (told : List LaneHappening) (before now : List ℕ) → inner ≡ old → number ≡ lines_of inner + 1 → AreProperOn told → LaneLineSteps asked inner new told → OnOk result (now ≡ before ++ entries_on number told) → OnOk result (DoesAsked asked old new before now)
did-asked (Err memory) asked inner old new number told before now is counted proper steps text = tt
did-asked (Ok done) asked inner old new number told before now is counted proper steps text =
    let next : number ≡ lines_of old + 1 = counted ∙ ap (λ (s : Lanes). lines_of s + 1) is in
    let S : Lanes → Type 0 = λ s. LaneLineSteps asked s new told in
    record {
      told = told;
      proper = proper;
      steps = subst S is steps;
      text = text ∙ ap (λ n. before ++ entries_on n told) next;
    }
