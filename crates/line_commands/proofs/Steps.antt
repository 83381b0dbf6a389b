-- What a line does to the script and the report of all that follows.
use Rattle.std.proofs.Common.{◌≡◌, ◌<◌, ◌≤◌, ◌+◌, ◌==◌, ℕ, Bool, true, false, List, [], ◌∷◌, ◌++◌, Some, Result, Ok, Err, length, refl, sym, ap, subst, ◌∙◌, arith, append_assoc, append-nil, length-append, lt-ltb, ltb-false, nat_lt}
use Rattle.std.specs.List.{AllByRecursion}
use Rattle.std.proofs.lemmas.List.Elements.{All-from_recursion, recursion_from_All}
use Rattle.std.specs.Str.Lines.{lines, strip_carriage_return}
use Rattle.log_verdict.proofs.LinesLemmas.{length-strip}
use Rattle.line_script.specs.declared.line.LaneLine.{LaneLine}
use Rattle.line_script.specs.declared.line.LineWhy.{LineWhy}
use Rattle.line_script.specs.declared.line.LineWhy.TheVariants as whys
use Rattle.line_report.specs.Texts.{summary_text}
use Rattle.line_report.specs.Lanes.{entries_on}
use Rattle.line_report.specs.declared.happening.LaneHappening.{LaneHappening}
use Rattle.law_lanes.specs.Lanes.{Lanes, lines_of}
use Rattle.law_lanes.specs.Parts.{IsLaneRun, LanePoint, all_points, all_told}
use Rattle.law_lanes.specs.Views.{lanes_text, summary_on}
use Rattle.law_lanes.proofs.ScriptRuns.{RunsOn, line-counted, one-told, points-append, run-append, run-one, runs-on, runs-told}
use Rattle.law_report_lines.specs.Proper.{AreProperOn, ArePointsProper, IsProperOn}
use Rattle.line_commands.specs.LineEnds.{HasNoEnd}
use Rattle.line_commands.specs.Texts.{refused_text}
use Rattle.line_commands.specs.Script.{Script, meaning_at, script_from, behind_lines}
use Rattle.line_commands.specs.Reader.{Place, IsDone, IsRefused, DoesLine, RefusesAs, Advances, Takes, Finishes, Sums, script_behind}
use Rattle.line_commands.specs.declared.script_run.RunError.{RunError}
use Rattle.line_commands.specs.declared.script_run.RunError.TheVariants as errors
use Rattle.line_commands.proofs.LinesLemmas.{lines-end, lines-last, lines-long, StartsLong}

-- some lines, and others behind them
pub behind-behind : (first second : List LaneLine) (script : Script) → behind_lines first (behind_lines second script) ≡ behind_lines (first ++ second) script
behind-behind first second script =
    let with_lines : List LaneLine → Script = λ asked. record { lines = asked; refusal = script.refusal } in
    ap with_lines (sym (append_assoc first second script.lines))

-- a line that is done leaves the script of the rest behind it
pub script-done : (old new : Lanes) (line before now : List ℕ) (others : List (List ℕ)) (done : IsDone old new line before now) → script_from (lines_of old) (line ∷ others) ≡ behind_lines (done.asked ∷ []) (script_from (lines_of new) others)
script-done old new line before now others done =
    let counted : lines_of new ≡ lines_of old + 1 = line-counted done.asked old new done.told done.steps in
    rw (counted, done.meaning) refl

-- a refused line ends the script
pub script-refused : (old : Lanes) (line before now : List ℕ) (number : ℕ) (why : LineWhy) (others : List (List ℕ)) → IsRefused old line before now number why → script_from (lines_of old) (line ∷ others) ≡ record { lines = []; refusal = Some (record { line = number; why = why }) }
script-refused old line before now number why others refused = rw (refused.counted, refused.meaning) refl

-- what was told of several points is proper of each
proper-front : (a b : List LaneHappening) → AreProperOn (a ++ b) → AreProperOn a × AreProperOn b
proper-front a b proper =
    let parts = by a (recursion_from_All IsProperOn (a ++ b) proper.each) in
    (record { each = All-from_recursion IsProperOn a parts.0 }, record { each = All-from_recursion IsProperOn b parts.1 }) where
      by : (hs : List LaneHappening) → AllByRecursion IsProperOn (hs ++ b) → AllByRecursion IsProperOn hs × AllByRecursion IsProperOn b
      by [] all = (tt, all)
      by (h ∷ hs) all = let later = by hs all.1 in ((all.0, later.0), later.1)

pub proper-points : (points : List LanePoint) → AreProperOn (all_told points) → ArePointsProper points
proper-points [] proper = tt
proper-points (point ∷ points) proper =
    let parts = proper-front point.told (all_told points) proper in
    (parts.0, proper-points points parts.1)

-- of a line, whose points are all that it did
pub proper-line : (points : List LanePoint) → AreProperOn (all_told points) → ArePointsProper (all_points (points ∷ []))
proper-line points proper = subst (λ (ps : List LanePoint). ArePointsProper ps) (sym (append-nil points)) (proper-points points proper)

-- a line that is longer than a line may be is refused for that
pub meaning-long : (number : ℕ) (line : List ℕ) → 4096 < length line → meaning_at number line ≡ Err whys.LongLine
meaning-long number line long = rw (lt-ltb 4096 (length line) long) refl

short_by : (t : Bool) (number : ℕ) (line : List ℕ) (asked : LaneLine) → nat_lt 4096 (length line) ≡ t → meaning_at number line ≡ Ok asked → length line ≤ 4096
short_by true number line asked test meaning = let long : meaning_at number line ≡ Err whys.LongLine = rw test refl in cc
short_by false number line asked test meaning = ltb-false 4096 (length line) test

-- a line that is done is short enough
pub meaning-short : (number : ℕ) (line : List ℕ) (asked : LaneLine) → meaning_at number line ≡ Ok asked → length line ≤ 4096
meaning-short number line asked meaning = short_by (nat_lt 4096 (length line)) number line asked refl meaning

-- PIECES

-- a line's rest, its end, and what follows, behind what was pending
pub lines-pending : (pending part rest : List ℕ) → HasNoEnd (pending ++ part) → lines (pending ++ ((part ++ 10 ∷ []) ++ rest)) ≡ strip_carriage_return (pending ++ part) ∷ lines rest
lines-pending pending part rest none =
    let text : pending ++ ((part ++ 10 ∷ []) ++ rest) ≡ (pending ++ part) ++ 10 ∷ rest = simp append_assoc in
    ap lines text ∙ lines-end (pending ++ part) rest none

-- the end of a line is taken: what is pending then is nothing
pub takes-line : (result : Result (Unit {0}) RunError) (old : Place) (state : Lanes) (part before now : List ℕ) → HasNoEnd (old.pending ++ part) → DoesLine result old.state state (strip_carriage_return (old.pending ++ part)) before now → Takes result old (record { state = state; pending = [] }) (part ++ 10 ∷ []) before now
takes-line (Ok done) old state part before now none does =
    let line = strip_carriage_return (old.pending ++ part) in
    record {
      asked = does.asked ∷ [];
      done = does.steps.points ∷ [];
      run = (run-one does.asked old.state state does.told does.steps).run;
      proper = proper-line does.steps.points (subst AreProperOn does.steps.told_is does.proper);
      after = (run-one does.asked old.state state does.told does.steps).after;
      text = does.text ∙ ap (λ t. before ++ t) (one-told does.asked old.state state does.told does.steps);
      script = λ rest. ap (script_from (lines_of old.state)) (lines-pending old.pending part rest none) ∙ script-done old.state state line before now (lines rest) does;
      progress =
          let counted : lines_of state ≡ lines_of old.state + 1 = line-counted does.asked old.state state does.told does.steps in
          let short : length line ≤ 4096 = meaning-short (lines_of old.state + 1) line does.asked does.meaning in
          omega (arith, counted, short, length-strip (old.pending ++ part), length-append old.pending part, length-append part (10 ∷ []));
    }
takes-line (Err (errors.Refused number why)) old state part before now none does =
    let line = strip_carriage_return (old.pending ++ part) in
    record {
      refuses = λ rest. record {
        asked = [];
        done = [];
        run = tt;
        proper = tt;
        text = does.text;
        script_is = ap (script_from (lines_of old.state)) (lines-pending old.pending part rest none) ∙ script-refused old.state line before now number why (lines rest) does;
      };
    }
takes-line (Err errors.Memory) old state part before now none does = tt

-- the same, where nothing was pending
pub takes-line_alone : (result : Result (Unit {0}) RunError) (old new : Lanes) (pending part before now : List ℕ) → pending ≡ [] → HasNoEnd part → DoesLine result old new (strip_carriage_return part) before now → Takes result (record { state = old; pending = pending }) (record { state = new; pending = pending }) (part ++ 10 ∷ []) before now
takes-line_alone result old new pending part before now empty none does =
    let P : List ℕ → Type 0 = λ pending. Takes result (record { state = old; pending = pending }) (record { state = new; pending = pending }) (part ++ 10 ∷ []) before now in
    subst P (sym empty) (takes-line result (record { state = old; pending = [] }) new part before now none does)

-- the next line is too long, whatever follows
pub takes-long : (result : Result (Unit {0}) RunError) (old new : Place) (part tail before now : List ℕ) → HasNoEnd (old.pending ++ part) → 4097 < length (old.pending ++ part) → RefusesAs result (lines_of old.state + 1) whys.LongLine before now → Takes result old new (part ++ tail) before now
takes-long (Ok done) old new part tail before now none long refuses = absurd refuses
takes-long (Err (errors.Refused number why)) old new part tail before now none long refuses =
    let text : (rest : List ℕ) → old.pending ++ ((part ++ tail) ++ rest) ≡ (old.pending ++ part) ++ (tail ++ rest) = λ rest. simp append_assoc in
    let starts : (rest : List ℕ) → StartsLong (lines (old.pending ++ ((part ++ tail) ++ rest))) = λ rest. rw (text rest) (lines-long (old.pending ++ part) (tail ++ rest) none long) in
    let refused : (rest : List ℕ) → IsRefused old.state (starts rest).line before now number why = λ rest. record {
      meaning = rw refuses.1 (meaning-long (lines_of old.state + 1) (starts rest).line (starts rest).long);
      counted = refuses.0;
      text = rw (refuses.0, refuses.1) refuses.2;
    } in
    record {
      refuses = λ rest. record {
        asked = [];
        done = [];
        run = tt;
        proper = tt;
        text = (refused rest).text;
        script_is = ap (script_from (lines_of old.state)) (starts rest).starts ∙ script-refused old.state (starts rest).line before now number why (starts rest).others (refused rest);
      };
    }
takes-long (Err errors.Memory) old new part tail before now none long refuses = tt

-- what was told is proper of one list of points and of another
pub proper-append : (one two : List LanePoint) → ArePointsProper one → ArePointsProper two → ArePointsProper (one ++ two)
proper-append [] two first second = second
proper-append (point ∷ one) two first second = (first.0, proper-append one two first.1 second)

pub proper-done : (one two : List (List LanePoint)) → ArePointsProper (all_points one) → ArePointsProper (all_points two) → ArePointsProper (all_points (one ++ two))
proper-done one two first second = subst (λ (ps : List LanePoint). ArePointsProper ps) (sym (points-append one two)) (proper-append (all_points one) (all_points two) first second)

-- what was told of some lines, and behind it what was told of others
pub texts-join : (before one two rest : List ℕ) → (before ++ one) ++ (two ++ rest) ≡ before ++ ((one ++ two) ++ rest)
texts-join before one two rest = simp append_assoc

-- one piece behind another
pub takes-more : (result : Result (Unit {0}) RunError) (a b c : Place) (first second before between now : List ℕ) → Advances a b first before between → Takes result b c second between now → Takes result a c (first ++ second) before now
takes-more (Ok done) a b c first second before between now one two =
    let head : RunsOn a.state one.asked one.done b.state = record { run = one.run; after = one.after } in
    let on = runs-on a.state b.state c.state one.asked two.asked one.done two.done head (record { run = two.run; after = two.after }) in
    let told = runs-told a.state b.state one.asked one.done two.done head in
    record {
      asked = one.asked ++ two.asked;
      done = one.done ++ two.done;
      run = on.run;
      proper = proper-done one.done two.done one.proper two.proper;
      after = on.after;
      text =
          two.text
          ∙ ap (λ t. t ++ lanes_text (lines_of b.state + 1) (all_points two.done)) one.text
          ∙ append_assoc before (lanes_text (lines_of a.state + 1) (all_points one.done)) (lanes_text (lines_of b.state + 1) (all_points two.done))
          ∙ ap (λ t. before ++ t) (sym told);
      script = λ rest. ap (script_behind a) (append_assoc first second rest) ∙ one.script (second ++ rest) ∙ ap (behind_lines one.asked) (two.script rest) ∙ behind-behind one.asked two.asked (script_behind c rest);
      progress = omega (arith, one.progress, two.progress, length-append first second);
    }
takes-more (Err (errors.Refused number why)) a b c first second before between now one two =
    record {
      refuses = λ rest. (
          let later = two.refuses rest in
          let head : RunsOn a.state one.asked one.done b.state = record { run = one.run; after = one.after } in
          let told = runs-told a.state b.state one.asked one.done later.done head in
          let P : Lanes → Type 0 = λ s. IsLaneRun s later.asked later.done in
          record {
            asked = one.asked ++ later.asked;
            done = one.done ++ later.done;
            run = run-append a.state one.asked later.asked one.done later.done one.run (subst P (sym one.after) later.run);
            proper = proper-done one.done later.done one.proper later.proper;
            text =
                later.text
                ∙ ap (λ t. t ++ (lanes_text (lines_of b.state + 1) (all_points later.done) ++ refused_text number why)) one.text
                ∙ texts-join before (lanes_text (lines_of a.state + 1) (all_points one.done)) (lanes_text (lines_of b.state + 1) (all_points later.done)) (refused_text number why)
                ∙ ap (λ t. before ++ (t ++ refused_text number why)) (sym told);
            script_is = ap (script_behind a) (append_assoc first second rest) ∙ one.script (second ++ rest) ∙ ap (behind_lines one.asked) later.script_is;
          });
    }
takes-more (Err errors.Memory) a b c first second before between now one two = tt

-- what ended the run inside a front of a piece ended it inside the piece
pub takes-front : (error : RunError) (old new other : Place) (front back before now : List ℕ) → Takes (Err error) old new front before now → Takes (Err error) old other (front ++ back) before now
takes-front (errors.Refused number why) old new other front back before now refuses =
    record {
      refuses = λ rest. (
          let inner = refuses.refuses (back ++ rest) in
          record {
            asked = inner.asked;
            done = inner.done;
            run = inner.run;
            proper = inner.proper;
            text = inner.text;
            script_is = ap (script_behind old) (append_assoc front back rest) ∙ inner.script_is;
          });
    }
takes-front errors.Memory old new other front back before now refuses = tt

-- nothing taken yet
pub takes-nothing : (place : Place) (before : List ℕ) → Advances place place [] before before
takes-nothing place before = record { asked = []; done = []; run = tt; proper = tt; after = refl; text = sym (append-nil before); script = λ rest. refl; progress = omega arith }

-- a front of a line that has not ended waits
pub takes-pending : (old : Place) (part before : List ℕ) → Advances old (record { state = old.state; pending = old.pending ++ part }) part before before
takes-pending old part before = record {
  asked = [];
  done = [];
  run = tt;
  proper = tt;
  after = refl;
  text = sym (append-nil before);
  script = λ rest. ap (λ t. script_from (lines_of old.state) (lines t)) (sym (append_assoc old.pending part rest));
  progress = omega (arith, length-append old.pending part);
}

-- THE END

-- a script that ends without a pending line
pub finishes-empty : (result : Result (Unit {0}) RunError) (place : Place) (before now : List ℕ) → place.pending ≡ [] → Sums result place.state before now → Finishes result place place before now
finishes-empty (Ok done) place before now empty sums = record { asked = []; done = []; run = tt; proper = tt; after = refl; text = sums.text; script_is = rw empty refl }
finishes-empty (Err (errors.Refused number why)) place before now empty sums = absurd sums
finishes-empty (Err errors.Memory) place before now empty sums = tt

-- a script that ends in a line without its end
pub lines-only : (pending : List ℕ) → HasNoEnd pending → (length pending == 0) ≡ false → lines (pending ++ []) ≡ pending ∷ []
lines-only pending none there = rw append-nil (lines-last pending none ∙ rw there refl)

pub finishes-line : (result : Result (Unit {0}) RunError) (place new : Place) (before between now : List ℕ) → HasNoEnd place.pending → (length place.pending == 0) ≡ false → IsDone place.state new.state place.pending before between → Sums result new.state between now → Finishes result place new before now
finishes-line (Ok done) place new before between now none there does sums =
    let told = entries_on (lines_of place.state + 1) does.told in
    let last = summary_text (summary_on new.state) in
    record {
      asked = does.asked ∷ [];
      done = does.steps.points ∷ [];
      run = (run-one does.asked place.state new.state does.told does.steps).run;
      proper = proper-line does.steps.points (subst AreProperOn does.steps.told_is does.proper);
      after = (run-one does.asked place.state new.state does.told does.steps).after;
      text = sums.text ∙ ap (λ t. t ++ last) does.text ∙ append_assoc before told last ∙ ap (λ t. before ++ (t ++ last)) (one-told does.asked place.state new.state does.told does.steps);
      script_is = ap (script_from (lines_of place.state)) (lines-only place.pending none there) ∙ script-done place.state new.state place.pending before between [] does;
    }
finishes-line (Err (errors.Refused number why)) place new before between now none there does sums = absurd sums
finishes-line (Err errors.Memory) place new before between now none there does sums = tt

pub finishes-refused : (error : RunError) (place new : Place) (state : Lanes) (before now : List ℕ) → HasNoEnd place.pending → (length place.pending == 0) ≡ false → DoesLine (Err error) place.state state place.pending before now → Finishes (Err error) place new before now
finishes-refused (errors.Refused number why) place new state before now none there refused = record {
  asked = [];
  done = [];
  run = tt;
  proper = tt;
  text = refused.text;
  script_is = ap (script_from (lines_of place.state)) (lines-only place.pending none there) ∙ script-refused place.state place.pending before now number why [] refused;
}
finishes-refused errors.Memory place new state before now none there refused = tt
