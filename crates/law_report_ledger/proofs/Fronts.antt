-- Of a front of a report over several lanes the lines before those of its last number are the whole
-- report of the first lines of its script.
use Rattle.std.proofs.Common.{◌≡◌, ◌≤◌, ◌<◌, ◌∙◌, sym, ap, refl, subst, ℕ, ◌+◌, ◌&&◌, Bool, true, false, List, [], ◌∷◌, ◌++◌, Option, IfSome, Some, append_assoc, append-nil, arith, if◌then◌else◌, length}
use Rattle.std.proofs.lemmas.Bool.{ne_eqb}
use Rattle.std.specs.List.{AllByRecursion}
use Rattle.line_report.specs.declared.happening.LaneHappening.{LaneHappening}
use Rattle.line_script.specs.declared.line.LaneLine.{LaneLine}
use Rattle.line_step.specs.Parts.{count_behind}
use Rattle.law_lanes.specs.Along.{IsFitLaneLine}
use Rattle.law_lanes.specs.Lanes.{Lanes, lines_of, no_lanes}
use Rattle.law_lanes.specs.Parts.{IsLanePlay, IsLaneRun, LanePart, LanePoint, all_points, all_told, parts_of, state_behind}
use Rattle.law_lanes.specs.Views.{lanes_text}
use Rattle.law_lanes.proofs.ScriptRuns.{EndsLast, line-lines, parts-end, points-append, run-short}
use Rattle.law_report_ledger.specs.Fronts.{are_all, is_same, last_number, told_whole, LaneFrontsTellLedgers, LinesTellLane}
use Rattle.law_report_lines.specs.Lines.{AreUnnumbered, ReportLine, lines_in}
use Rattle.law_report_ledger.specs.Ledgers.{LaneReportTellsLedger, TellsLaneLedger, honest_on}
use Rattle.law_report_lines.specs.Proper.{ArePointsProper}
use Rattle.law_report_ledger.specs.Standings.{LaneReportTellsStandings, TellsLaneStandings}
use Rattle.law_report_ledger.proofs.Alone.{run_alone}
use Rattle.law_report_ledger.proofs.FrontLines.{Split, beyond, last_behind, lines_front, none_left, same_self, split, tail_last, tail_other, within}
use Rattle.law_report_ledger.proofs.Lines.{line_with, lines_told, run_lines, run_read, text_of}
use Rattle.law_report_ledger.proofs.Vouched.{AreAlone}

-- ---- lines of one number alone, and lines of another one behind them

one_number : (number : ℕ) (told : List LaneHappening) (l rest : List ReportLine) → lines_told number told ≡ l ++ rest → are_all (Some number) l ≡ true
one_number number told [] rest is = refl
one_number number [] (line ∷ l) rest is = absurd cc
one_number number (happening ∷ told) (line ∷ l) rest is =
    let first : line_with (Some number) (text_of happening) ≡ line = cc in
    let later : lines_told number told ≡ l ++ rest = cc in
    ap (λ (x : ReportLine). is_same (Some number) x.number && are_all (Some number) l) (sym first)
    ∙ ap (λ (b : Bool). b && are_all (Some number) l) (same_self number)
    ∙ one_number number told l rest later

none_whole : (number : ℕ) (told : List LaneHappening) (l rest : List ReportLine) → lines_told number told ≡ l ++ rest → told_whole l ≡ []
none_whole number told [] rest is = refl
none_whole number [] (line ∷ l) rest is = absurd cc
none_whole number (happening ∷ told) (line ∷ l) rest is =
    let first : line_with (Some number) (text_of happening) ≡ line = cc in
    let later : lines_told number told ≡ l ++ rest = cc in
    ap (λ (b : Bool). if b then [] else line ∷ told_whole l) (ap (λ (x : ReportLine). are_all x.number l) (sym first) ∙ one_number number told l rest later)

told_other : (number next : ℕ) (told : List LaneHappening) (later : List ReportLine) (line : ReportLine) (rest : List ReportLine) → number < next → lines_told next told ++ later ≡ line ∷ rest
    → (later ≡ line ∷ rest → is_same (Some number) line.number ≡ false) → is_same (Some number) line.number ≡ false
told_other number next [] later line rest less is behind = behind is
told_other number next (happening ∷ told) later line rest less is behind =
    let first : line_with (Some next) (text_of happening) ≡ line = cc in
    ap (λ (x : ReportLine). is_same (Some number) x.number) (sym first) ∙ ne_eqb number next (λ same. absurd (omega (arith, same, less)))

later_other : (number last : ℕ) (s : Lanes) (points : List LanePoint) (tail : List ReportLine) (line : ReportLine) (rest : List ReportLine) → number < lines_of s + 1 → AreAlone last s points → AreUnnumbered tail → run_lines (lines_of s + 1) points ++ tail ≡ line ∷ rest
    → is_same (Some number) line.number ≡ false
later_other number last s [] tail line rest less alone none is = tail_other number tail line rest none is
later_other number last s (point ∷ points) tail line rest less alone none is =
    let rises = alone.0.rises in
    let later = run_lines (lines_of point.after + 1) points in
    told_other number (lines_of s + 1) point.told (later ++ tail) line rest less (sym (append_assoc (lines_told (lines_of s + 1) point.told) later tail) ∙ is)
    (λ behind. later_other number (lines_of s + 1) point.after points tail line rest (omega (arith, less, rises)) alone.1 none behind)

not_all : (number : ℕ) (told : List LaneHappening) (line : ReportLine) (l : List ReportLine) → is_same (Some number) line.number ≡ false → are_all (Some number) (lines_told number told ++ line ∷ l) ≡ false
not_all number [] line l other = ap (λ (b : Bool). b && are_all (Some number) l) other
not_all number (happening ∷ told) line l other =
    ap (λ (b : Bool). b && are_all (Some number) (lines_told number told ++ line ∷ l)) (same_self number) ∙ not_all number told line l other

kept : (number : ℕ) (told : List LaneHappening) (line : ReportLine) (l : List ReportLine) → is_same (Some number) line.number ≡ false → told_whole (lines_told number told ++ line ∷ l) ≡ lines_told number told ++ told_whole (line ∷ l)
kept number [] line l other = refl
kept number (happening ∷ told) line l other =
    let first = line_with (Some number) (text_of happening) in
    ap (λ (b : Bool). if b then [] else first ∷ told_whole (lines_told number told ++ line ∷ l)) (not_all number told line l other)
    ∙ ap (λ (k : List ReportLine). first ∷ k) (kept number told line l other)

told_last : (number : ℕ) (told : List LaneHappening) (l rest : List ReportLine) → lines_told number told ≡ l ++ rest → IfSome (last_number l) (λ n. n ≡ number)
told_last number told [] rest is = tt
told_last number [] (line ∷ l) rest is = absurd cc
told_last number (happening ∷ told) (line ∷ []) rest is =
    let first : line_with (Some number) (text_of happening) ≡ line = cc in
    subst (λ (x : ReportLine). IfSome x.number (λ n. n ≡ number)) first refl
told_last number (happening ∷ told) (line ∷ next ∷ l) rest is =
    let later : lines_told number told ≡ next ∷ (l ++ rest) = cc in
    told_last number told (next ∷ l) rest later

told_both : (number : ℕ) (a b : List LaneHappening) → lines_told number (a ++ b) ≡ lines_told number a ++ lines_told number b
told_both number [] b = refl
told_both number (happening ∷ a) b = ap (λ (l : List ReportLine). line_with (Some number) (text_of happening) ∷ l) (told_both number a b)

-- ---- a line of a script is told under its number alone

play_told : (s : Lanes) (parts : List LanePart) (points : List LanePoint) → EndsLast parts
    → IsLanePlay s parts points
    → run_lines (lines_of s + 1) points ≡ lines_told (lines_of s + 1) (all_told points)
play_told s [] points ends play = absurd ends
play_told s (part ∷ []) [] ends play = absurd play
play_told s (part ∷ []) (point ∷ []) ends play =
    append-nil (lines_told (lines_of s + 1) point.told)
    ∙ ap (lines_told (lines_of s + 1)) (sym (append-nil point.told))
play_told s (part ∷ []) (point ∷ other ∷ points) ends play = absurd play.1
play_told s (part ∷ next ∷ parts) [] ends play = absurd play
play_told s (part ∷ next ∷ parts) (point ∷ points) ends play =
    let same : lines_of point.after ≡ lines_of s =
    play.0.counted ∙ ap (λ (b : Bool). count_behind b (lines_of s)) ends.0 in
    let first = lines_told (lines_of s + 1) point.told in
    ap (λ (l : List ReportLine). first ++ l)
    (play_told point.after (next ∷ parts) points ends.1 play.1
    ∙ ap (λ (n : ℕ). lines_told (n + 1) (all_told points)) same)
    ∙ sym (told_both (lines_of s + 1) point.told (all_told points))

lines_both : (s : Lanes) (a b : List LanePoint)
    → run_lines (lines_of s + 1) (a ++ b)
    ≡ run_lines (lines_of s + 1) a ++ run_lines (lines_of (state_behind s a) + 1) b
lines_both s [] b = refl
lines_both s (point ∷ a) b =
    let first = lines_told (lines_of s + 1) point.told in
    ap (λ (l : List ReportLine). first ++ l) (lines_both point.after a b)
    ∙ sym (append_assoc first (run_lines (lines_of point.after + 1) a)
    (run_lines (lines_of (state_behind point.after a) + 1) b))

-- the points of one line of a script, and those behind it
line_both : (line : LaneLine) (s : Lanes) (own later : List LanePoint)
    → IsLanePlay s (parts_of (length s.tracks) line) own
    → run_lines (lines_of s + 1) (own ++ later)
    ≡ lines_told (lines_of s + 1) (all_told own) ++ run_lines (lines_of (state_behind s own) + 1) later
line_both line s own later play =
    let others = run_lines (lines_of (state_behind s own) + 1) later in
    lines_both s own later
    ∙ ap (λ (l : List ReportLine). l ++ others)
    (play_told s (parts_of (length s.tracks) line) own (parts-end (length s.tracks) line) play)

-- ---- the lines of a script that are told whole

record CutAt (s : Lanes) (asked : List LaneLine) (done : List (List LanePoint))
    (l : List ReportLine) : Type 0 where
  lines : List LaneLine
  others : List LaneLine
  first : asked ≡ lines ++ others
  number : IfSome (last_number l) (λ number. number ≡ length lines + (lines_of s + 1))
  earlier : List (List LanePoint)
  later : List (List LanePoint)
  parts : done ≡ earlier ++ later
  run : IsLaneRun s lines earlier
  whole : told_whole l ≡ run_lines (lines_of s + 1) (all_points earlier)

cut_none : (s : Lanes) (asked : List LaneLine) (done : List (List LanePoint))
    (l : List ReportLine) → told_whole l ≡ [] → IfSome (last_number l) (λ n. n ≡ lines_of s + 1)
    → CutAt s asked done l
cut_none s asked done l whole number =
    let none : List LaneLine = [] in
    let same : lines_of s + 1 ≡ length none + (lines_of s + 1) = omega arith in
    record {
      lines = none;
      others = asked;
      first = refl;
      number = subst (λ (k : ℕ). IfSome (last_number l) (λ n. n ≡ k)) same number;
      earlier = [];
      later = done;
      parts = refl;
      run = tt;
      whole = whole;
    }

cut_more : (line : LaneLine) (asked : List LaneLine) (s : Lanes) (own : List LanePoint)
    (done : List (List LanePoint)) (next : ReportLine) (behind l : List ReportLine)
    → IsLanePlay s (parts_of (length s.tracks) line) own
    → l ≡ lines_told (lines_of s + 1) (all_told own) ++ next ∷ behind
    → is_same (Some (lines_of s + 1)) next.number ≡ false
    → CutAt (state_behind s own) asked done (next ∷ behind) → CutAt s (line ∷ asked) (own ∷ done) l
cut_more line asked s own done next behind l play is other more =
    let told = all_told own in
    let number = lines_of s + 1 in
    let counted = line-lines line s own play in
    record {
      lines = line ∷ more.lines;
      others = more.others;
      first = ap (λ (ls : List LaneLine). line ∷ ls) more.first;
      number = subst (λ (o : Option ℕ). IfSome o (λ n. n ≡ length (line ∷ more.lines) + (lines_of s + 1)))
          (sym (ap last_number is ∙ last_behind (lines_told number told) next behind))
          (subst (λ (k : ℕ). IfSome (last_number (next ∷ behind)) (λ n. n ≡ k)) (omega (arith, counted))
          more.number);
      earlier = own ∷ more.earlier;
      later = more.later;
      parts = ap (λ (ps : List (List LanePoint)). own ∷ ps) more.parts;
      run = (play, more.run);
      whole = ap told_whole is ∙ kept number told next behind other
          ∙ ap (λ (k : List ReportLine). lines_told number told ++ k) more.whole
          ∙ sym (line_both line s own (all_points more.earlier) play);
    }

cut_by : (line : LaneLine) (asked : List LaneLine) (s : Lanes) (own : List LanePoint)
    (done : List (List LanePoint)) (tail l more : List ReportLine) → AreUnnumbered tail
    → IsLanePlay s (parts_of (length s.tracks) line) own → IsLaneRun (state_behind s own) asked done
    → Split (lines_told (lines_of s + 1) (all_told own))
    (run_lines (lines_of (state_behind s own) + 1) (all_points done) ++ tail) l more
    → ((behind : List ReportLine)
    → run_lines (lines_of (state_behind s own) + 1) (all_points done) ++ tail ≡ behind ++ more
    → CutAt (state_behind s own) asked done behind)
    → CutAt s (line ∷ asked) (own ∷ done) l
cut_by line asked s own done tail l more none play run (within rest is) go =
    let told = all_told own in
    cut_none s (line ∷ asked) (own ∷ done) l (none_whole (lines_of s + 1) told l rest is)
    (told_last (lines_of s + 1) told l rest is)
cut_by line asked s own done tail l more none play run (beyond [] is left) go =
    let told = all_told own in
    let same : lines_told (lines_of s + 1) told ≡ l ++ [] =
    sym (append-nil (lines_told (lines_of s + 1) told)) ∙ sym is ∙ sym (append-nil l) in
    cut_none s (line ∷ asked) (own ∷ done) l (none_whole (lines_of s + 1) told l [] same)
    (told_last (lines_of s + 1) told l [] same)
cut_by line asked s own done tail l more none play run (beyond (next ∷ behind) is left) go =
    let end = state_behind s own in
    let counted = line-lines line s own play in
    let alone = run_alone 0 end asked done (omega arith) run in
    let other = later_other (lines_of s + 1) 0 end (all_points done) tail next (behind ++ more)
    (omega (arith, counted)) alone none left in
    cut_more line asked s own done next behind l play is other (go (next ∷ behind) left)

cut : (s : Lanes) (asked : List LaneLine) (done : List (List LanePoint))
    (tail l more : List ReportLine) → AreUnnumbered tail → IsLaneRun s asked done
    → run_lines (lines_of s + 1) (all_points done) ++ tail ≡ l ++ more → CutAt s asked done l
cut s [] [] tail l more none run is =
    cut_none s [] [] l (none_left l more tail none is) (tail_last (lines_of s + 1) l more tail none is)
cut s [] (own ∷ done) tail l more none run is = absurd run
cut s (line ∷ asked) [] tail l more none run is = absurd run
cut s (line ∷ asked) (own ∷ done) tail l more none run is =
    let end = state_behind s own in
    let told = lines_told (lines_of s + 1) (all_told own) in
    let others = run_lines (lines_of end + 1) (all_points done) in
    let apart : told ++ (others ++ tail) ≡ l ++ more =
    sym (append_assoc told others tail)
    ∙ ap (λ (k : List ReportLine). k ++ tail) (sym (line_both line s own (all_points done) run.0)) ∙ is in
    cut_by line asked s own done tail l more none run.0 run.1
    (split told (others ++ tail) l more apart)
    (λ behind left. cut end asked done tail behind more none run.1 left)

-- ---- the first lines of a script

first_fit : (lines others : List LaneLine) → AllByRecursion IsFitLaneLine (lines ++ others)
    → AllByRecursion IsFitLaneLine lines
first_fit [] others fit = tt
first_fit (line ∷ lines) others fit = (fit.0, first_fit lines others fit.1)

first_few : (lines others : List LaneLine) → length lines ≤ length (lines ++ others)
first_few [] others = omega arith
first_few (line ∷ lines) others = let few = first_few lines others in omega (arith, few)

first_proper : (points later : List LanePoint) → ArePointsProper (points ++ later)
    → ArePointsProper points
first_proper [] later proper = tt
first_proper (point ∷ points) later proper = (proper.0, first_proper points later proper.1)

-- ---- THE LAW

lines_tell : (lane : ℕ) (text : List ℕ) (s : Lanes) → TellsLaneLedger lane text s
    → TellsLaneStandings lane text → LinesTellLane lane (lines_in text) s
lines_tell lane text s tells last =
    record {
      legal = tells.legal;
      marks = tells.marks;
      standings = tells.standings;
      last = last.each;
    }

pub fronts_tell : LaneReportTellsLedger → LaneReportTellsStandings → LaneFrontsTellLedgers
fronts_tell ledgers standings asked done ending text rest fit few run proper none is =
    let points = all_points done in
    let read = run_read no_lanes points ending (run-short no_lanes asked done run (omega (arith, few)))
    proper in
    let front = lines_front [] text rest in
    let at = cut no_lanes asked done (lines_in ending) (lines_in text) front.more none run
    (sym read ∙ ap lines_in (sym is) ∙ front.is) in
    let first = all_points at.earlier in
    let suits = first_fit at.lines at.others (subst (AllByRecursion IsFitLaneLine) at.first fit) in
    let fine = first_proper first (all_points at.later)
    (subst ArePointsProper (ap all_points at.parts ∙ points-append at.earlier at.later) proper) in
    let fewer = first_few at.lines at.others in
    let count : length asked ≡ length (at.lines ++ at.others) =
    ap (λ (ls : List LaneLine). length ls) at.first in
    let short : length at.lines ≤ 1000000 = omega (arith, few, fewer, count) in
    let told = lanes_text 1 first ++ [] in
    let end = state_behind no_lanes (honest_on first) in
    let same : told_whole (lines_in text) ≡ lines_in told =
    at.whole ∙ sym (append-nil (run_lines 1 first))
    ∙ sym (run_read no_lanes first [] (run-short no_lanes at.lines at.earlier at.run (omega (arith, short)))
    fine) in
    record {
      lines = at.lines;
      others = at.others;
      first = at.first;
      number = at.number;
      earlier = at.earlier;
      later = at.later;
      parts = at.parts;
      run = at.run;
      whole = same ∙ ap lines_in (append-nil (lanes_text 1 first));
      tells = λ lane some. subst (λ (l : List ReportLine). LinesTellLane lane l end) (sym same)
          (lines_tell lane told end
          (ledgers at.lines at.earlier [] lane some suits short at.run fine tt)
          (standings at.lines at.earlier [] lane some suits short at.run fine tt));
    }
