-- The run of a script over several lanes: scripts one behind another, and each line counted once and told under its number.
use Rattle.std.proofs.Common.{◌≡◌, ◌+◌, ◌-◌, ◌≤◌, ◌++◌, ℕ, zero, suc, Bool, true, false, List, [], ◌∷◌, length, append-nil, append_assoc, refl, sym, ap, subst, ◌∙◌, arith}
use Rattle.std.specs.List.{AllByRecursion}
use Rattle.std.proofs.lemmas.Grind.{flat_map-append}
use Rattle.line_script.specs.declared.line.LaneLine.{LaneLine}
use Rattle.line_script.specs.declared.line.LaneLine.TheVariants as lane_lines
use Rattle.line_script.specs.declared.line.ScriptLine.{ScriptLine}
use Rattle.line_script.specs.declared.line.ScriptLine.TheVariants as lines
use Rattle.line_report.specs.Lanes.{entries_on}
use Rattle.line_report.specs.Texts.{entry_on}
use Rattle.line_report.specs.declared.happening.LaneHappening.{LaneHappening}
use Rattle.line_step.specs.Parts.{count_behind}
use Rattle.law_lanes.specs.Lanes.{Lanes, lines_of}
use Rattle.law_lanes.specs.Alone.{on_firsts}
use Rattle.law_lanes.specs.Along.{IsFitLaneLine}
use Rattle.law_lanes.specs.Once.{SetsFew}
use Rattle.law_lanes.specs.Parts.{IsLanePlay, IsLaneRun, IsShort, LaneLineSteps, LanePart, LanePoint, all_points, all_told, parts_of, state_behind, stops_from, stops_on}
use Rattle.law_lanes.specs.Views.{lanes_text}

-- ---- points one behind another

pub behind-append : (s : Lanes) (points others : List LanePoint) → state_behind s (points ++ others) ≡ state_behind (state_behind s points) others
behind-append s [] others = refl
behind-append s (point ∷ points) others = behind-append point.after points others

pub text-append : (s : Lanes) (points others : List LanePoint) → lanes_text (lines_of s + 1) (points ++ others) ≡ lanes_text (lines_of s + 1) points ++ lanes_text (lines_of (state_behind s points) + 1) others
text-append s [] others = refl
text-append s (point ∷ points) others =
    let first = entries_on (lines_of s + 1) point.told in
    ap (λ t. first ++ t) (text-append point.after points others)
    ∙ sym (append_assoc first (lanes_text (lines_of point.after + 1) points) (lanes_text (lines_of (state_behind point.after points) + 1) others))

pub points-append : (done others : List (List LanePoint)) → all_points (done ++ others) ≡ all_points done ++ all_points others
points-append [] others = refl
points-append (own ∷ done) others = ap (λ ps. own ++ ps) (points-append done others) ∙ sym (append_assoc own (all_points done) (all_points others))

-- ---- the parts of a line: the count goes on with the last of them alone

abbrev pub EndsLast : List LanePart → Type 0
EndsLast [] = ⊥
EndsLast (part ∷ []) = part.ends ≡ true
EndsLast (part ∷ next ∷ parts) = (part.ends ≡ false) × EndsLast (next ∷ parts)

goes_on : (part : LanePart) (more : List LanePart) → part.ends ≡ false → EndsLast more → EndsLast (part ∷ more)
goes_on part [] on ends = absurd ends
goes_on part (next ∷ more) on ends = (on, ends)

stops_go_on : (lane machine : ℕ) (more : List LanePart) → EndsLast more → EndsLast (stops_on lane machine false ++ more)
stops_go_on lane machine [] ends = absurd ends
stops_go_on lane machine (next ∷ more) ends = (refl, (refl, (refl, (refl, ends))))

stops-end : (lane more machine : ℕ) → EndsLast (stops_from lane more machine)
stops-end lane zero machine = (refl, (refl, (refl, refl)))
stops-end lane (suc more) machine = stops_go_on lane machine (stops_from (lane + 1) more machine) (stops-end (lane + 1) more machine)

on-end : (lanes lane : ℕ) (line : ScriptLine) → EndsLast (parts_of lanes (lane_lines.On lane line))
on-end lanes lane (lines.Stop machine) =
    goes_on (record { line = λ s. lane_lines.On 1 (lines.Stop machine); ends = false }) (stops_from 1 (lanes - 1) machine) refl (stops-end 1 (lanes - 1) machine)
on-end lanes lane _ = refl

pub parts-end : (lanes : ℕ) (line : LaneLine) → EndsLast (parts_of lanes line)
parts-end lanes (lane_lines.On lane line) = on-end lanes lane line
parts-end lanes (lane_lines.Lanes count) = refl
parts-end lanes (lane_lines.Shift machine from to id) = refl

-- so each line of a script is counted once
play-lines : (s : Lanes) (parts : List LanePart) (points : List LanePoint) → EndsLast parts → IsLanePlay s parts points → lines_of (state_behind s points) ≡ lines_of s + 1
play-lines s [] points ends play = absurd ends
play-lines s (part ∷ []) [] ends play = absurd play
play-lines s (part ∷ []) (point ∷ []) ends play = play.0.counted ∙ ap (λ (b : Bool). count_behind b (lines_of s)) ends
play-lines s (part ∷ []) (point ∷ other ∷ points) ends play = absurd play.1
play-lines s (part ∷ next ∷ parts) [] ends play = absurd play
play-lines s (part ∷ next ∷ parts) (point ∷ points) ends play =
    let same : lines_of point.after ≡ lines_of s = play.0.counted ∙ ap (λ (b : Bool). count_behind b (lines_of s)) ends.0 in
    play-lines point.after (next ∷ parts) points ends.1 play.1 ∙ ap (λ (n : ℕ). n + 1) same

pub line-lines : (line : LaneLine) (s : Lanes) (points : List LanePoint) → IsLanePlay s (parts_of (length s.tracks) line) points → lines_of (state_behind s points) ≡ lines_of s + 1
line-lines line s points play = play-lines s (parts_of (length s.tracks) line) points (parts-end (length s.tracks) line) play

-- all of it is told under one number
play-text : (s : Lanes) (parts : List LanePart) (points : List LanePoint) → EndsLast parts → IsLanePlay s parts points → lanes_text (lines_of s + 1) points ≡ entries_on (lines_of s + 1) (all_told points)
play-text s [] points ends play = absurd ends
play-text s (part ∷ []) [] ends play = absurd play
play-text s (part ∷ []) (point ∷ []) ends play = append-nil (entries_on (lines_of s + 1) point.told) ∙ ap (entries_on (lines_of s + 1)) (sym (append-nil point.told))
play-text s (part ∷ []) (point ∷ other ∷ points) ends play = absurd play.1
play-text s (part ∷ next ∷ parts) [] ends play = absurd play
play-text s (part ∷ next ∷ parts) (point ∷ points) ends play =
    let same : lines_of point.after ≡ lines_of s = play.0.counted ∙ ap (λ (b : Bool). count_behind b (lines_of s)) ends.0 in
    let first = entries_on (lines_of s + 1) point.told in
    ap (λ t. first ++ t) (play-text point.after (next ∷ parts) points ends.1 play.1 ∙ ap (λ (n : ℕ). entries_on (n + 1) (all_told points)) same)
    ∙ sym (flat_map-append (entry_on (lines_of s + 1)) point.told (all_told points))

pub line-text : (line : LaneLine) (s : Lanes) (points : List LanePoint) → IsLanePlay s (parts_of (length s.tracks) line) points → lanes_text (lines_of s + 1) points ≡ entries_on (lines_of s + 1) (all_told points)
line-text line s points play = play-text s (parts_of (length s.tracks) line) points (parts-end (length s.tracks) line) play

play-short : (s : Lanes) (parts : List LanePart) (points : List LanePoint) → EndsLast parts → IsLanePlay s parts points → lines_of s + 1 ≤ 1000000 → IsShort s points
play-short s [] points ends play few = absurd ends
play-short s (part ∷ []) [] ends play few = absurd play
play-short s (part ∷ []) (point ∷ []) ends play few = (few, tt)
play-short s (part ∷ []) (point ∷ other ∷ points) ends play few = absurd play.1
play-short s (part ∷ next ∷ parts) [] ends play few = absurd play
play-short s (part ∷ next ∷ parts) (point ∷ points) ends play few =
    let same : lines_of point.after ≡ lines_of s = play.0.counted ∙ ap (λ (b : Bool). count_behind b (lines_of s)) ends.0 in
    (few, play-short point.after (next ∷ parts) points ends.1 play.1 (subst (λ (n : ℕ). n + 1 ≤ 1000000) (sym same) few))

-- ---- what one line of a script did

pub line-counted : (line : LaneLine) (before after : Lanes) (told : List LaneHappening) → LaneLineSteps line before after told → lines_of after ≡ lines_of before + 1
line-counted line before after told steps = sym (ap lines_of steps.behind) ∙ line-lines line before steps.points steps.plays

-- and all that it told, under its number
pub line-told : (line : LaneLine) (before after : Lanes) (told : List LaneHappening) → (steps : LaneLineSteps line before after told) → entries_on (lines_of before + 1) told ≡ lanes_text (lines_of before + 1) steps.points
line-told line before after told steps = ap (entries_on (lines_of before + 1)) steps.told_is ∙ sym (line-text line before steps.points steps.plays)

-- ---- one script behind another

pub run-append : (s : Lanes) (asked more : List LaneLine) (done others : List (List LanePoint)) → IsLaneRun s asked done → IsLaneRun (state_behind s (all_points done)) more others → IsLaneRun s (asked ++ more) (done ++ others)
run-append s [] more [] others one two = two
run-append s [] more (own ∷ done) others one two = absurd one
run-append s (line ∷ asked) more [] others one two = absurd one
run-append s (line ∷ asked) more (own ∷ done) others one two =
    let P : Lanes → Type 0 = λ t. IsLaneRun t more others in
    (one.0, run-append (state_behind s own) asked more done others one.1 (subst P (behind-append s own (all_points done)) two))

pub record RunsOn (s : Lanes) (asked : List LaneLine) (done : List (List LanePoint)) (end : Lanes) : Type 0 where
  pub run : IsLaneRun s asked done
  pub after : state_behind s (all_points done) ≡ end

pub runs-on : (s between end : Lanes) (asked more : List LaneLine) (done others : List (List LanePoint)) → RunsOn s asked done between → RunsOn between more others end → RunsOn s (asked ++ more) (done ++ others) end
runs-on s between end asked more done others one two =
    let P : Lanes → Type 0 = λ t. IsLaneRun t more others in
    record {
      run = run-append s asked more done others one.run (subst P (sym one.after) two.run);
      after = ap (state_behind s) (points-append done others) ∙ behind-append s (all_points done) (all_points others) ∙ ap (λ (t : Lanes). state_behind t (all_points others)) one.after ∙ two.after;
    }

-- and what is told of both
pub runs-told : (s between : Lanes) (asked : List LaneLine) (done others : List (List LanePoint)) → RunsOn s asked done between
    → lanes_text (lines_of s + 1) (all_points (done ++ others)) ≡ lanes_text (lines_of s + 1) (all_points done) ++ lanes_text (lines_of between + 1) (all_points others)
runs-told s between asked done others one =
    ap (lanes_text (lines_of s + 1)) (points-append done others)
    ∙ text-append s (all_points done) (all_points others)
    ∙ ap (λ (t : Lanes). lanes_text (lines_of s + 1) (all_points done) ++ lanes_text (lines_of t + 1) (all_points others)) one.after

-- a script of one line
pub run-one : (line : LaneLine) (before after : Lanes) (told : List LaneHappening) → (steps : LaneLineSteps line before after told) → RunsOn before (line ∷ []) (steps.points ∷ []) after
run-one line before after told steps = record { run = (steps.plays, tt); after = ap (state_behind before) (append-nil steps.points) ∙ steps.behind }

pub one-told : (line : LaneLine) (before after : Lanes) (told : List LaneHappening) → (steps : LaneLineSteps line before after told) → entries_on (lines_of before + 1) told ≡ lanes_text (lines_of before + 1) (all_points (steps.points ∷ []))
one-told line before after told steps = line-told line before after told steps ∙ ap (lanes_text (lines_of before + 1)) (sym (append-nil steps.points))

-- ---- no line of a script of a million lines has a greater number

short-append : (s : Lanes) (points others : List LanePoint) → IsShort s points → IsShort (state_behind s points) others → IsShort s (points ++ others)
short-append s [] others one two = two
short-append s (point ∷ points) others one two = (one.0, short-append point.after points others one.1 two)

pub run-short : (s : Lanes) (asked : List LaneLine) (done : List (List LanePoint)) → IsLaneRun s asked done → lines_of s + length asked ≤ 1000000 → IsShort s (all_points done)
run-short s [] [] run few = tt
run-short s [] (own ∷ done) run few = absurd run
run-short s (line ∷ asked) [] run few = absurd run
run-short s (line ∷ asked) (own ∷ done) run few =
    let counted : lines_of (state_behind s own) ≡ lines_of s + 1 = line-lines line s own run.0 in
    let now = lines_of s in
    let next = lines_of (state_behind s own) in
    let first = play-short s (parts_of (length s.tracks) line) own (parts-end (length s.tracks) line) run.0 (omega (arith, few)) in
    let others = run-short (state_behind s own) asked done run.1 (omega (arith, few, counted)) in
    short-append s own (all_points done) first others

-- ---- the points of scripts that stand one behind another

pub record RunsApart (s : Lanes) (asked more : List LaneLine) (done : List (List LanePoint)) : Type 0 where
  pub earlier : List (List LanePoint)
  pub later : List (List LanePoint)
  pub is : done ≡ earlier ++ later
  pub first : IsLaneRun s asked earlier
  pub second : IsLaneRun (state_behind s (all_points earlier)) more later

pub run-apart : (s : Lanes) (asked more : List LaneLine) (done : List (List LanePoint)) → IsLaneRun s (asked ++ more) done → RunsApart s asked more done
run-apart s [] more done run = record { earlier = []; later = done; is = refl; first = tt; second = run }
run-apart s (line ∷ asked) more [] run = absurd run
run-apart s (line ∷ asked) more (own ∷ done) run =
    let rest = run-apart (state_behind s own) asked more done run.1 in
    record {
      earlier = own ∷ rest.earlier;
      later = rest.later;
      is = ap (λ (ps : List (List LanePoint)). own ∷ ps) rest.is;
      first = (run.0, rest.first);
      second = subst (λ (t : Lanes). IsLaneRun t more rest.later) (sym (behind-append s own (all_points rest.earlier))) rest.second;
    }

-- ---- a line sets a few lanes

-- and so do its parts
abbrev pub PartsSet : List LanePart → Type 0
PartsSet parts = AllByRecursion (λ (part : LanePart). (s : Lanes) → SetsFew (part.line s)) parts

stops_set : (lane more machine : ℕ) → PartsSet (stops_from lane more machine)
stops_set lane zero machine = (λ s. tt, (λ s. tt, (λ s. tt, (λ s. tt, tt))))
stops_set lane (suc more) machine = (λ s. tt, (λ s. tt, (λ s. tt, (λ s. tt, stops_set (lane + 1) more machine))))

on_set : (lanes lane : ℕ) (own : ScriptLine) → PartsSet (parts_of lanes (lane_lines.On lane own))
on_set lanes lane (lines.Stop machine) = (λ s. tt, stops_set 1 (lanes - 1) machine)
on_set lanes lane _ = (λ s. tt, tt)

pub parts_set : (lanes : ℕ) (asked : LaneLine) → SetsFew asked → PartsSet (parts_of lanes asked)
parts_set lanes (lane_lines.On lane own) sets = on_set lanes lane own
parts_set lanes (lane_lines.Lanes count) sets = (λ s. sets, tt)
parts_set lanes (lane_lines.Shift machine from to id) sets = (λ s. tt, tt)

-- lines of the first lane set none, and lines that fit a few
pub firsts-set : (asked : List ScriptLine) → AllByRecursion SetsFew (on_firsts asked)
firsts-set [] = tt
firsts-set (line ∷ asked) = (tt, firsts-set asked)

fit-sets : (line : LaneLine) → IsFitLaneLine line → SetsFew line
fit-sets (lane_lines.On lane line) fit = tt
fit-sets (lane_lines.Lanes count) fit = fit
fit-sets (lane_lines.Shift machine from to id) fit = tt

pub fits-set : (asked : List LaneLine) → AllByRecursion IsFitLaneLine asked → AllByRecursion SetsFew asked
fits-set [] fit = tt
fits-set (line ∷ asked) fit = (fit-sets line fit.0, fits-set asked fit.1)
