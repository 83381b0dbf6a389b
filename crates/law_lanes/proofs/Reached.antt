-- A state that the run of a script over several lanes has led to, and one line more.
use Rattle.std.proofs.Common.{◌≡◌, ◌∙◌, ◌+◌, ◌-◌, ◌≤◌, ◌++◌, ℕ, zero, suc, Bool, true, false, List, [], ◌∷◌, length, refl, sym, ap, subst, arith, append-nil, append_assoc}
use Rattle.std.specs.List.{AllByRecursion}
use Rattle.line_script.specs.declared.line.LaneLine.{LaneLine}
use Rattle.line_script.specs.declared.line.LaneLine.TheVariants as lane_lines
use Rattle.line_script.specs.declared.line.ScriptLine.TheVariants as lines
use Rattle.line_step.specs.Parts.{count_behind}
use Rattle.law_lanes.specs.Along.{IsFitLaneLine, IsLaneReached, RunsGoOn}
use Rattle.law_lanes.specs.Lanes.{Lanes, lines_of, no_lanes}
use Rattle.law_lanes.specs.Parts.{IsLanePlay, IsLaneRun, IsShort, LanePart, LanePoint, all_points, parts_of, state_behind, stops_from, stops_on}
use Rattle.law_lanes.proofs.Telling.{join_all}

pub none_reached : IsLaneReached no_lanes
none_reached =
    record {
      asked = [];
      done = [];
      fit = tt;
      short = tt;
      few = omega arith;
      run = tt;
      behind = refl;
    }

-- ---- a line is counted with the last of its parts

abbrev pub EndsLast : List LanePart → Type 0
EndsLast [] = ⊥
EndsLast (part ∷ []) = part.ends ≡ true
EndsLast (part ∷ next ∷ parts) = (part.ends ≡ false) × EndsLast (next ∷ parts)

abbrev IsOpen : LanePart → Type 0
IsOpen part = part.ends ≡ false

ends_behind : (part : LanePart) (parts : List LanePart) → part.ends ≡ false → EndsLast parts
    → EndsLast (part ∷ parts)
ends_behind part [] shut last = absurd last
ends_behind part (next ∷ parts) shut last = (shut, last)

ends_join : (front back : List LanePart) → AllByRecursion IsOpen front → EndsLast back
    → EndsLast (front ++ back)
ends_join [] back opens last = last
ends_join (part ∷ front) back opens last =
    ends_behind part (front ++ back) opens.0 (ends_join front back opens.1 last)

stops_end : (lane more machine : ℕ) → EndsLast (stops_from lane more machine)
stops_end lane zero machine = (refl, (refl, (refl, refl)))
stops_end lane (suc more) machine =
    ends_join (stops_on lane machine false) (stops_from (lane + 1) more machine)
    (refl, (refl, (refl, (refl, tt)))) (stops_end (lane + 1) more machine)

pub parts_end : (many : ℕ) (line : LaneLine) → EndsLast (parts_of many line)
parts_end many (lane_lines.On lane (lines.Stop machine)) =
    ends_behind (record { line = λ s. lane_lines.On 1 (lines.Stop machine); ends = false })
    (stops_from 1 (many - 1) machine) refl (stops_end 1 (many - 1) machine)
parts_end many line = refl

-- what parts count
pub record IsCounted (s : Lanes) (points : List LanePoint) : Type 0 where
  pub short : IsShort s points
  pub lines : lines_of (state_behind s points) ≡ lines_of s + 1

pub play_counted : (s : Lanes) (parts : List LanePart) (points : List LanePoint) → EndsLast parts
    → lines_of s + 1 ≤ 1000000 → IsLanePlay s parts points → IsCounted s points
play_counted s [] points last few play = absurd last
play_counted s (part ∷ parts) [] last few play = absurd play
play_counted s (part ∷ []) (point ∷ []) last few play =
    record {
      short = (few, tt);
      lines = play.0.counted ∙ ap (λ (b : Bool). count_behind b (lines_of s)) last;
    }
play_counted s (part ∷ []) (point ∷ next ∷ points) last few play = absurd play.1
play_counted s (part ∷ other ∷ parts) (point ∷ points) last few play =
    let same : lines_of point.after ≡ lines_of s =
    play.0.counted ∙ ap (λ (b : Bool). count_behind b (lines_of s)) last.0 in
    let more = play_counted point.after (other ∷ parts) points last.1 (omega (arith, same, few))
    play.1 in
    record {
      short = (few, more.short);
      lines = more.lines ∙ ap (λ (n : ℕ). n + 1) same;
    }

-- ---- runs one behind another

behind_join : (s : Lanes) (front back : List LanePoint)
    → state_behind s (front ++ back) ≡ state_behind (state_behind s front) back
behind_join s [] back = refl
behind_join s (point ∷ front) back = behind_join point.after front back

short_join : (s : Lanes) (front back : List LanePoint) → IsShort s front
    → IsShort (state_behind s front) back → IsShort s (front ++ back)
short_join s [] back one two = two
short_join s (point ∷ front) back one two = (one.0, short_join point.after front back one.1 two)

points_more : (done : List (List LanePoint)) (own : List LanePoint)
    → all_points (done ++ own ∷ []) ≡ all_points done ++ own
points_more [] own = append-nil own
points_more (first ∷ done) own =
    ap (λ (l : List LanePoint). first ++ l) (points_more done own)
    ∙ sym (append_assoc first (all_points done) own)

run_more : (s : Lanes) (asked : List LaneLine) (done : List (List LanePoint)) (line : LaneLine)
    (own : List LanePoint) → IsLaneRun s asked done
    → IsLanePlay (state_behind s (all_points done))
    (parts_of (length (state_behind s (all_points done)).tracks) line) own
    → IsLaneRun s (asked ++ line ∷ []) (done ++ own ∷ [])
run_more s [] [] line own run play = (play, tt)
run_more s [] (first ∷ done) line own run play = absurd run
run_more s (l ∷ asked) [] line own run play = absurd run
run_more s (l ∷ asked) (first ∷ done) line own run play = (
  run.0,
  run_more (state_behind s first) asked done line own run.1
      (subst (λ (t : Lanes). IsLanePlay t (parts_of (length t.tracks) line) own)
      (behind_join s first (all_points done)) play),
)

-- ONE LINE MORE
pub reached_more : RunsGoOn
reached_more line before after told was fit few steps =
    let counts = play_counted before (parts_of (length before.tracks) line) steps.points
    (parts_end (length before.tracks) line) few steps.plays in
    let points = all_points was.done in
    let whole = points_more was.done steps.points in
    let last : state_behind no_lanes (all_points (was.done ++ steps.points ∷ [])) ≡ after =
    ap (state_behind no_lanes) whole ∙ behind_join no_lanes points steps.points
    ∙ ap (λ (s : Lanes). state_behind s steps.points) was.behind ∙ steps.behind in
    let count : lines_of after ≡ lines_of before + 1 =
    ap lines_of (sym steps.behind) ∙ counts.lines in
    record {
      asked = was.asked ++ line ∷ [];
      done = was.done ++ steps.points ∷ [];
      fit = join_all IsFitLaneLine was.asked (line ∷ []) was.fit (fit, tt);
      short = subst (λ (l : List LanePoint). IsShort no_lanes l) (sym whole)
          (short_join no_lanes points steps.points was.short
          (subst (λ (s : Lanes). IsShort s steps.points) (sym was.behind) counts.short));
      few = omega (arith, count, few);
      run = run_more no_lanes was.asked was.done line steps.points was.run
          (subst (λ (s : Lanes). IsLanePlay s (parts_of (length s.tracks) line) steps.points)
          (sym was.behind) steps.plays);
      behind = last;
    }
