-- What the laws over the next line of a track say, in each state of a line of the script.
use Rattle.std.proofs.Common.{List, [], ap, append-nil, append_assoc, refl, subst, sym, true, false, Bool, ℕ, zero, suc, arith, length, ◌++◌, ◌+◌, ◌-◌, ◌∙◌, ◌∷◌, ◌≡◌, ◌≤◌}
use Rattle.std.specs.List.{AllByRecursion}
use Rattle.law_sentences.specs.Records.{ContentsAreKept}
use Rattle.law_sentences.specs.Along.{OrderAlong}
use Rattle.line_script.specs.declared.line.LaneLine.{LaneLine}
use Rattle.line_script.specs.declared.line.LaneLine.TheVariants as lane_lines
use Rattle.line_script.specs.declared.line.ScriptLine.TheVariants as lines
use Rattle.line_report.specs.declared.happening.LaneHappening.{LaneHappening}
use Rattle.law_sentences.specs.Announced.{OpensWhenAnnounced}
use Rattle.line_step.specs.Parts.{count_behind}
use Rattle.line_step.specs.State.{LineState}
use Rattle.law_one_standing.specs.Blame.{NoFalseBlame}
use Rattle.law_one_standing.specs.Reached.{IsReached, LedgerAlong}
use Rattle.law_supervisor_replay.specs.Along.{AgreesAlong}
use Rattle.law_sentences.specs.Answers.{EachLineAnswersOnce}
use Rattle.law_lanes.specs.Along.{IsFitLaneLine}
use Rattle.law_lanes.specs.Lanes.{Lanes, lines_of, no_lanes, track}
use Rattle.law_lanes.specs.Parts.{IsLanePlay, IsLaneRun, IsShort, LaneLineSteps, LanePart, LanePoint, all_points, parts_of, state_behind, stops_from}
use Rattle.law_lanes.specs.Along.{IsLaneReached}
use Rattle.law_lanes.specs.Reached.{AreReached, EachPartIsReached}
use Rattle.line_engine.proofs.Played.{behind_on}
use Rattle.line_engine.specs.Each.{AtEach, EachLaneNow, EachNext}
use Rattle.line_engine.specs.Next.{AnswersNext, BlameNext, ContentsNext, LedgerNext, OpeningsNext, OrderNext, ReplayNext}
use Rattle.line_engine.proofs.Behind.{blames_line, contents_line, opens_line}

-- ---- the laws, in a state to which a run has led

pub order_next : OrderAlong → (s : LineState) → IsReached s → OrderNext s
order_next law s reached = λ request after told fit new few steps none. law request s after told reached steps.1 steps.0 none

pub ledger_next : LedgerAlong → (s : LineState) → IsReached s → LedgerNext s
ledger_next law s reached = λ request after told fit new few steps none. law request s after told reached fit (new reached.asked reached.points reached.run reached.behind) steps.1 few steps.0 none

pub replay_next : AgreesAlong → (s : LineState) → IsReached s → ReplayNext s
replay_next law s reached = λ after told few none. law s after told few none

pub answers_next : EachLineAnswersOnce → (s : LineState) → IsReached s → AnswersNext s
answers_next law s reached = λ request after told fit few steps. law (s.lines + 1) request s after told steps.0

pub contents_next : ContentsAreKept → (s : LineState) → IsReached s → ContentsNext s
contents_next law s reached = λ request after told fit new few steps none. contents_line law request s after told reached fit (new reached.asked reached.points reached.run reached.behind) few steps none

pub blame_next : NoFalseBlame → (s : LineState) → IsReached s → BlameNext s
blame_next law s reached = λ request after told fit few steps none. blames_line law request s after told fit few steps none

pub openings_next : OpensWhenAnnounced → (s : LineState) → IsReached s → OpeningsNext s
openings_next law s reached = λ request after told fit few steps. opens_line law request s after told steps

-- ---- the parts of a line

-- none but the last of them ends the line
abbrev pub EndsLast : List LanePart → Type 0
EndsLast [] = Unit {0}
EndsLast (part ∷ []) = Unit {0}
EndsLast (part ∷ other ∷ others) = (part.ends ≡ false) × EndsLast (other ∷ others)

-- the first of the parts on a lane
from_last : (lane more machine : ℕ) → EndsLast (stops_from lane more machine)
from_last lane zero machine = (refl, (refl, (refl, tt)))
from_last lane (suc zero) machine = (refl, (refl, (refl, (refl, from_last (lane + 1) zero machine))))
from_last lane (suc (suc more)) machine = (refl, (refl, (refl, (refl, from_last (lane + 1) (suc more) machine))))

stop_last : (more machine : ℕ) → EndsLast (record { line = λ s. lane_lines.On 1 (lines.Stop machine); ends = false } ∷ stops_from 1 more machine)
stop_last zero machine = (refl, from_last 1 zero machine)
stop_last (suc more) machine = (refl, from_last 1 (suc more) machine)

-- none but the last of them ends the line, and the last does
abbrev pub EndsNow : List LanePart → Type 0
EndsNow [] = ⊥
EndsNow (part ∷ []) = part.ends ≡ true
EndsNow (part ∷ other ∷ others) = (part.ends ≡ false) × EndsNow (other ∷ others)

from_end : (lane more machine : ℕ) → EndsNow (stops_from lane more machine)
from_end lane zero machine = (refl, (refl, (refl, refl)))
from_end lane (suc zero) machine = (refl, (refl, (refl, (refl, from_end (lane + 1) zero machine))))
from_end lane (suc (suc more)) machine = (refl, (refl, (refl, (refl, from_end (lane + 1) (suc more) machine))))

stop_end : (more machine : ℕ) → EndsNow (record { line = λ s. lane_lines.On 1 (lines.Stop machine); ends = false } ∷ stops_from 1 more machine)
stop_end zero machine = (refl, from_end 1 zero machine)
stop_end (suc more) machine = (refl, from_end 1 (suc more) machine)

pub parts_end : (lanes : ℕ) (line : LaneLine) → EndsNow (parts_of lanes line)
parts_end lanes (lane_lines.On lane (lines.Stop machine)) = stop_end (lanes - 1) machine
parts_end lanes (lane_lines.On lane line) = refl
parts_end lanes (lane_lines.Lanes count) = refl
parts_end lanes (lane_lines.Shift machine from to id) = refl

pub parts_last : (lanes : ℕ) (line : LaneLine) → EndsLast (parts_of lanes line)
parts_last lanes (lane_lines.On lane (lines.Stop machine)) = stop_last (lanes - 1) machine
parts_last lanes (lane_lines.On lane line) = tt
parts_last lanes (lane_lines.Lanes count) = tt
parts_last lanes (lane_lines.Shift machine from to id) = tt

-- the number of the next part, where this one doesn't end the line
stays : (part : LanePart) (before : Lanes) (point : LanePoint) → lines_of point.after ≡ count_behind part.ends (lines_of before) → part.ends ≡ false → lines_of before + 1 ≤ 1000000 → lines_of point.after + 1 ≤ 1000000
stays part before point counted ends few =
    subst (λ (n : ℕ). n + 1 ≤ 1000000) (sym (counted ∙ ap (λ (b : Bool). count_behind b (lines_of before)) ends)) few

counts_within : (ends : Bool) (before after : ℕ) → before + 1 ≤ 1000000 → after ≡ count_behind ends before → after ≤ 1000000
counts_within true before after few is = omega (arith, few, is)
counts_within false before after few is = omega (arith, few, is)

-- ---- in each state of a line

pub at_each : (Holds : LineState → Type 0) → ((s : LineState) → IsReached s → Holds s) → (s : Lanes) (points : List LanePoint) → ((lane : ℕ) → 1 ≤ lane → AreReached lane s points) → AtEach Holds s points
at_each Holds law s [] reached = λ lane least. law (track lane s) (reached lane least)
at_each Holds law s (point ∷ points) reached = (
  λ lane least. law (track lane s) (reached lane least).0,
  at_each Holds law point.after points (λ lane least. (reached lane least).1),
)

-- and in the last of them
pub reached_last : (lane : ℕ) (s : Lanes) (points : List LanePoint) → AreReached lane s points → IsReached (track lane (state_behind s points))
reached_last lane s [] reached = reached
reached_last lane s (point ∷ points) reached = reached_last lane point.after points reached.1

-- ---- the run with the line behind it

play_on : (s : Lanes) (asked : List LaneLine) (done : List (List LanePoint)) (line : LaneLine) (points : List LanePoint) → IsLaneRun s asked done
    → IsLanePlay (state_behind s (all_points done)) (parts_of (length (state_behind s (all_points done)).tracks) line) points → IsLaneRun s (asked ++ line ∷ []) (done ++ points ∷ [])
play_on s [] [] line points run play = (play, tt)
play_on s [] (own ∷ done) line points run play = absurd run
play_on s (first ∷ asked) [] line points run play = absurd run
play_on s (first ∷ asked) (own ∷ done) line points run play =
    let P : Lanes → Type 0 = λ t. IsLanePlay t (parts_of (length t.tracks) line) points in
    (run.0, play_on (state_behind s own) asked done line points run.1 (subst P (behind_on s own (all_points done)) play))

pub points_on : (done : List (List LanePoint)) (points : List LanePoint) → all_points (done ++ points ∷ []) ≡ all_points done ++ points
points_on [] points = append-nil points
points_on (own ∷ done) points = ap (λ (ps : List LanePoint). own ++ ps) (points_on done points) ∙ sym (append_assoc own (all_points done) points)

short_on : (s : Lanes) (points more : List LanePoint) → IsShort s points → IsShort (state_behind s points) more → IsShort s (points ++ more)
short_on s [] more short next = next
short_on s (point ∷ points) more short next = (short.0, short_on point.after points more short.1 next)

fit_on : (asked : List LaneLine) (line : LaneLine) → AllByRecursion IsFitLaneLine asked → IsFitLaneLine line → AllByRecursion IsFitLaneLine (asked ++ line ∷ [])
fit_on [] line fit one = (one, tt)
fit_on (first ∷ asked) line fit one = (fit.0, fit_on asked line fit.1 one)

-- the parts of a line have its number
short_parts : (s : Lanes) (parts : List LanePart) (points : List LanePoint) → EndsLast parts → lines_of s + 1 ≤ 1000000 → IsLanePlay s parts points → IsShort s points
short_parts s [] [] last few play = tt
short_parts s [] (point ∷ points) last few play = absurd play
short_parts s (part ∷ parts) [] last few play = absurd play
short_parts s (part ∷ []) (point ∷ []) last few play = (few, tt)
short_parts s (part ∷ []) (point ∷ other ∷ points) last few play = absurd play.1
short_parts s (part ∷ second ∷ parts) (point ∷ points) last few play = (few, short_parts point.after (second ∷ parts) points last.1 (stays part s point play.0.counted last.0 few) play.1)

-- and behind the last the line is counted
lines_parts : (s : Lanes) (parts : List LanePart) (points : List LanePoint) → EndsLast parts → lines_of s + 1 ≤ 1000000 → IsLanePlay s parts points → lines_of (state_behind s points) ≤ 1000000
lines_parts s [] [] last few play = omega (arith, few)
lines_parts s [] (point ∷ points) last few play = absurd play
lines_parts s (part ∷ parts) [] last few play = absurd play
lines_parts s (part ∷ []) (point ∷ []) last few play = counts_within part.ends (lines_of s) (lines_of point.after) few play.0.counted
lines_parts s (part ∷ []) (point ∷ other ∷ points) last few play = absurd play.1
lines_parts s (part ∷ second ∷ parts) (point ∷ points) last few play = lines_parts point.after (second ∷ parts) points last.1 (stays part s point play.0.counted last.0 few) play.1

counted_parts : (s : Lanes) (parts : List LanePart) (points : List LanePoint) → EndsNow parts → IsLanePlay s parts points → lines_of (state_behind s points) ≡ lines_of s + 1
counted_parts s [] points ends play = absurd ends
counted_parts s (part ∷ parts) [] ends play = absurd play
counted_parts s (part ∷ []) (point ∷ []) ends play = play.0.counted ∙ ap (λ (b : Bool). count_behind b (lines_of s)) ends
counted_parts s (part ∷ []) (point ∷ other ∷ points) ends play = absurd play.1
counted_parts s (part ∷ second ∷ parts) (point ∷ points) ends play =
    counted_parts point.after (second ∷ parts) points ends.1 play.1 ∙ ap (λ (n : ℕ). n + 1) (play.0.counted ∙ ap (λ (b : Bool). count_behind b (lines_of s)) ends.0)

pub line_counted : (line : LaneLine) (before after : Lanes) (told : List LaneHappening) → LaneLineSteps line before after told → lines_of after ≡ lines_of before + 1
line_counted line before after told steps = ap lines_of (sym steps.behind) ∙ counted_parts before (parts_of (length before.tracks) line) steps.points (parts_end (length before.tracks) line) steps.plays

-- what is known of a line of the script
pub record Known (line : LaneLine) (before after : Lanes) (told : List LaneHappening) : Type 0 where
  pub parts : EachPartIsReached
  pub reached : IsLaneReached before
  pub fit : IsFitLaneLine line
  pub few : lines_of before + 1 ≤ 1000000
  pub steps : LaneLineSteps line before after told

pub each_next : (Holds : LineState → Type 0) → ((s : LineState) → IsReached s → Holds s) → (line : LaneLine) (before after : Lanes) (told : List LaneHappening) → Known line before after told → EachNext Holds line before after told
each_next Holds law line before after told k = record {
  points = k.steps.points;
  plays = k.steps.plays;
  behind = k.steps.behind;
  told_is = k.steps.told_is;
  each = at_each Holds law before k.steps.points (λ lane least. k.parts line before k.steps.points lane k.reached k.fit k.few k.steps.plays least);
}

pub each_now : (Holds : LineState → Type 0) → ((s : LineState) → IsReached s → Holds s) → (line : LaneLine) (before after : Lanes) (told : List LaneHappening) → Known line before after told → EachLaneNow Holds after
each_now Holds law line before after told k =
    λ lane least.
    law (track lane after) (subst (λ (s : Lanes). IsReached (track lane s)) k.steps.behind
    (reached_last lane before k.steps.points (k.parts line before k.steps.points lane k.reached k.fit k.few k.steps.plays least)))

pub reached_next : (line : LaneLine) (before after : Lanes) (told : List LaneHappening) → IsLaneReached before → IsFitLaneLine line → lines_of before + 1 ≤ 1000000 → LaneLineSteps line before after told → IsLaneReached after
reached_next line before after told was fit few steps =
    let last : EndsLast (parts_of (length before.tracks) line) = parts_last (length before.tracks) line in
    let P : Lanes → Type 0 = λ s. IsLanePlay s (parts_of (length s.tracks) line) steps.points in
    let S : Lanes → Type 0 = λ s. IsShort s steps.points in
    record {
      asked = was.asked ++ line ∷ [];
      done = was.done ++ steps.points ∷ [];
      fit = fit_on was.asked line was.fit fit;
      short = subst (λ (ps : List LanePoint). IsShort no_lanes ps) (sym (points_on was.done steps.points))
          (short_on no_lanes (all_points was.done) steps.points was.short (subst S (sym was.behind) (short_parts before (parts_of (length before.tracks) line) steps.points last few steps.plays)));
      few = subst (λ (s : Lanes). lines_of s ≤ 1000000) steps.behind (lines_parts before (parts_of (length before.tracks) line) steps.points last few steps.plays);
      run = play_on no_lanes was.asked was.done line steps.points was.run (subst P (sym was.behind) steps.plays);
      behind = ap (state_behind no_lanes) (points_on was.done steps.points) ∙ behind_on no_lanes (all_points was.done) steps.points ∙ ap (λ (s : Lanes). state_behind s steps.points) was.behind ∙ steps.behind;
    }

-- the run with the line behind it, as the laws over runs ask for it
pub record IsRunBehind (line : LaneLine) (asked : List LaneLine) (done : List (List LanePoint)) (points : List LanePoint) : Type 0 where
  pub fit : AllByRecursion IsFitLaneLine (asked ++ line ∷ [])
  pub short : IsShort no_lanes (all_points (done ++ points ∷ []))
  pub run : IsLaneRun no_lanes (asked ++ line ∷ []) (done ++ points ∷ [])

pub run_behind : (line : LaneLine) (before after : Lanes) (told : List LaneHappening) → (k : Known line before after told) → IsRunBehind line k.reached.asked k.reached.done k.steps.points
run_behind line before after told k =
    let was : IsLaneReached before = k.reached in
    let steps : LaneLineSteps line before after told = k.steps in
    let P : Lanes → Type 0 = λ s. IsLanePlay s (parts_of (length s.tracks) line) steps.points in
    let S : Lanes → Type 0 = λ s. IsShort s steps.points in
    record {
      fit = fit_on was.asked line was.fit k.fit;
      short = subst (λ (ps : List LanePoint). IsShort no_lanes ps) (sym (points_on was.done steps.points))
          (short_on no_lanes (all_points was.done) steps.points was.short
          (subst S (sym was.behind) (short_parts before (parts_of (length before.tracks) line) steps.points (parts_last (length before.tracks) line) k.few steps.plays)));
      run = play_on no_lanes was.asked was.done line steps.points was.run (subst P (sym was.behind) steps.plays);
    }

no_points : (s : Lanes) (parts : List LanePart) → EndsNow parts → IsLanePlay s parts [] → ⊥
no_points s [] ends play = ends
no_points s (part ∷ parts) ends play = play

-- it has one point at least
pub some_points : (line : LaneLine) (before after : Lanes) (told : List LaneHappening) → (k : Known line before after told) → k.steps.points ≡ [] → ⊥
some_points line before after told k none =
    no_points before (parts_of (length before.tracks) line) (parts_end (length before.tracks) line)
    (subst (λ (ps : List LanePoint). IsLanePlay before (parts_of (length before.tracks) line) ps) none k.steps.plays)

pub none_reached : IsLaneReached no_lanes
none_reached = record { asked = []; done = []; fit = tt; short = tt; few = omega arith; run = tt; behind = refl }
