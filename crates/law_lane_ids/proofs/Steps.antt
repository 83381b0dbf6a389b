-- Each point of a run over several lanes, with the line whose point it is, and what holds along the
-- run before it and behind it.
use Rattle.std.proofs.Common.{◌+◌, ◌≤◌, ◌++◌, List, [], ◌∷◌, length, sym, subst, append-nil, append_assoc}
use Rattle.std.specs.List.{AllByRecursion}
use Rattle.line_script.specs.declared.line.LaneLine.{LaneLine}
use Rattle.law_lanes.specs.Along.{IsFitLaneLine}
use Rattle.law_lanes.specs.Lanes.{Lanes, lines_of}
use Rattle.law_lanes.specs.Parts.{IsLanePlay, IsLaneRun, IsShort, LanePart, LanePoint, all_points, parts_of, state_behind}
use Rattle.law_lanes.specs.Steps.{LanesStep}
use Rattle.law_lanes.proofs.Along.{IsFitPart, parts_fit}
use Rattle.law_lanes.proofs.Walk.{Along, HonestTrack, along_more}
use Rattle.law_lane_ids.specs.Played.{lines_done, lines_played}

pub record StepsAlong (past : List LanePoint) (s : Lanes) (line : LaneLine) (point : LanePoint)
    : Type 0 where
  pub fit : IsFitLaneLine line
  pub few : lines_of s + 1 ≤ 1000000
  pub step : LanesStep (lines_of s + 1) line s point.after point.told
  pub was : Along past s
  pub now : Along (past ++ point ∷ []) point.after

abbrev pub EachStep : List LanePoint → Lanes → List LaneLine → List LanePoint → Type 0
EachStep past s [] [] = Unit {0}
EachStep past s [] (_ ∷ _) = ⊥
EachStep past s (_ ∷ _) [] = ⊥
EachStep past s (line ∷ lines) (point ∷ points) =
    StepsAlong past s line point × EachStep (past ++ point ∷ []) point.after lines points

play_steps : HonestTrack → (past : List LanePoint) (s : Lanes) (parts : List LanePart)
    (points : List LanePoint) → Along past s → AllByRecursion IsFitPart parts
    → IsLanePlay s parts points → IsShort s points
    → EachStep past s (lines_played s parts points) points
play_steps says past s [] [] all fit play short = tt
play_steps says past s [] (point ∷ points) all fit play short = absurd play
play_steps says past s (part ∷ parts) [] all fit play short = absurd play
play_steps says past s (part ∷ parts) (point ∷ points) all fit play short =
    let one = along_more says past s point (part.line s) all (fit.0 s) short.0 play.0.steps in (
      record { fit = fit.0 s; few = short.0; step = play.0.steps; was = all; now = one },
      play_steps says (past ++ point ∷ []) point.after parts points one fit.1 play.1 short.1,
    )

pub last_step : (past : List LanePoint) (s : Lanes) (lines : List LaneLine) (points : List LanePoint)
    → Along past s → EachStep past s lines points → Along (past ++ points) (state_behind s points)
last_step past s [] [] was each =
    subst (λ (l : List LanePoint). Along l s) (sym (append-nil past)) was
last_step past s [] (point ∷ points) was each = absurd each
last_step past s (line ∷ lines) [] was each = absurd each
last_step past s (line ∷ lines) (point ∷ points) was each =
    subst (λ (l : List LanePoint). Along l (state_behind point.after points))
    (append_assoc past (point ∷ []) points)
    (last_step (past ++ point ∷ []) point.after lines points each.0.now each.1)

steps_join : (past : List LanePoint) (s : Lanes) (asked more : List LaneLine)
    (front back : List LanePoint) → EachStep past s asked front
    → EachStep (past ++ front) (state_behind s front) more back
    → EachStep past s (asked ++ more) (front ++ back)
steps_join past s [] more [] back one two =
    subst (λ (l : List LanePoint). EachStep l s more back) (append-nil past) two
steps_join past s [] more (point ∷ front) back one two = absurd one
steps_join past s (line ∷ asked) more [] back one two = absurd one
steps_join past s (line ∷ asked) more (point ∷ front) back one two = (
  one.0,
  steps_join (past ++ point ∷ []) point.after asked more front back one.1
      (subst (λ (l : List LanePoint). EachStep l (state_behind point.after front) more back)
      (sym (append_assoc past (point ∷ []) front)) two),
)

short_parts : (s : Lanes) (front back : List LanePoint) → IsShort s (front ++ back)
    → IsShort s front × IsShort (state_behind s front) back
short_parts s [] back short = (tt, short)
short_parts s (point ∷ front) back short =
    let rest = short_parts point.after front back short.1 in
    ((short.0, rest.0), rest.1)

-- EACH POINT of a run
pub run_steps : HonestTrack → (past : List LanePoint) (s : Lanes) (asked : List LaneLine)
    (done : List (List LanePoint)) → Along past s → AllByRecursion IsFitLaneLine asked
    → IsLaneRun s asked done → IsShort s (all_points done)
    → EachStep past s (lines_done s asked done) (all_points done)
run_steps says past s [] [] all fit run short = tt
run_steps says past s [] (own ∷ others) all fit run short = absurd run
run_steps says past s (line ∷ asked) [] all fit run short = absurd run
run_steps says past s (line ∷ asked) (own ∷ others) all fit run short =
    let parts = parts_of (length s.tracks) line in
    let lines = lines_played s parts own in
    let pair = short_parts s own (all_points others) short in
    let one = play_steps says past s parts own all (parts_fit (length s.tracks) line fit.0) run.0
    pair.0 in
    steps_join past s lines (lines_done (state_behind s own) asked others) own (all_points others) one
    (run_steps says (past ++ own) (state_behind s own) asked others
    (last_step past s lines own all one) fit.1 run.1 pair.1)
