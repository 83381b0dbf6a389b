-- An undisturbed handover of a lane ends within twelve link steps: THE LAW.
use Rattle.std.proofs.Common.{◌≡◌, ◌∙◌, ◌+◌, ◌≤◌, ◌++◌, ℕ, false, List, [], ◌∷◌, length, take, refl, sym, ap, subst, arith}
use Rattle.std.specs.List.{AllByRecursion}
use Rattle.line_script.specs.declared.line.LaneLine.{LaneLine}
use Rattle.line_report.specs.declared.happening.Happening.{Happening}
use Rattle.line_report.specs.declared.happening.LaneHappening.{LaneHappening}
use Rattle.line_step.specs.Homes.{AreNewcomers}
use Rattle.line_step.specs.Lies.{has_lie}
use Rattle.line_step.specs.Runs.{IsRun, IsShort, Point}
use Rattle.line_step.specs.Runs as runs
use Rattle.line_step.specs.State.{LineState, no_line}
use Rattle.line_step.specs.Tracks.{TrackLine}
use Rattle.law_one_standing.specs.Standing.{IsFitTrack}
use Rattle.law_twelve_steps.specs.Announced.{IsAnnounced}
use Rattle.law_twelve_steps.specs.Twelve.{EndsWithin, EndsWithinTwelveSteps}
use Rattle.law_twelve_steps.specs.Undisturbed.{AreUndisturbed}
use Rattle.law_lanes.specs.Along.{all_done, told_for}
use Rattle.law_lanes.specs.Lanes.{Lanes, no_lanes, track}
use Rattle.law_lanes.specs.Parts.{LanePoint, all_points, all_told, state_behind}
use Rattle.law_lanes.specs.Views.{has_lie_on}
use Rattle.law_lanes.proofs.Along.{none_along}
use Rattle.law_lanes.proofs.Points.{take_past}
use Rattle.law_lanes.proofs.Telling.{done_append, for_append, join_all}
use Rattle.law_lanes.proofs.Together.{IsTogether, none_track}
use Rattle.law_lanes.proofs.Walk.{Along, HonestTrack}
use Rattle.law_lane_ids.specs.Played.{lines_done}
use Rattle.law_lane_ids.proofs.Steps.{EachStep, last_step, run_steps}
use Rattle.law_lane_script.specs.Lines.{lines_on}
use Rattle.law_lane_script.specs.Script.{ArePointsOf, more_points, no_points}
use Rattle.law_lane_script.proofs.Running.{IsFair, RunOn, runs_on}
use Rattle.law_lane_steps.specs.Steps.{EndsWithinTwelveOnLanes, GoesOnFrom}
use Rattle.law_lane_steps.proofs.Alike.{ends_same}
use Rattle.law_lane_steps.proofs.Calm.{script_calm}

-- the run of a lane leads where the line does
pub last_state : {lane : ℕ} {lines : List TrackLine} {points : List LanePoint} {own : List Point}
    (s : Lanes) (t : LineState) → ArePointsOf lane lines points own → t ≡ track lane s
    → runs.state_behind t own ≡ track lane (state_behind s points)
last_state s t no_points same = same
last_state s t (more_points {point = point} {own = x} one rest) same =
    last_state point.after x.after rest one.after

-- and does what is told of the lane
told_beside : {lane : ℕ} {lines : List TrackLine} {points : List LanePoint} {own : List Point}
    → ArePointsOf lane lines points own
    → all_done (runs.all_told own) ≡ all_done (told_for lane (all_told points))
told_beside no_points = refl
told_beside {lane = lane} (more_points {point = point} {points = points} {own = x} {owns = own} one rest) =
    done_append x.told (runs.all_told own)
    ∙ (λ i. one.done i ++ told_beside rest i)
    ∙ sym (done_append (told_for lane point.told) (told_for lane (all_told points)))
    ∙ ap all_done (sym (for_append lane point.told (all_told points)))

-- of all its lines
pub record IsAllFair (told : List Happening) (lines : List TrackLine) (own : List Point)
    : Type 0 where
  pub lie : has_lie own ≡ false
  pub newcomers : AreNewcomers told lines own
  pub fit : AllByRecursion IsFitTrack lines

all_fair : (n : ℕ) (told : List Happening) (lines : List TrackLine) (own : List Point)
    → length lines ≤ n → length own ≤ n → IsFair n told lines own → IsAllFair told lines own
all_fair n told lines own one two fair =
    let all = take_past n lines one in
    let mine = take_past n own two in
    record {
      lie = ap has_lie (sym mine) ∙ fair.lie;
      newcomers = subst (λ (l : List TrackLine). AreNewcomers told l own) all
          (subst (λ (ps : List Point). AreNewcomers told (take n lines) ps) mine fair.newcomers);
      fit = subst (λ (l : List TrackLine). AllByRecursion IsFitTrack l) all fair.fit;
    }

run_fair : (lane : ℕ) (past : List LanePoint) (s : Lanes) (told : List Happening)
    (lines : List TrackLine) (points : List LanePoint) (r : RunOn lane past s told lines points)
    → has_lie_on past ≡ false → has_lie_on points ≡ false → IsAllFair told lines r.own
run_fair lane past s told lines points r was none =
    let n : ℕ = length lines + length points + length r.own in
    all_fair n told lines r.own (omega arith) (omega arith)
    (r.fair n was (ap has_lie_on (take_past n points (omega arith)) ∙ none))

-- ---- the run that led to a state, and the one that goes on from it

pub record TwoRuns (lane : ℕ) (s : Lanes) (first second : List TrackLine)
    (points : List LanePoint) : Type 0 where
  pub own : List Point
  pub next : List Point
  pub run : IsRun no_line first own
  pub short : IsShort no_line own
  pub fair : IsAllFair [] first own
  pub behind : runs.state_behind no_line own ≡ track lane s
  pub more : IsRun (runs.state_behind no_line own) second next
  pub more_short : IsShort (runs.state_behind no_line own) next
  pub more_fair : IsAllFair (runs.all_told own) second next
  pub beside : ArePointsOf lane second points next
  pub together : IsTogether s

pub two_runs : HonestTrack → (asked stretch : List LaneLine) (earlier done : List (List LanePoint))
    (lane : ℕ) → 1 ≤ lane → GoesOnFrom asked stretch earlier done
    → TwoRuns lane (state_behind no_lanes (all_points earlier))
    (lines_on lane no_lanes (lines_done no_lanes asked earlier) (all_points earlier))
    (lines_on lane (state_behind no_lanes (all_points earlier))
    (lines_done (state_behind no_lanes (all_points earlier)) stretch done) (all_points done))
    (all_points done)
two_runs says asked stretch earlier done lane some from =
    let past : List LanePoint = all_points earlier in
    let points : List LanePoint = all_points done in
    let s : Lanes = state_behind no_lanes past in
    let first : List LaneLine = lines_done no_lanes asked earlier in
    let second : List LaneLine = lines_done s stretch done in
    let each : EachStep [] no_lanes first past =
    run_steps says [] no_lanes asked earlier none_along from.fit from.run from.short in
    let along : Along past s = last_step [] no_lanes first past none_along each in
    let more : EachStep past s second points =
    run_steps says past s stretch done along from.more_fit from.more from.more_short in
    let one : RunOn lane [] no_lanes [] (lines_on lane no_lanes first past) past =
    runs_on says lane [] no_lanes first past [] some each refl in
    let told : List Happening = runs.all_told one.own in
    let two : RunOn lane past s told (lines_on lane s second points) points =
    runs_on says lane past s second points told some more (told_beside one.beside) in
    let here = none_track lane some in
    let behind : runs.state_behind no_line one.own ≡ track lane s =
    last_state no_lanes no_line one.beside (sym here) in
    record {
      own = one.own;
      next = two.own;
      run =
          subst (λ (t : LineState). IsRun t (lines_on lane no_lanes first past) one.own) here one.run;
      short = subst (λ (t : LineState). IsShort t one.own) here one.short;
      fair = run_fair lane [] no_lanes [] (lines_on lane no_lanes first past) past one refl from.honest;
      behind = behind;
      more =
          subst (λ (t : LineState). IsRun t (lines_on lane s second points) two.own) (sym behind)
          two.run;
      more_short = subst (λ (t : LineState). IsShort t two.own) (sym behind) two.short;
      more_fair =
          run_fair lane past s told (lines_on lane s second points) points two from.honest
          from.more_honest;
      beside = two.beside;
      together = along.together;
    }

-- THE LAW
pub ends_on : HonestTrack → EndsWithinTwelveSteps → EndsWithinTwelveOnLanes
ends_on says law asked stretch earlier done lane k id some from calm announced =
    let s : Lanes = state_behind no_lanes (all_points earlier) in
    let first : List TrackLine =
    lines_on lane no_lanes (lines_done no_lanes asked earlier) (all_points earlier) in
    let second : List TrackLine = lines_on lane s (lines_done s stretch done) (all_points done) in
    let r = two_runs says asked stretch earlier done lane some from in
    let ends =
    law first second r.own r.next k id
    (join_all IsFitTrack first second r.fair.fit r.more_fair.fit) r.short r.more_short r.run
    r.fair.lie r.fair.newcomers r.more (script_calm lane k s stretch done from.more calm)
    r.more_fair.lie r.more_fair.newcomers
    (subst (λ (t : LineState). IsAnnounced t k id) (sym r.behind) announced) in
    ends_same lane 12 k id (track lane s) second (all_points done) r.next r.beside
    (subst (λ (t : LineState). EndsWithin 12 k id t second r.next) r.behind ends)
