-- The run of a script on a lane, line by line: THE LAW.
use Rattle.std.proofs.Common.{◌≡◌, ◌≢◌, ◌∙◌, ◌+◌, ◌≤◌, ◌++◌, ◌⊎◌, inl, inr, ℕ, zero, suc, Bool, true, false, List, [], ◌∷◌, take, refl, sym, ap, subst, arith, append-nil}
use Rattle.std.specs.List.{AllByRecursion}
use Rattle.std.proofs.lemmas.Bool.{or_from, or_parts}
use Rattle.line_script.specs.declared.line.LaneLine.{LaneLine}
use Rattle.node_core.specs.declared.input.Input.TheVariants as inputs
use Rattle.line_report.specs.declared.happening.Happening.{Happening}
use Rattle.line_report.specs.declared.happening.LaneHappening.{LaneHappening}
use Rattle.line_step.specs.Homes.{AreNewcomers, IsHonest, IsNewcomer, is_home}
use Rattle.line_step.specs.Lies.{has_lie, tells_lie}
use Rattle.line_step.specs.Lines.{Counts}
use Rattle.line_step.specs.Requests as requests
use Rattle.line_step.specs.Runs.{IsRun, IsShort, Point}
use Rattle.line_step.specs.Shown.{standings_told}
use Rattle.line_step.specs.State.{LineState, no_line}
use Rattle.line_step.specs.Tracks.{TrackLine, TrackSteps, other_line, own_line}
use Rattle.law_one_standing.specs.Standing.{IsFitTrack}
use Rattle.law_lanes.specs.Along.{all_done, told_for}
use Rattle.law_lanes.specs.Lanes.{Lanes, lines_of, no_lanes, track}
use Rattle.law_lanes.specs.Parts.{LanePoint, all_points, all_told}
use Rattle.law_lanes.specs.Shown.{standings_on}
use Rattle.law_lanes.specs.Views.{has_lie_on, tells_lie_on}
use Rattle.law_lanes.proofs.Along.{none_along}
use Rattle.law_lanes.proofs.Apart.{IsHomeOn}
use Rattle.law_lanes.proofs.Moving.{SeenShift}
use Rattle.law_lanes.proofs.Points.{all_told_more, honest_more}
use Rattle.law_lanes.proofs.Seen.{IsPlainLine, Seen, Sees}
use Rattle.law_lanes.proofs.Sharing.{left_counted}
use Rattle.law_lanes.proofs.Telling.{done_append, for_append, lie_for, same_home, same_lie}
use Rattle.law_lanes.proofs.Telling as telling
use Rattle.law_lanes.proofs.Together.{IsTogether, counted_track, lines_on_each, none_track}
use Rattle.law_lanes.proofs.Walk.{Along, HonestTrack, IsKnown, at_home, board_fit, kept_marks, known_gets, known_plain, line_seen, mark_home}
use Rattle.law_lane_ids.specs.Played.{lines_done}
use Rattle.law_lane_ids.proofs.Making.{point_done}
use Rattle.law_lane_ids.proofs.Steps.{EachStep, StepsAlong, run_steps}
use Rattle.law_lane_script.specs.Lines.{line_on, lines_on}
use Rattle.law_lane_script.specs.Script.{ArePointsOf, EachLaneDoesItsLines, IsPointOf, beside_standings, is_of_lane, more_points, no_points, script_on}
use Rattle.law_lane_script.proofs.Moving.{line_knows}
use Rattle.law_lane_script.proofs.Seeing.{KnowsAs}
use Rattle.law_lane_script.proofs.Standing.{beside_append, lanes_none, track_none}

-- ---- counted

record StepsOn (number lane lines : ℕ) (before next : Lanes) (done : List LaneHappening)
    (line : TrackLine) : Type 0 where
  told : List Happening
  steps : TrackSteps number line (track lane before) (record (track lane next) { lines = lines }) told
  same : all_done told ≡ all_done (told_for lane done)
  whole : is_of_lane line ≡ true → beside_standings told ≡ beside_standings (told_for lane done)

steps_on : (number lane lines : ℕ) (before next : Lanes) (done : List LaneHappening)
    (line : TrackLine) (told : List Happening) → Counts (track lane next).lines lines
    → Sees number line (track lane before) (track lane next) told
    → all_done told ≡ all_done (told_for lane done)
    → (is_of_lane line ≡ true → told ≡ told_for lane done)
    → StepsOn number lane lines before next done line
steps_on number lane lines before next done (own_line request) told counts sees same whole =
    let standings = standings_told (track lane before) (track lane next) in
    record {
      told = told ++ standings;
      steps = (
        record {
          next = track lane next;
          done = told;
          does = sees.0;
          lines = lines;
          counts = counts;
          after_is = refl;
          told_is = refl;
        },
        sees.1,
      );
      same =
          done_append told standings
          ∙ ap (λ (t : List Happening). all_done told ++ t)
          (telling.track_none (track lane before) (track lane next))
          ∙ append-nil (all_done told) ∙ same;
      whole = λ of_it.
          beside_append told standings
          ∙ ap (λ (t : List Happening). beside_standings told ++ t)
          (track_none (track lane before) (track lane next))
          ∙ append-nil (beside_standings told) ∙ ap beside_standings (whole of_it);
    }
steps_on number lane lines before next done other_line told counts sees same whole =
    record {
      told = told;
      steps = (left_counted (track lane before) (track lane next) lines sees.0 counts, sees.1);
      same = same;
      whole = λ of_it. ap beside_standings (whole of_it);
    }

-- ---- newcomers

plain_new : (past : List Happening) (line : TrackLine) → IsPlainLine line → IsNewcomer past line
plain_new past (own_line (requests.gives machine (inputs.Gets board))) plain = absurd plain
plain_new past line plain = tt

not_home : (home : Bool) → (home ≡ true → ⊥) → home ≡ false
not_home false never = refl
not_home true never = absurd (never refl)

known_new : HonestTrack → (number lane : ℕ) (past : List LanePoint) (before next : Lanes)
    (done : List LaneHappening) (line : TrackLine) (told : List Happening) → number ≤ 1000000
    → Along past before → has_lie_on past ≡ false
    → all_done told ≡ all_done (told_for lane (all_told past)) → 1 ≤ lane
    → IsKnown number before next done lane line → IsNewcomer told line × IsFitTrack line
known_new says number lane past before next done line told few all none same some (known_plain plain fit) =
    (plain_new told line plain, fit)
known_new says number lane past before next done line told few all none same some (known_gets shift here) =
    let giver = shift.may.giver in
    let from_t = all.tracks shift.from giver.0 in
    let at = at_home says shift.from past before from_t none in
    let own : IsHomeOn (all_told past) shift.id shift.from =
    mark_home says shift.from shift.id past before from_t none
    (kept_marks (track shift.from before) shift.machine shift.id shift.node shift.there shift.kept) in
    let away : is_home shift.id (told_for lane (all_told past)) ≡ false =
    not_home _ (λ (home : IsHomeOn (all_told past) shift.id lane).
    shift.may.apart ((all.homes none).once shift.id shift.from lane giver.0 some own home ∙ here)) in
    let new : is_home shift.id told ≡ false =
    same_home shift.id told (told_for lane (all_told past)) false same ∙ away in (
      subst (λ (x : ℕ). is_home x told ≡ false) (sym shift.own) new,
      board_fit number shift.machine shift.id (track shift.from before) shift.node shift.board
          shift.there few (at.fit shift.machine) shift.is,
    )

-- ---- a point

record PointOn (lane : ℕ) (past : List LanePoint) (s : Lanes) (line : LaneLine)
    (point : LanePoint) : Type 0 where
  told : List Happening
  steps : TrackSteps ((track lane s).lines + 1) (line_on lane line s) (track lane s)
      (track lane point.after) told
  few : (track lane s).lines + 1 ≤ 1000000
  beside : IsPointOf lane (line_on lane line s) point
      (record { told = told; after = track lane point.after })
  new : has_lie_on past ≡ false → (own : List Happening)
      → all_done own ≡ all_done (told_for lane (all_told past))
      → IsNewcomer own (line_on lane line s) × IsFitTrack (line_on lane line s)

together_of : (number : ℕ) (before next : Lanes) (done : List LaneHappening)
    → Seen number before next done ⊎ SeenShift number before next done → IsTogether next
together_of number before next done (inl seen) = seen.together
together_of number before next done (inr seen) = seen.together

told_lanes : (lane : ℕ) (before next : Lanes) (done : List LaneHappening)
    → beside_standings (told_for lane (done ++ standings_on before next))
    ≡ beside_standings (told_for lane done)
told_lanes lane before next done =
    let standings = standings_on before next in
    ap beside_standings (for_append lane done standings)
    ∙ beside_append (told_for lane done) (told_for lane standings)
    ∙ ap (λ (t : List Happening). beside_standings (told_for lane done) ++ t)
    (lanes_none lane before next)
    ∙ append-nil (beside_standings (told_for lane done))

point_on : HonestTrack → (lane : ℕ) (past : List LanePoint) (s : Lanes) (line : LaneLine)
    (point : LanePoint) → 1 ≤ lane → StepsAlong past s line point
    → PointOn lane past s line point
point_on says lane past s line point some along =
    let number : ℕ = lines_of s + 1 in
    let step = along.step in
    let next : Lanes = step.next in
    let all = along.was in
    let mine : TrackLine = line_on lane line s in
    let knows : KnowsAs number lane mine s next step.done =
    line_knows lane line s next step.done all.together all.holds all.apart some along.fit step.does in
    let together : IsTogether next =
    together_of number s next step.done
    (line_seen number line s next step.done all.together all.holds along.fit step.does) in
    let at : track lane point.after ≡ record (track lane next) { lines = step.lines } =
    ap (track lane) step.after_is ∙ counted_track step.lines lane next together.some some in
    let counts : Counts (track lane next).lines step.lines =
    subst (λ (n : ℕ). Counts n step.lines) (sym (lines_on_each next lane together some)) step.counts
    in
    let on = steps_on number lane step.lines s next step.done mine knows.sees.told counts
    knows.sees.sees knows.sees.same knows.sees.whole in
    let lines : (track lane s).lines ≡ lines_of s = lines_on_each s lane all.together some in
    record {
      told = on.told;
      steps =
          subst (λ (n : ℕ). TrackSteps n mine (track lane s) (track lane point.after) on.told)
          (ap (λ (n : ℕ). n + 1) (sym lines))
          (subst (λ (t : LineState). TrackSteps number mine (track lane s) t on.told) (sym at)
          on.steps);
      few = subst (λ (n : ℕ). n + 1 ≤ 1000000) (sym lines) along.few;
      beside = record {
        after = refl;
        done = on.same ∙ sym (point_done past s line point along lane);
        told = λ of_it.
            on.whole of_it ∙ sym (told_lanes lane s next step.done)
            ∙ ap (λ (t : List LaneHappening). beside_standings (told_for lane t)) (sym step.told_is);
      };
      new = λ none own same.
          known_new says number lane past s next step.done mine own along.few all none same some
          knows.known;
    }

-- ---- along a run

pub record IsFair (n : ℕ) (told : List Happening) (lines : List TrackLine) (own : List Point)
    : Type 0 where
  pub lie : has_lie (take n own) ≡ false
  pub newcomers : AreNewcomers told (take n lines) (take n own)
  pub fit : AllByRecursion IsFitTrack (take n lines)

pub record RunOn (lane : ℕ) (past : List LanePoint) (s : Lanes) (told : List Happening)
    (lines : List TrackLine) (points : List LanePoint) : Type 0 where
  pub own : List Point
  pub run : IsRun (track lane s) lines own
  pub short : IsShort (track lane s) own
  pub beside : ArePointsOf lane lines points own
  pub fair : (n : ℕ) → has_lie_on past ≡ false → has_lie_on (take n points) ≡ false
      → IsFair n told lines own

none_fair : (n : ℕ) (told : List Happening) → IsFair n told [] []
none_fair zero told = record { lie = refl; newcomers = tt; fit = tt }
none_fair (suc n) told = record { lie = refl; newcomers = tt; fit = tt }

same_more : (lane : ℕ) (past : List LanePoint) (point : LanePoint) (told own : List Happening)
    → all_done told ≡ all_done (told_for lane (all_told past))
    → all_done own ≡ all_done (told_for lane point.told)
    → all_done (told ++ own) ≡ all_done (told_for lane (all_told (past ++ point ∷ [])))
same_more lane past point told own same more =
    done_append told own
    ∙ (λ i. same i ++ more i)
    ∙ sym (done_append (told_for lane (all_told past)) (told_for lane point.told))
    ∙ ap all_done (sym (for_append lane (all_told past) point.told))
    ∙ ap (λ (t : List LaneHappening). all_done (told_for lane t)) (sym (all_told_more past point))

pub runs_on : HonestTrack → (lane : ℕ) (past : List LanePoint) (s : Lanes) (lines : List LaneLine)
    (points : List LanePoint) (told : List Happening) → 1 ≤ lane → EachStep past s lines points
    → all_done told ≡ all_done (told_for lane (all_told past))
    → RunOn lane past s told (lines_on lane s lines points) points
runs_on says lane past s [] [] told some each same =
    record {
      own = [];
      run = tt;
      short = tt;
      beside = no_points;
      fair = λ n one two. none_fair n told;
    }
runs_on says lane past s [] (point ∷ points) told some each same = absurd each
runs_on says lane past s (line ∷ lines) [] told some each same = absurd each
runs_on says lane past s (line ∷ lines) (point ∷ points) told some each same =
    let one : PointOn lane past s line point = point_on says lane past s line point some each.0 in
    let x : Point = record { told = one.told; after = track lane point.after } in
    let more : RunOn lane (past ++ point ∷ []) point.after (told ++ one.told) (lines_on lane point.after lines points) points =
    runs_on says lane (past ++ point ∷ []) point.after lines points (told ++ one.told) some each.1
    (same_more lane past point told one.told same one.beside.done) in
    record {
      own = x ∷ more.own;
      run = (one.steps, more.run);
      short = (one.few, more.short);
      beside = more_points one.beside more.beside;
      fair = λ n was none. by n was none one more;
    } where
      by : (n : ℕ) → has_lie_on past ≡ false → has_lie_on (take n (point ∷ points)) ≡ false
          → (one : PointOn lane past s line point)
          → (more : RunOn lane (past ++ point ∷ []) point.after (told ++ one.told) (lines_on lane point.after lines points) points)
          → IsFair n told (line_on lane line s ∷ lines_on lane point.after lines points)
          (record { told = one.told; after = track lane point.after } ∷ more.own)
      by zero was none one more = record { lie = refl; newcomers = tt; fit = tt }
      by (suc n) was none one more =
          let parts = or_parts (tells_lie_on point.told) (has_lie_on (take n points)) none in
          let new = one.new was told same in
          let rest = more.fair n (honest_more past point was parts.0) parts.1 in
          record {
            lie =
                or_from (tells_lie one.told) (has_lie (take n more.own))
                (same_lie one.told (told_for lane point.told) one.beside.done
                ∙ lie_for lane point.told parts.0)
                rest.lie;
            newcomers = (new.0, rest.newcomers);
            fit = (new.1, rest.fit);
          }

-- THE LAW
pub lane_does : HonestTrack → EachLaneDoesItsLines
lane_does says asked done lane some fit short run =
    let points = all_points done in
    let lines = lines_done no_lanes asked done in
    let r = runs_on says lane [] no_lanes lines points [] some
    (run_steps says [] no_lanes asked done none_along fit run short) refl in
    let here = none_track lane some in
    record {
      own = r.own;
      run = subst (λ (t : LineState). IsRun t (script_on lane asked done) r.own) here r.run;
      short = subst (λ (t : LineState). IsShort t r.own) here r.short;
      beside = r.beside;
      honest = λ n none.
          let fair = r.fair n refl none in
          (record { told = fair.lie; newcomers = fair.newcomers }, fair.fit);
    }
