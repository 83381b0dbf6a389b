-- Whoever goes on on a lane ends its handover: THE LAW.
use Rattle.std.proofs.Common.{◌≡◌, ◌∙◌, ◌+◌, ◌<◌, ◌≤◌, ◌++◌, ◌||◌, ◌⊎◌, inl, inr, ℕ, zero, suc, Bool, true, false, List, [], ◌∷◌, length, refl, sym, ap, subst, arith}
use Rattle.line_script.specs.declared.line.LaneLine.{LaneLine}
use Rattle.line_report.specs.declared.happening.Happening.{Happening}
use Rattle.line_step.specs.Runs.{Point}
use Rattle.line_step.specs.Runs as runs
use Rattle.line_step.specs.State.{LineState, no_line}
use Rattle.line_step.specs.Tracks.{TrackLine}
use Rattle.law_twelve_steps.specs.Announced.{IsAnnounced}
use Rattle.law_twelve_steps.specs.Play.{AreEnabled, EndsBy, EndsForWhoeverGoesOn, GoesOn, HasOneMore}
use Rattle.law_twelve_steps.specs.Play as plays
use Rattle.law_twelve_steps.specs.Twelve.{has_ended, tells_settled}
use Rattle.law_lanes.specs.Along.{told_for}
use Rattle.law_lanes.specs.Lanes.{Lanes, lines_of, no_lanes, track}
use Rattle.law_lanes.specs.Parts.{LanePoint, all_points, state_behind}
use Rattle.law_lanes.proofs.Together.{lines_on_each}
use Rattle.law_lanes.proofs.Walk.{HonestTrack}
use Rattle.law_lane_ids.specs.Played.{lines_done}
use Rattle.law_lane_script.specs.Lines.{lines_on}
use Rattle.law_lane_script.specs.Script.{ArePointsOf, more_points, no_points}
use Rattle.law_lane_steps.specs.Play.{AreStepsOn, CanGoOnOn, EndsForWhoeverGoesOnOnLanes}
use Rattle.law_lane_steps.specs.Steps.{points_on}
use Rattle.law_lane_steps.proofs.Alike.{same_settled}
use Rattle.law_lane_steps.proofs.Ending.{TwoRuns, last_state, two_runs}

-- ---- what can be done on the lane can be done in its run

enabled_on : {lane : ℕ} {own : List Point} (k : ℕ) (s : Lanes) (t : LineState)
    (lines : List LaneLine) (points : List LanePoint)
    → ArePointsOf lane (lines_on lane s lines points) points own → t ≡ track lane s
    → AreStepsOn lane k s lines points → AreEnabled k t (lines_on lane s lines points) own
enabled_on k s t [] points are same steps = tt
enabled_on k s t (line ∷ lines) [] are same steps = tt
enabled_on {lane = lane} k s t (line ∷ lines) (point ∷ points) (more_points {own = x} {owns = own} one rest) same steps =
    subst (λ (u : LineState). AreEnabled k u (lines_on lane s (line ∷ lines) (point ∷ points)) (x ∷ own))
    (sym same) (
      steps.0.step,
      steps.0.possible,
      enabled_on k point.after x.after lines points rest one.after steps.1,
    )

-- ---- its points

lines_many : {lane : ℕ} {lines : List TrackLine} {points : List LanePoint} {own : List Point}
    → ArePointsOf lane lines points own → length lines ≡ length points
lines_many no_points = refl
lines_many (more_points one rest) = ap suc (lines_many rest)

ends_by : {lane : ℕ} {lines : List TrackLine} {points : List LanePoint} {own : List Point}
    (most k id : ℕ) (settled : Bool) → ArePointsOf lane lines points own
    → EndsBy most k id settled own → EndsBy most k id settled (points_on lane points)
ends_by zero k id settled are ends = absurd ends
ends_by (suc most) k id settled no_points ends = absurd ends
ends_by {lane = lane} (suc most) k id settled (more_points {point = point} {points = points} {own = x} {owns = own} one rest) ends =
    let told : List Happening = told_for lane point.told in
    let now : Bool = settled || tells_settled k id told in
    let same : tells_settled k id x.told ≡ tells_settled k id told =
    same_settled k id x.told told one.done in
    elim ends [
      | inl over ↦ inl (sym (λ i. has_ended k (settled || same i) (one.after i)) ∙ over)
      | inr later ↦
          inr (ends_by most k id now rest
          (subst (λ (b : Bool). EndsBy most k id (settled || b) own) same later))
    ]

-- THE LAW
pub goes_on : HonestTrack → EndsForWhoeverGoesOn → EndsForWhoeverGoesOnOnLanes
goes_on says law asked stretch earlier done lane k id some from room steps announced =
    by (whoever.ends second r.next play) where
      s : Lanes
      s = state_behind no_lanes (all_points earlier)

      first : List TrackLine
      first = lines_on lane no_lanes (lines_done no_lanes asked earlier) (all_points earlier)

      second : List TrackLine
      second = lines_on lane s (lines_done s stretch done) (all_points done)

      r : TwoRuns lane s first second (all_points done)
      r = two_runs says asked stretch earlier done lane some from

      lines : (runs.state_behind no_line r.own).lines ≡ lines_of s
      lines = ap (λ (t : LineState). t.lines) r.behind ∙ lines_on_each s lane r.together some

      whoever : plays.WhoeverGoesOn 12 k id (runs.state_behind no_line r.own)
      whoever =
          law first r.own k id r.fair.fit r.short (subst (λ (n : ℕ). n + 12 < 1000000) (sym lines) room) r.run r.fair.lie
          r.fair.newcomers (subst (λ (t : LineState). IsAnnounced t k id) (sym r.behind) announced)

      play : plays.IsPlay k (runs.state_behind no_line r.own) second r.next
      play =
          record {
            run = r.more;
            enabled = enabled_on k s (runs.state_behind no_line r.own) (lines_done s stretch done)
                (all_points done) r.beside r.behind steps;
          }

      by : EndsBy 12 k id false r.next ⊎ GoesOn 12 k (runs.state_behind no_line r.own) second r.next
          → EndsBy 12 k id false (points_on lane (all_points done))
          ⊎ CanGoOnOn 12 lane k (state_behind no_lanes (all_points earlier)) (all_points done)
      by (inl ends) = inl (ends_by 12 k id false r.beside ends)
      by (inr more) =
          inr (record {
            few = subst (λ (n : ℕ). n < 12) (lines_many r.beside) more.few;
            more = subst (λ (t : LineState). HasOneMore k t)
                (last_state s (runs.state_behind no_line r.own) r.beside r.behind) more.more;
          })
