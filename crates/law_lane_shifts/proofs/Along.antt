-- Over the run of a script: THE LAW.
use Rattle.std.proofs.Common.{◌≡◌, ◌∙◌, ◌+◌, ◌++◌, ◌⊎◌, inl, inr, ℕ, zero, suc, false, List, [], ◌∷◌, take, refl, ap, subst}
use Rattle.std.proofs.lemmas.Bool.{or_parts}
use Rattle.line_script.specs.declared.line.LaneLine.{LaneLine}
use Rattle.node_core.specs.declared.act.Act.TheVariants as acts
use Rattle.line_report.specs.declared.happening.Happening.TheVariants as happenings
use Rattle.line_report.specs.declared.happening.LaneHappening.{LaneHappening}
use Rattle.line_step.specs.State.{LineState}
use Rattle.law_one_standing.proofs.Carrying.{SaysAlone}
use Rattle.law_one_standing.specs.Told.{IsTold}
use Rattle.law_lanes.specs.Along.{told_for}
use Rattle.law_lanes.specs.Lanes.{Lanes, lines_of, no_lanes, track}
use Rattle.law_lanes.specs.Parts.{LanePoint, all_points}
use Rattle.law_lanes.specs.Views.{has_lie_on, tells_lie_on}
use Rattle.law_lanes.proofs.Along.{none_along}
use Rattle.law_lanes.proofs.Home.{honest_track}
use Rattle.law_lanes.proofs.Moving.{SeenShift}
use Rattle.law_lanes.proofs.Points.{honest_more}
use Rattle.law_lanes.proofs.Seen.{Seen}
use Rattle.law_lanes.proofs.Together.{counted_track}
use Rattle.law_lanes.proofs.Walk.{line_seen}
use Rattle.law_lane_ids.specs.Played.{lines_done}
use Rattle.law_lane_ids.proofs.Making.{point_done}
use Rattle.law_lane_ids.proofs.Steps.{EachStep, StepsAlong, run_steps}
use Rattle.law_lane_shifts.specs.Shifted.{EachShiftLeavesRecords, LeavesRecord, ShiftLeaves, ShiftsLeave}
use Rattle.law_lane_shifts.proofs.Leaving.{shift_leaves}
use Rattle.law_lane_shifts.proofs.Told.{IsThatShift, of_giver, of_taker, plainly_none, same_deed, that_shift}

point_leaves : SaysAlone → (past : List LanePoint) (s : Lanes) (line : LaneLine)
    (point : LanePoint) → StepsAlong past s line point → has_lie_on past ≡ false → ShiftLeaves s point
point_leaves alone past s line point along none machine from to id more is =
    by (line_seen number line s next done along.was.together along.was.holds along.fit
    along.step.does) where
      number : ℕ
      number = lines_of s + 1

      next : Lanes
      next = along.step.next

      done : List LaneHappening
      done = along.step.done

      giver : IsTold (happenings.Done machine (acts.Gives id to)) (told_for from done)
      giver =
          same_deed machine (acts.Gives id to) (told_for from point.told) (told_for from done)
          (point_done past s line point along from) (of_giver machine from to id is)

      taker : IsTold (happenings.Done machine (acts.Gets id)) (told_for to done)
      taker =
          same_deed machine (acts.Gets id) (told_for to point.told) (told_for to done)
          (point_done past s line point along to) (of_taker machine from to id is)

      by : Seen (lines_of s + 1) s along.step.next along.step.done
          ⊎ SeenShift (lines_of s + 1) s along.step.next along.step.done
          → LeavesRecord machine from to id s point.after
      by (inl seen) =
          absurd (plainly_none number machine from to id s next done seen.plainly more taker)
      by (inr seen) =
          let shift = seen.shifted in
          let that : IsThatShift number machine from to id s next done shift =
          that_shift number machine from to id s next done shift giver in
          let some = shift.may.taker.0 in
          let at : track shift.to point.after ≡ record (track shift.to next) { lines = along.step.lines } =
          ap (track shift.to) along.step.after_is
          ∙ counted_track along.step.lines shift.to next seen.together.some some in
          let leaves =
          shift_leaves alone number past s next point.after done along.was none shift
          (ap (λ (t : LineState). t.machines) at) in
          subst (λ (x : ℕ). LeavesRecord machine from to x s point.after) that.board
          (subst (λ (t : ℕ). LeavesRecord machine from t shift.id s point.after) that.taker
          (subst (λ (f : ℕ). LeavesRecord machine f shift.to shift.id s point.after) that.giver
          (subst (λ (m : ℕ). LeavesRecord m shift.from shift.to shift.id s point.after) that.by
          leaves)))

each_leaves : SaysAlone → (past : List LanePoint) (s : Lanes) (lines : List LaneLine)
    (points : List LanePoint) (n : ℕ) → EachStep past s lines points → has_lie_on past ≡ false
    → has_lie_on (take n points) ≡ false → ShiftsLeave s (take n points)
each_leaves alone past s lines points zero each was none = tt
each_leaves alone past s lines [] (suc n) each was none = tt
each_leaves alone past s [] (point ∷ points) (suc n) each was none = absurd each
each_leaves alone past s (line ∷ lines) (point ∷ points) (suc n) each was none =
    let parts = or_parts (tells_lie_on point.told) (has_lie_on (take n points)) none in (
      point_leaves alone past s line point each.0 was,
      each_leaves alone (past ++ point ∷ []) point.after lines points n each.1
          (honest_more past point was parts.0) parts.1,
    )

-- THE LAW
pub shifts_leave : SaysAlone → EachShiftLeavesRecords
shifts_leave alone asked done n fit short run none =
    each_leaves alone [] no_lanes (lines_done no_lanes asked done) (all_points done) n
    (run_steps (honest_track alone) [] no_lanes asked done none_along fit run short) refl none
