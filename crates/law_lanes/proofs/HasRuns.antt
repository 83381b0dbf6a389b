-- Each script over several lanes has a run, from a line without a machine.
use Rattle.std.proofs.Common.{◌+◌, ◌++◌, ℕ, List, [], ◌∷◌, length, refl}
use Rattle.std.specs.List.{AllByRecursion}
use Rattle.line_script.specs.declared.line.LaneLine.{LaneLine}
use Rattle.line_script.specs.declared.line.LaneLine.TheVariants as lane_lines
use Rattle.line_report.specs.declared.happening.Happening.TheVariants as happenings
use Rattle.line_step.specs.Parts.{count_behind}
use Rattle.line_step.specs.Requests.{request_of}
use Rattle.law_lanes.specs.Lanes.{Lanes, counted, empty_track, lines_of, no_lanes}
use Rattle.law_lanes.specs.Once.{EachLaneScriptHasARun, SetsFew}
use Rattle.law_lanes.specs.Parts.{IsLanePlay, IsLaneRun, LanePart, LanePoint, PartSteps, parts_of, state_behind}
use Rattle.law_lanes.specs.Reasons.{may_set, may_shift}
use Rattle.law_lanes.specs.Shown.{standings_on}
use Rattle.law_lanes.specs.Steps.{LanesDo, Shifts, copies, told_once}
use Rattle.law_lanes.specs.Steps as steps
use Rattle.law_lanes.proofs.Moving.{may_shift_is}
use Rattle.law_lanes.proofs.ScriptRuns.{PartsSet, parts_set}
use Rattle.law_lanes.proofs.Stepping.{HasDone, becomes_done, counts_behind, request_done, set_kept, shift_done, unless_done}
use Rattle.law_lanes.proofs.Together.{IsTogether, counted_lines, together_counted, together_none}

line_has : (number : ℕ) (line : LaneLine) (s : Lanes) → IsTogether s → SetsFew line → HasDone s (LanesDo number line s)
line_has number (lane_lines.On lane line) s is sets = request_done number lane (request_of line) s is
line_has number (lane_lines.Lanes count) s is sets =
    let set : Lanes = record s { tracks = copies count (empty_track s) } in
    let what = told_once (happenings.Lanes count) in
    unless_done s (may_set s) (may_set s) (steps.Becomes set what) refl is (λ may. becomes_done s set what (set_kept count s is sets.0 sets.1))
line_has number (lane_lines.Shift machine from to id) s is sets =
    unless_done s (may_shift machine from to id s) (may_shift machine from to id s) (Shifts number machine from to id s) refl is
    (λ may. shift_done number machine from to id s is (may_shift_is machine from to id s may))

record PartGoes (part : LanePart) (s : Lanes) : Type 0 where
  point : LanePoint
  steps : PartSteps part s point
  together : IsTogether point.after

part_goes : (part : LanePart) (s : Lanes) → IsTogether s → SetsFew (part.line s) → PartGoes part s
part_goes part s is sets =
    let did = line_has (lines_of s + 1) (part.line s) s is sets in
    let lines = count_behind part.ends (lines_of s) in
    record {
      point = record { told = did.done ++ standings_on s did.next; after = counted lines did.next };
      steps = record {
        steps = record { next = did.next; done = did.done; does = did.does; lines = lines; counts = counts_behind part.ends (lines_of did.next) (lines_of s) did.kept.lines; after_is = refl; told_is = refl };
        counted = counted_lines lines did.next did.kept.together.some;
      };
      together = together_counted lines did.next did.kept.together;
    }

record PlayGoes (parts : List LanePart) (s : Lanes) : Type 0 where
  points : List LanePoint
  plays : IsLanePlay s parts points
  together : IsTogether (state_behind s points)

play_goes : (parts : List LanePart) (s : Lanes) → IsTogether s → PartsSet parts → PlayGoes parts s
play_goes [] s is sets = record { points = []; plays = tt; together = is }
play_goes (part ∷ parts) s is sets =
    let one = part_goes part s is (sets.0 s) in
    let more = play_goes parts one.point.after one.together sets.1 in
    record { points = one.point ∷ more.points; plays = (one.steps, more.plays); together = more.together }

record RunGoes (s : Lanes) (asked : List LaneLine) : Type 0 where
  done : List (List LanePoint)
  run : IsLaneRun s asked done

run_goes : (s : Lanes) (asked : List LaneLine) → IsTogether s → AllByRecursion SetsFew asked → RunGoes s asked
run_goes s [] is sets = record { done = []; run = tt }
run_goes s (line ∷ asked) is sets =
    let first = play_goes (parts_of (length s.tracks) line) s is (parts_set (length s.tracks) line sets.0) in
    let later = run_goes (state_behind s first.points) asked first.together sets.1 in
    record { done = first.points ∷ later.done; run = (first.plays, later.run) }

-- EACH SCRIPT HAS A RUN
pub each_run : EachLaneScriptHasARun
each_run asked sets =
    let goes = run_goes no_lanes asked together_none sets in
    record { done = goes.done; run = goes.run }
