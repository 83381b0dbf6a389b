-- That a board comes from another lane isn't told by itself: what is told over several lanes is told
-- as done on its lane, and a shift once, by the lane that gives.
use Rattle.std.proofs.Common.{◌≡◌, ◌++◌, ℕ, Bool, true, false, List, [], ◌∷◌, Option, Some, None, subst, sym, ◌∙◌}
use Rattle.std.specs.Prelude.{if◌then◌else◌}
use Rattle.std.specs.List.{AllByRecursion, flat_map}
use Rattle.line_script.specs.declared.line.LaneLine.{LaneLine}
use Rattle.line_script.specs.declared.line.ScriptLine.{ScriptLine}
use Rattle.node_core.specs.Node.{desk_of}
use Rattle.node_core.specs.Reads.{all_read}
use Rattle.node_core.specs.declared.act.Act.TheVariants as acts
use Rattle.standings.specs.declared.standing.Standing.{Standing}
use Rattle.standings.specs.declared.standing.Standing.TheVariants as standings
use Rattle.line_report.specs.Lanes.{told_on}
use Rattle.line_report.specs.declared.happening.Happening.{Happening}
use Rattle.line_report.specs.declared.happening.Happening.TheVariants as happenings
use Rattle.line_report.specs.declared.happening.LaneHappening.{LaneHappening}
use Rattle.line_step.specs.Lines.{LineDoes}
use Rattle.line_step.specs.Requests.{request_of}
use Rattle.line_step.specs.Shown.{ascending, ids_marked}
use Rattle.line_step.specs.Steps.{moment_of, unread_by}
use Rattle.line_step.proofs.Shifted.{does_asked}
use Rattle.law_lanes.specs.Lanes.{Lanes, track}
use Rattle.law_lanes.specs.Parts.{IsLanePlay, IsLaneRun, LanePart, LanePoint, all_points, parts_of, state_behind}
use Rattle.law_lanes.specs.Shown.{LaneMarks, LanePlace, is_same_place, marked_on, marks_told, place_told, standing_happens, standing_on, standings_on}
use Rattle.law_lanes.specs.Steps.{LanesStep, OnTrack, Shifts}
use Rattle.law_lanes.proofs.Shifting.{IsCalm, ShiftTold, TellsOne, first_is_kept, gets_tells, gives_tells, shift_parts}
use Rattle.law_lanes.proofs.Telling.{flat_all, join_all}
use Rattle.law_report_ledger.proofs.InLane.{StaysInLane, told_in_lane}
use Rattle.law_report_ledger.proofs.Walk.{EachOn, IsPlain, both_on, each_so, line_is, on_one}

abbrev pub IsNoComing : Happening → Type 0
IsNoComing (happenings.Done machine (acts.Gets id)) = ⊥
IsNoComing _ = Unit {0}

abbrev pub AreTold : List LaneHappening → Type 0
AreTold told = EachOn IsNoComing told

-- along a run
abbrev pub AreAllTold : List LanePoint → Type 0
AreAllTold points = AllByRecursion (λ (point : LanePoint). AreTold point.told) points

plain : IsPlain IsNoComing
plain =
    record {
      no = λ reason. tt;
      lanes = λ count. tt;
      stop = λ machine. tt;
      machine = λ number capacity. tt;
      bridge = λ number capacity. tt;
      shown = λ number id quality. tt;
      between = λ gap id. tt;
    }

-- ---- a line of one lane

stays : (h : Happening) → StaysInLane h → IsNoComing h
stays (happenings.Done machine (acts.Gets id)) lane = lane
stays _ lane = tt

track_told : (number lane : ℕ) (line : ScriptLine) (before after : Lanes)
    (told : List LaneHappening) → OnTrack lane (LineDoes number (request_of line)) before after told
    → AreTold told
track_told number lane line before after told did =
    let asked = does_asked number (request_of line) (track lane before) did.next did.done did.does in
    subst AreTold (sym did.told_is)
    (on_one IsNoComing lane did.done
    (each_so StaysInLane IsNoComing did.done stays (told_in_lane line did.done asked)))

-- ---- a shift

calm : (h : Happening) → IsCalm h → IsNoComing h
calm (happenings.Done machine (acts.Gets id)) is = is
calm _ is = tt

calm_on : (lane : ℕ) (told : List Happening) → AllByRecursion IsCalm told
    → AreTold (told_on lane told)
calm_on lane told all =
    on_one IsNoComing lane told (each_so IsCalm IsNoComing told calm all)

shift_is_told : (number machine from to id : ℕ) (before after : Lanes)
    (told : List LaneHappening) → Shifts number machine from to id before after told → AreTold told
shift_is_told number machine from to id before after told shift =
    let giver = track from before in
    let given = gives_tells number machine id to giver shift.gave shift.given shift.gives shift.board
    shift.is in
    let own : shift.board.id ≡ id =
    (first_is_kept id (all_read (desk_of shift.gives.node (moment_of number))
    (unread_by machine giver.world) shift.gives.node.lane.body).body.kept shift.board shift.is).is in
    let taken = subst (λ (n : ℕ). TellsOne machine (acts.Gets n) shift.taken) own
    (gets_tells number machine shift.board _ shift.got shift.taken shift.gets) in
    let parts : ShiftTold machine from to id shift.given shift.taken =
    record { gives = given; gets = taken } in
    let a = told_on from given.front in
    let b = told_on to taken.front in
    let c = told_on from (happenings.Done machine (acts.Gives id to) ∷ given.back) in
    let d = told_on to taken.back in
    let gives : AreTold c = (tt, calm_on from given.back given.last) in
    subst AreTold
    (sym (shift.told_is ∙ shift_parts machine from to id shift.given shift.taken parts))
    (both_on IsNoComing ((a ++ b) ++ c) d
    (both_on IsNoComing (a ++ b) c
    (both_on IsNoComing a b (calm_on from given.front given.first) (calm_on to taken.front taken.first))
    gives) (calm_on to taken.back taken.last))

-- ---- standings

place_is_told : (id : ℕ) (place : Option LanePlace) → AreTold (place_told id place)
place_is_told id None = tt
place_is_told id (Some place) = by place.standing where
  by : (standing : Standing) → AreTold (told_on place.lane (standing_happens id standing ∷ []))
  by (standings.With machine) = (tt, tt)
  by (standings.Between gap) = (tt, tt)

changed_told : (same : Bool) (id : ℕ) (place : Option LanePlace)
    → AreTold (if same then [] else place_told id place)
changed_told true id place = tt
changed_told false id place = place_is_told id place

marks_are_told : (id : ℕ) (before now : List LaneMarks) → AreTold (marks_told id before now)
marks_are_told id [] [] = tt
marks_are_told id (own ∷ others) [] = (tt, tt)
marks_are_told id before (own ∷ others) =
    changed_told (is_same_place (standing_on (own ∷ others)) (standing_on before)) id
    (standing_on (own ∷ others))

standings_told : (before after : Lanes) → AreTold (standings_on before after)
standings_told before after =
    flat_all (λ (h : LaneHappening). IsNoComing h.what)
    (λ (id : ℕ). marks_told id (marked_on before id) (marked_on after id))
    (ascending (flat_map ids_marked before.tracks ++ flat_map ids_marked after.tracks))
    (λ id. marks_are_told id (marked_on before id) (marked_on after id))

-- ---- along a run

step_told : (number : ℕ) (line : LaneLine) (before after : Lanes) (told : List LaneHappening)
    → LanesStep number line before after told → AreTold told
step_told number line before after told step =
    subst AreTold (sym step.told_is)
    (both_on IsNoComing step.done (standings_on before step.next)
    (line_is IsNoComing plain number line before step.next step.done
    (λ lane own did. track_told number lane own before step.next step.done did)
    (λ machine from to id did. shift_is_told number machine from to id before step.next step.done did)
    step.does)
    (standings_told before step.next))

play_told : (s : Lanes) (parts : List LanePart) (points : List LanePoint)
    → IsLanePlay s parts points → AreAllTold points
play_told s [] [] play = tt
play_told s [] (point ∷ points) play = absurd play
play_told s (part ∷ parts) [] play = absurd play
play_told s (part ∷ parts) (point ∷ points) play = (
  step_told _ (part.line s) s point.after point.told play.0.steps,
  play_told point.after parts points play.1,
)

pub run_told : (s : Lanes) (asked : List LaneLine) (done : List (List LanePoint))
    → IsLaneRun s asked done → AreAllTold (all_points done)
run_told s [] [] run = tt
run_told s [] (own ∷ done) run = absurd run
run_told s (line ∷ asked) [] run = absurd run
run_told s (line ∷ asked) (own ∷ done) run =
    join_all (λ (point : LanePoint). AreTold point.told) own (all_points done)
    (play_told s (parts_of _ line) own run.0) (run_told (state_behind s own) asked done run.1)
